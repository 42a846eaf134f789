use Rattle.std.proofs.Common.{take}
use Rattle.sn_model.proofs.ProjectLemmas.{SoFar}
use Rattle.sn_model.proofs.model.project_of.Given as goal

abbrev pub invariant-loop-place : goal.invariant-loop-place
invariant-loop-place l = SoFar (take l.place l.instances) l.project
