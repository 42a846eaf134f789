use Rattle.std.proofs.Common.{take}
use Rattle.sn_model.specs.Built.{AreKept}
use Rattle.sn_model.proofs.model.keep_all.Given as goal

abbrev pub invariant-loop-place : goal.invariant-loop-place
invariant-loop-place l = AreKept (take l.place l.instances) l.kept.entries
