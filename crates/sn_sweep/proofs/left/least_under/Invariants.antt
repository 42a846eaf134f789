use Rattle.sn_sweep.proofs.LeftLemmas.{IsLeastSoFar}
use Rattle.sn_sweep.proofs.left.least_under.Given as goal

abbrev pub invariant-loop-other : goal.invariant-loop-other
invariant-loop-other l = IsLeastSoFar l.steps l.step.feature l.other-index l.least
