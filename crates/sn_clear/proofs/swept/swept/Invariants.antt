use Rattle.std.proofs.Common.{take}
use Rattle.sn_clear.proofs.SweptLemmas.{AreSwept}
use Rattle.sn_clear.proofs.swept.swept.Given as goal

abbrev pub invariant-loop-run : goal.invariant-loop-run
invariant-loop-run l = AreSwept l.g (take l.run-index l.runs) l.plane
