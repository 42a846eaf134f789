use Rattle.std.proofs.Common.{length}
use Rattle.sn_sweep.specs.Pieces.{HasTakenAllBut}
use Rattle.sn_sweep.proofs.checker.Checker.feed.Given as goal

abbrev pub invariant-loop-end : goal.invariant-loop-end
invariant-loop-end l = HasTakenAllBut l.piece l.left l.fn.self l.self

abbrev pub decreases-loop-end : goal.decreases-loop-end
decreases-loop-end l = length l.left
