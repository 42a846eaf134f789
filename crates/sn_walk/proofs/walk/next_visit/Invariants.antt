use Rattle.std.proofs.Common.{None, length, reverse}
use Rattle.sn_walk.specs.Pending.{GoesOn}
use Rattle.sn_walk.proofs.walk.next_visit.Given as goal

abbrev pub invariant-loop-item : goal.invariant-loop-item
invariant-loop-item l = GoesOn (reverse l.initial.pending) (reverse l.initial.truths) None (reverse l.pending) (reverse l.truths)

abbrev pub decreases-loop-item : goal.decreases-loop-item
decreases-loop-item l = length l.pending
