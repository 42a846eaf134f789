use Rattle.std.proofs.Common.{◌≡◌, ◌-◌, None, [], reverse}
use Rattle.sn_walk.specs.declared.limits.TheConstants.{MOST_VISITS}
use Rattle.sn_walk.specs.Pending.{IsAt, coming}
use Rattle.sn_walk.proofs.walk.executed.Given as goal

abbrev pub invariant-loop-next : goal.invariant-loop-next
invariant-loop-next l = record {
  at : IsAt l.c l.sets l.walk.visits l.walk.steps (coming l.next (reverse l.walk.pending)) (reverse l.walk.truths);
  ends : l.next ≡ None → l.walk.pending ≡ [];
}

abbrev pub decreases-loop-next : goal.decreases-loop-next
decreases-loop-next l = MOST_VISITS - l.walk.visits
