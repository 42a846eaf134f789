use Rattle.std.proofs.Common.{ℕ, ◌<◌, ◌≤◌}
use Rattle.sn_link.proofs.FreeWayLemmas.{HasAllInRow}
use Rattle.sn_link.proofs.free_way.lacks_any.Given as goal

abbrev pub invariant-loop-row : goal.invariant-loop-row
invariant-loop-row l = (k : ℕ) → l.initial.row ≤ k → k < l.row → HasAllInRow l.plane l.d l.way l.g l.columns.from l.columns.to k
