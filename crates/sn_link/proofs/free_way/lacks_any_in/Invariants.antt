use Rattle.std.proofs.Common.{ℕ, ◌<◌, ◌≤◌}
use Rattle.sn_open.specs.Window.{node_at}
use Rattle.sn_link.specs.Layering.{IsLacking}
use Rattle.sn_link.proofs.free_way.lacks_any_in.Given as goal

abbrev pub invariant-loop-column : goal.invariant-loop-column
invariant-loop-column l = (k : ℕ) → l.fn.span.from ≤ k → k < l.column → ¬ IsLacking l.plane l.d l.way (node_at l.g k l.row)
