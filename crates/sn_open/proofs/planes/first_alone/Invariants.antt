use Rattle.std.proofs.Common.{ℕ, ◌<◌}
use Rattle.sn_open.specs.Window.{columns, node_at}
use Rattle.sn_open.specs.Update.{IsAlone}
use Rattle.sn_open.proofs.planes.first_alone.Given as goal

abbrev pub invariant-loop-row : goal.invariant-loop-row
invariant-loop-row l = (k r : ℕ) → k < columns l.g → r < l.row → ¬ IsAlone l.plane l.other (node_at l.g k r)
