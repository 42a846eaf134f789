use Rattle.std.proofs.Common.{ℕ, ◌<◌}
use Rattle.sn_raster.specs.Plane.{Has}
use Rattle.sn_open.specs.Window.{node_at}
use Rattle.sn_fit.proofs.drill.has_node_in.Given as goal

abbrev pub invariant-loop-column : goal.invariant-loop-column
invariant-loop-column l = (k : ℕ) → k < l.column → ¬ Has l.plane (node_at l.g k l.row)
