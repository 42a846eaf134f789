use Rattle.std.proofs.Common.{ℕ, ◌<◌}
use Rattle.sn_open.specs.Window.{node_at}
use Rattle.sn_open.specs.Update.{IsAlone}
use Rattle.sn_open.proofs.planes.first_alone_in.Given as goal

abbrev pub invariant-loop-column : goal.invariant-loop-column
invariant-loop-column l = (k : ℕ) → k < l.column → ¬ IsAlone l.plane l.other (node_at l.g k l.row)
