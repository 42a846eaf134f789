use Rattle.std.proofs.Common.{ℕ, ◌<◌}
use Rattle.sn_fit.proofs.NodeLemmas.{LacksRow}
use Rattle.sn_fit.proofs.drill.has_node.Given as goal

abbrev pub invariant-loop-row : goal.invariant-loop-row
invariant-loop-row l = (k : ℕ) → k < l.row → LacksRow l.plane l.g k
