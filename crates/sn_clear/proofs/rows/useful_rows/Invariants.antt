use Rattle.std.proofs.Common.{◌≡◌, ◌≤◌}
use Rattle.sn_clear.specs.Rows.{row_number}
use Rattle.sn_clear.proofs.rows.useful_rows.Given as goal

abbrev pub invariant-loop-row : goal.invariant-loop-row
invariant-loop-row l = record { counted : l.count ≡ row_number l.f l.row; small : l.count ≤ l.row }
