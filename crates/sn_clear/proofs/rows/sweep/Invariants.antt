use Rattle.std.proofs.Common.{◌≡◌, ◌≤◌}
use Rattle.sn_clear.specs.Rows.{row_number, row_place, sweep_before}
use Rattle.sn_clear.proofs.rows.sweep.Given as goal

abbrev pub invariant-loop-row : goal.invariant-loop-row
invariant-loop-row l = record {
  number : l.number ≡ row_number l.f l.row;
  numbers : l.number ≤ l.row;
  place : l.place ≡ row_place l.f l.every l.row;
  places : l.place ≤ l.row;
  made : l.strokes.items ≡ sweep_before l.f l.every l.row;
}
