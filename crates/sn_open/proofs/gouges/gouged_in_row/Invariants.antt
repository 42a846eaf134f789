use Rattle.std.proofs.Common.{◌≡◌, pos, ◌+ℤ◌, ◌<ℤ◌}
use Rattle.sn_geom.specs.declared.units.Cell.{Cell}
use Rattle.sn_open.specs.Gouged.{IsGougedCell}
use Rattle.sn_open.proofs.gouges.gouged_in_row.Given as goal

abbrev pub invariant-loop-column : goal.invariant-loop-column
invariant-loop-column l = (c : Cell) → c.j ≡ l.g.j0 +ℤ pos l.row → c.i <ℤ (l.g.i0 +ℤ pos l.column) → ¬ IsGougedCell l.map l.d l.a l.b l.ok c
