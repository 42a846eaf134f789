use Rattle.std.proofs.Common.{pos, ◌+ℤ◌, ◌<ℤ◌}
use Rattle.sn_geom.specs.declared.units.Cell.{Cell}
use Rattle.sn_open.specs.Gouged.{IsGougedCell}
use Rattle.sn_open.proofs.gouges.gouged_in_rows.Given as goal

abbrev pub invariant-loop-row : goal.invariant-loop-row
invariant-loop-row l = (c : Cell) → c.j <ℤ (l.g.j0 +ℤ pos l.row) → ¬ IsGougedCell l.map l.d l.a l.b l.ok c
