use Rattle.std.proofs.Common.{◌≡◌, ◌≤ℤ◌, ◌<ℤ◌}
use Rattle.sn_geom.specs.declared.units.Cell.{Cell}
use Rattle.sn_raster.specs.Heights.{IsTouchedCell}
use Rattle.sn_raster.proofs.heights.first_in_row.Given as goal

abbrev pub invariant-loop-i : goal.invariant-loop-i
invariant-loop-i l = record {
  low : l.initial.i ≤ℤ l.i;
  none : (c : Cell) → c.j ≡ l.j → c.i <ℤ l.i → ¬ IsTouchedCell l.map l.d l.a l.b l.from c;
}
