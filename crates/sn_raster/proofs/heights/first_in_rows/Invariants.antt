use Rattle.std.proofs.Common.{◌≤ℤ◌, ◌<ℤ◌}
use Rattle.sn_geom.specs.declared.units.Cell.{Cell}
use Rattle.sn_raster.specs.Heights.{IsTouchedCell}
use Rattle.sn_raster.proofs.heights.first_in_rows.Given as goal

abbrev pub invariant-loop-j : goal.invariant-loop-j
invariant-loop-j l = record {
  low : l.initial.j ≤ℤ l.j;
  none : (c : Cell) → c.j <ℤ l.j → ¬ IsTouchedCell l.map l.d l.a l.b l.from c;
}
