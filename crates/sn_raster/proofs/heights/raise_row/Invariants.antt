use Rattle.std.proofs.Common.{◌≤ℤ◌}
use Rattle.sn_raster.specs.RawSlab.{IsRawSlab}
use Rattle.sn_raster.proofs.HeightRows.{IsRowPassed}
use Rattle.sn_raster.proofs.heights.raise_row.Given as goal

abbrev pub invariant-loop-i : goal.invariant-loop-i
invariant-loop-i l = record {
  low : l.g.i0 ≤ℤ l.i;
  passed : IsRowPassed (IsRawSlab l.g) l.g l.j l.fn.map l.map l.i;
}
