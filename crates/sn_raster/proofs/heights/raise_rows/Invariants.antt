use Rattle.std.proofs.Common.{◌≤ℤ◌}
use Rattle.sn_raster.specs.RawSlab.{IsRawSlab}
use Rattle.sn_raster.proofs.HeightRows.{AreRowsPassed}
use Rattle.sn_raster.proofs.heights.raise_rows.Given as goal

abbrev pub invariant-loop-j : goal.invariant-loop-j
invariant-loop-j l = record {
  low : l.g.j0 ≤ℤ l.j;
  passed : AreRowsPassed (IsRawSlab l.g) l.g l.fn.map l.map l.j;
}
