use Rattle.std.proofs.Common.{◌≤ℤ◌}
use Rattle.sn_raster.proofs.Rows.{IsFilled}
use Rattle.sn_raster.proofs.outlines.fill_each.Given as goal

abbrev pub invariant-loop-i : goal.invariant-loop-i
invariant-loop-i l = record { low : l.g.i0 ≤ℤ l.i; filled : IsFilled l.o l.g l.j l.fn.row l.row l.i }
