use Rattle.std.proofs.Common.{pos, ◌-ℤ◌}
use Rattle.sn_raster.proofs.RowRuns.{IsRunTo}
use Rattle.sn_raster.proofs.turns.run_row.Given as goal

abbrev pub invariant-loop-k : goal.invariant-loop-k
invariant-loop-k l = IsRunTo l.g l.j l.fn.row l.row l.odd (l.g.i1 -ℤ pos l.k)
