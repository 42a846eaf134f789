use Rattle.std.proofs.Common.{◌≤ℤ◌}
use Rattle.sn_geom.specs.Sweep.{Near}
use Rattle.sn_raster.specs.Grid.{place}
use Rattle.sn_raster.proofs.SegmentRows.{IsMarkedTo}
use Rattle.sn_raster.proofs.segments.mark_columns.Given as goal

abbrev pub invariant-loop-i : goal.invariant-loop-i
invariant-loop-i l = record { low : l.columns.first ≤ℤ l.i; marked : IsMarkedTo (λ n. Near l.d l.e.a l.e.b (place l.g.pitch n)) l.g l.j l.fn.row l.row l.i }
