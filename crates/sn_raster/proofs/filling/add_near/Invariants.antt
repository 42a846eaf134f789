use Rattle.std.proofs.Common.{◌≤ℤ◌}
use Rattle.sn_geom.specs.Sweep.{Near}
use Rattle.sn_raster.specs.Grid.{place}
use Rattle.sn_raster.specs.Plane.{Has}
use Rattle.sn_raster.proofs.PlaneRows.{AreRowsMarked}
use Rattle.sn_raster.proofs.filling.add_near.Given as goal

abbrev pub invariant-loop-j : goal.invariant-loop-j
invariant-loop-j l = record { low : l.g.j0 ≤ℤ l.j; from : l.initial.j ≤ℤ l.j; marked : AreRowsMarked (λ n. Near l.d l.segment.a l.segment.b (place l.g.pitch n)) (λ n. Has l.fn.plane n) l.g l.plane l.j }
