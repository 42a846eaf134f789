use Rattle.std.proofs.Common.{◌≤ℤ◌}
use Rattle.sn_outline.specs.Outline.{InOutline}
use Rattle.sn_raster.specs.Grid.{place}
use Rattle.sn_raster.proofs.PlaneRows.{AreRowsMarked}
use Rattle.sn_raster.proofs.filling.fill.Given as goal

abbrev pub invariant-loop-j : goal.invariant-loop-j
invariant-loop-j l = record { low : l.g.j0 ≤ℤ l.j; from : l.initial.j ≤ℤ l.j; marked : AreRowsMarked (λ n. InOutline l.o (place l.g.pitch n)) (λ _. ⊥) l.g l.plane l.j }
