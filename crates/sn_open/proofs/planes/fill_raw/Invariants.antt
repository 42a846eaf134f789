use Rattle.sn_raster.specs.Grid.{IsInRaw}
use Rattle.sn_open.specs.Update.{AreRowsPut}
use Rattle.sn_open.proofs.planes.fill_raw.Given as goal

abbrev pub invariant-loop-row : goal.invariant-loop-row
invariant-loop-row l = AreRowsPut (λ n. IsInRaw l.g n) l.g l.fn.plane l.plane l.row
