use Rattle.sn_raster.specs.Grid.{IsInRaw}
use Rattle.sn_open.specs.Update.{IsRowPut}
use Rattle.sn_open.proofs.planes.fill_raw_row.Given as goal

abbrev pub invariant-loop-column : goal.invariant-loop-column
invariant-loop-column l = IsRowPut (λ n. IsInRaw l.g n) l.g l.row l.fn.plane l.plane l.column
