use Rattle.sn_raster.proofs.HeightTops.{top_is_one}
use Rattle.sn_raster.proofs.HeightCounts.{cells_are_counted}
use Rattle.sn_raster.proofs.height_laws.counts.Goals as goal

pub returns-clause-top : goal.returns-clause-top
returns-clause-top c = top_is_one

pub returns-clause-cells : goal.returns-clause-cells
returns-clause-cells c = cells_are_counted
