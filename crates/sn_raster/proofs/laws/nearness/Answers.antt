use Rattle.sn_raster.proofs.Besides.{near_is_in_a_box}
use Rattle.sn_raster.proofs.laws.nearness.Goals as goal

pub returns : goal.returns
returns c = near_is_in_a_box
