use Rattle.sn_raster.proofs.HeightPasses.{cut_stays_cut, same_passes_leave_the_same, untouched_is_left}
use Rattle.sn_raster.proofs.height_laws.materials.Goals as goal

pub returns-clause-stays : goal.returns-clause-stays
returns-clause-stays c = cut_stays_cut

pub returns-clause-same_passes : goal.returns-clause-same_passes
returns-clause-same_passes c = same_passes_leave_the_same

pub returns-clause-untouched : goal.returns-clause-untouched
returns-clause-untouched c = untouched_is_left c.touching.ensures.cut
