use Rattle.sn_clear.proofs.SurfaceLaws.{cover_by_centres, discs_of_grid}
use Rattle.sn_clear.proofs.laws.covering.Goals as goal

pub returns : goal.returns
returns c = record { centres = cover_by_centres; discs = discs_of_grid }
