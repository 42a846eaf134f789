use Rattle.sn_outline.proofs.Corners.{rectangle_is_its_corners}
use Rattle.sn_outline.proofs.laws.corners.Goals as goal

pub returns : goal.returns
returns c = rectangle_is_its_corners
