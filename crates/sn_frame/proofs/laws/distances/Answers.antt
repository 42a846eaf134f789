use Rattle.sn_frame.proofs.Distances.{distance_squared-applied}
use Rattle.sn_frame.proofs.laws.distances.Goals as goal

pub returns : goal.returns
returns c = distance_squared-applied
