use Rattle.sn_model.proofs.NumbersAndLimits.{kept_within_limits}
use Rattle.sn_model.proofs.laws.kept_within_limits.Goals as goal

pub returns : goal.returns
returns c = kept_within_limits c.shows_within_limits.ensures
