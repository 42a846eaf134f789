use Rattle.sn_entity.proofs.LimitLemmas.{shows_within_limits}
use Rattle.sn_entity.proofs.limits.shows_within_limits.Goals as goal

pub returns : goal.returns
returns c = shows_within_limits
