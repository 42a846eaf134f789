use Rattle.sn_walk.proofs.OutcomeLemmas.{visits_are_bounded, limits_tell}
use Rattle.sn_walk.proofs.laws.limits_tell.Goals as goal

pub returns-clause-visits : goal.returns-clause-visits
returns-clause-visits c = visits_are_bounded

pub returns-clause-borders : goal.returns-clause-borders
returns-clause-borders c = limits_tell
