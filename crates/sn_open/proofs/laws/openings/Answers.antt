use Rattle.sn_open.proofs.RegionLawLemmas.{follower_opens_its_way}
use Rattle.sn_open.proofs.laws.openings.Goals as goal

pub returns-clause-following : goal.returns-clause-following
returns-clause-following c = follower_opens_its_way
