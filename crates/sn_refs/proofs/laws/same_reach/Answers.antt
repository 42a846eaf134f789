use Rattle.sn_refs.proofs.ReachLemmas.{same_reach}
use Rattle.sn_refs.proofs.laws.same_reach.Goals as goal

pub returns : goal.returns
returns c = same_reach
