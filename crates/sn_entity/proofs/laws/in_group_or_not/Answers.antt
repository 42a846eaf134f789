use Rattle.sn_entity.proofs.GroupLemmas.{in_group_or_not}
use Rattle.sn_entity.proofs.laws.in_group_or_not.Goals as goal

pub returns : goal.returns
returns c = in_group_or_not
