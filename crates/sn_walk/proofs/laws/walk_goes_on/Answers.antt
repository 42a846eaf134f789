use Rattle.sn_walk.proofs.DepthLemmas.{truth_goes_by_operands, walk_goes_on}
use Rattle.sn_walk.proofs.laws.walk_goes_on.Goals as goal

pub returns-clause-truth : goal.returns-clause-truth
returns-clause-truth c = truth_goes_by_operands c.instances_lead.ensures c.chains_are_short.ensures

pub returns-clause-walk : goal.returns-clause-walk
returns-clause-walk c = walk_goes_on c.instances_lead.ensures c.chains_are_short.ensures
