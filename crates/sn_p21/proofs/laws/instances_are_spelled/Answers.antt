use Rattle.sn_p21.proofs.InstancesSpelled.{instances_are_spelled}
use Rattle.sn_p21.proofs.laws.instances_are_spelled.Goals as goal

pub returns : goal.returns
returns c = instances_are_spelled
