use Rattle.sn_walk.proofs.ConditionLemmas.{conditions_tell, assignments_tell}
use Rattle.sn_walk.proofs.laws.conditions_tell.Goals as goal

pub returns-clause-conditions : goal.returns-clause-conditions
returns-clause-conditions c = conditions_tell

pub returns-clause-assignments : goal.returns-clause-assignments
returns-clause-assignments c = assignments_tell
