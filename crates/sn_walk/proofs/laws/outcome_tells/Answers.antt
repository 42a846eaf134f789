use Rattle.sn_walk.proofs.OutcomeLemmas.{outcome_tells, faults_tell, walk_is_short}
use Rattle.sn_walk.proofs.laws.outcome_tells.Goals as goal

pub returns-clause-tells : goal.returns-clause-tells
returns-clause-tells c = outcome_tells

pub returns-clause-short : goal.returns-clause-short
returns-clause-short c = walk_is_short

pub returns-clause-faults : goal.returns-clause-faults
returns-clause-faults c = faults_tell
