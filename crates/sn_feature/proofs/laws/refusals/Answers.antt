use Rattle.sn_feature.proofs.StepProofs.{never_memory, faults_in_order}
use Rattle.sn_feature.proofs.laws.refusals.Goals as goal

pub returns-clause-memory : goal.returns-clause-memory
returns-clause-memory c = never_memory

pub returns-clause-order : goal.returns-clause-order
returns-clause-order c = faults_in_order
