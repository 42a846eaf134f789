use Rattle.sn_flow.proofs.JobLemmas.{at_walk, workpiece_second, raw_box_third, security_fourth, steps_last, else_the_job}
use Rattle.sn_flow.proofs.laws.refusals.Goals as goal

pub returns-clause-walk : goal.returns-clause-walk
returns-clause-walk c = at_walk

pub returns-clause-workpiece : goal.returns-clause-workpiece
returns-clause-workpiece c = workpiece_second

pub returns-clause-raw_box : goal.returns-clause-raw_box
returns-clause-raw_box c = raw_box_third

pub returns-clause-security : goal.returns-clause-security
returns-clause-security c = security_fourth

pub returns-clause-steps : goal.returns-clause-steps
returns-clause-steps c = steps_last

pub returns-clause-job : goal.returns-clause-job
returns-clause-job c = else_the_job
