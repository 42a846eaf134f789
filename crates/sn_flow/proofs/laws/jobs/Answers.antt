use Rattle.sn_flow.proofs.JobLawLemmas.{no_other_fault, given_box_is_used, steps_are_executed}
use Rattle.sn_flow.proofs.laws.jobs.Goals as goal

pub returns-clause-executed : goal.returns-clause-executed
returns-clause-executed c = steps_are_executed

pub returns-clause-given : goal.returns-clause-given
returns-clause-given c = given_box_is_used

pub returns-clause-no_other : goal.returns-clause-no_other
returns-clause-no_other c = no_other_fault (λ m o. (c.outcome_tells.ensures.short m o.sets).1)
