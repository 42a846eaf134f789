use Rattle.sn_run.proofs.OutcomeLawLemmas.{one_job, one_verdict, one_outcome}
use Rattle.sn_run.proofs.laws.outcome.outcomes.Goals as goal

pub returns-clause-one_job : goal.returns-clause-one_job
returns-clause-one_job c = one_job c.one_meaning.ensures c.one_file.ensures c.one_fault.ensures c.one_model.ensures c.one_verdict.ensures

pub returns-clause-one_verdict : goal.returns-clause-one_verdict
returns-clause-one_verdict c = one_verdict c.one_case.ensures c.verdicts.ensures.one

pub returns-clause-one_outcome : goal.returns-clause-one_outcome
returns-clause-one_outcome c =
    let job = one_job c.one_meaning.ensures c.one_file.ensures c.one_fault.ensures c.one_model.ensures c.one_verdict.ensures in
    let verdict = one_verdict c.one_case.ensures c.verdicts.ensures.one in
    one_outcome c.one_meaning.ensures c.sound_or_refused.ensures c.plans.ensures.one_plan c.one_count.ensures job verdict c.refusals.ensures.one_refusal
