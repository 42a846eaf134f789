use Rattle.sn_outline.proofs.JobLaws.{job_without_steps, same_steps_make_a_job, tools_are_listed, tip_near_the_floor}
use Rattle.sn_outline.proofs.laws.jobs.Goals as goal

pub returns-clause-no_steps : goal.returns-clause-no_steps
returns-clause-no_steps c = job_without_steps

pub returns-clause-same_steps : goal.returns-clause-same_steps
returns-clause-same_steps c = same_steps_make_a_job

pub returns-clause-tools : goal.returns-clause-tools
returns-clause-tools c = tools_are_listed

pub returns-clause-tip : goal.returns-clause-tip
returns-clause-tip c = tip_near_the_floor
