use Rattle.std.proofs.lemmas.Result.{err_from_is_err_and}
use Rattle.sn_run.proofs.JudgeLemmas.{found_job, refused_job}
use Rattle.sn_run.proofs.prepare.prepare.Goals as goal

pub returns-in_err-job-clause-refused : goal.returns-in_err-job-clause-refused
returns-in_err-job-clause-refused c =
    let p = err_from_is_err_and c.from_residual.result c.from_residual.ensures.1 in
    rw (p.1, p.2) (refused_job c.jobs.ensures.no_other c.args.c.now c.args.o.now c.in_err-job.field-0.0 c.in_err-job.ensures)

pub returns-in_default-clause-refused : goal.returns-in_default-clause-refused
returns-in_default-clause-refused c = λ _. (c.in_ok-job.job, found_job c.args.c.now c.args.o.now c.in_ok-job.job c.in_ok-job.ensures, c.in_default.ensures)

pub returns-in-Ok-None-clause-prepared : goal.returns-in-Ok-None-clause-prepared
returns-in-Ok-None-clause-prepared c = record {
  job_is = found_job c.args.c.now c.args.o.now c.in_ok-job.job c.in_ok-job.ensures;
  fits = c.in-Ok.ensures.0;
  seen = rw c.in-Ok-None.field-0-is at c.in-Ok-None.ensures;
}

pub returns-in-Ok-Some-clause-refused : goal.returns-in-Ok-Some-clause-refused
returns-in-Ok-Some-clause-refused c = λ _. (
  c.in_ok-job.job,
  found_job c.args.c.now c.args.o.now c.in_ok-job.job c.in_ok-job.ensures,
  c.in-Ok.ensures.0,
  (rw c.in-Ok-Some.field-0-is at c.in-Ok-Some.ensures),
)
