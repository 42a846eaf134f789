use Rattle.std.proofs.lemmas.Result.{err_from_is_err_and}
use Rattle.sn_run.proofs.JudgeLemmas.{of_job, with_these}
use Rattle.sn_run.proofs.judge.judge.Goals as goal

pub returns-in_err-model-clause-refused : goal.returns-in_err-model-clause-refused
returns-in_err-model-clause-refused c =
    let p = err_from_is_err_and c.from_residual.result c.from_residual.ensures.1 in
    rw (p.1, p.2) (with_these c.args.bytes.now c.args.opts.now c.in_err-model.field-0.0 c.in_err-model.ensures.refused)

pub returns-in_err-job-clause-refused : goal.returns-in_err-job-clause-refused
returns-in_err-job-clause-refused c =
    let p = err_from_is_err_and c.from_residual-in_err-job.result c.from_residual-in_err-job.ensures.1 in
    rw (p.1, p.2)
    (of_job c.args.bytes.now c.args.opts.now c.in_ok-model.model c.in_err-job.field-0.0 c.in_ok-model.ensures.sound c.in_err-job.ensures.refused)
