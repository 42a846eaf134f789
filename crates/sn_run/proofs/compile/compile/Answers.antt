use Rattle.std.proofs.lemmas.Result.{err_from_is_err_and}
use Rattle.sn_run.proofs.LoadLemmas.{file_uncompiled, if_compiled, if_uncompiled}
use Rattle.sn_run.proofs.compile.compile.Goals as goal

pub returns-in_err-job-clause-refused : goal.returns-in_err-job-clause-refused
returns-in_err-job-clause-refused g c =
    let state = g.F.Files.state in
    let p = err_from_is_err_and c.from_residual.result c.from_residual.ensures.1 in
    rw (p.1, p.2)
    (file_uncompiled (state c.args.files.now) (state c.load.new.files) c.args.name.now c.args.opts.now c.in_err-job.field-0.0 c.in_err-job.ensures.refused)

pub returns-clause-compiled : goal.returns-clause-compiled
returns-clause-compiled g c =
    if_compiled (g.F.Files.state c.args.files.now) c.args.name.now c.args.opts.now c.in_ok-job.job c.plan_job.result c.in_ok-job.ensures.sound c.plan_job.ensures.planned

pub returns-clause-refused : goal.returns-clause-refused
returns-clause-refused g c =
    let state = g.F.Files.state in
    if_uncompiled (state c.args.files.now) (state c.load.new.files) c.args.name.now c.args.opts.now c.in_ok-job.job c.plan_job.result c.in_ok-job.ensures.sound
    c.plan_job.ensures.refused
