use Rattle.std.proofs.Common.{ap, ◌∙◌}
use Rattle.std.proofs.lemmas.Result.{err_from_is_err_and}
use Rattle.sn_words.specs.Options.{Options}
use Rattle.sn_run.specs.Answer.{generated_text}
use Rattle.sn_run.proofs.LoadLemmas.{if_compiled_text, if_left, sound_text, text_refused}
use Rattle.sn_run.proofs.compile.compile_generated.Goals as goal

pub returns-in_err-job-clause-refused : goal.returns-in_err-job-clause-refused
returns-in_err-job-clause-refused c =
    let p = err_from_is_err_and c.from_residual-in_err-job.result c.from_residual-in_err-job.ensures.1 in
    rw (p.1, p.2)
    (text_refused c.as_slice.result.now (generated_text c.args.opts.now.seed) c.args.opts.now c.in_err-job.field-0.0
    (c.as_slice.ensures ∙ c.in_ok-text.ensures ∙ ap (λ (o : Options). generated_text o.seed) c.opts.view_is) c.in_err-job.ensures.refused)

pub returns-clause-compiled : goal.returns-clause-compiled
returns-clause-compiled c =
    if_compiled_text (generated_text c.args.opts.now.seed) c.args.opts.now c.in_ok-job.job c.plan_job.result
    (sound_text c.as_slice.result.now (generated_text c.args.opts.now.seed) c.args.opts.now c.in_ok-job.job
    (c.as_slice.ensures ∙ c.in_ok-text.ensures ∙ ap (λ (o : Options). generated_text o.seed) c.opts.view_is) c.in_ok-job.ensures.sound)
    c.plan_job.ensures.planned

pub returns-clause-refused : goal.returns-clause-refused
returns-clause-refused c =
    if_left (generated_text c.args.opts.now.seed) c.args.opts.now c.in_ok-job.job c.plan_job.result
    (sound_text c.as_slice.result.now (generated_text c.args.opts.now.seed) c.args.opts.now c.in_ok-job.job
    (c.as_slice.ensures ∙ c.in_ok-text.ensures ∙ ap (λ (o : Options). generated_text o.seed) c.opts.view_is) c.in_ok-job.ensures.sound)
    c.plan_job.ensures.refused
