use Rattle.std.proofs.Common.{sym, ◌∙◌, inr}
use Rattle.std.proofs.lemmas.Bool.{false≢true}
use Rattle.std.proofs.lemmas.Result.{err_from_is_err_and}
use Rattle.sn_run.specs.Found.{plan_of}
use Rattle.sn_run.proofs.LoadLemmas.{long_uncompiled, planned_for}
use Rattle.sn_run.proofs.compile.plan_job.Goals as goal

pub returns-in_err-look_at_reach-clause-refused : goal.returns-in_err-look_at_reach-clause-refused
returns-in_err-look_at_reach-clause-refused c =
    let p = err_from_is_err_and c.from_residual.result c.from_residual.ensures.1 in
    rw (p.1, p.2) c.in_err-look_at_reach.ensures.refused

pub returns-then-is_too_long-clause-refused : goal.returns-then-is_too_long-clause-refused
returns-then-is_too_long-clause-refused c =
    let planned = c.in_ok-planned.planned in
    inr (long_uncompiled c.args.job planned.job (plan_of planned) c.in_ok-look_at_reach.ensures.reachable c.in_ok-planned.ensures.same c.in_ok-planned.ensures.good.plan
    (c.is_too_long.ensures.0 c.if-is_too_long.true))

pub returns-clause-planned : goal.returns-clause-planned
returns-clause-planned c =
    let planned = c.in_ok-planned.planned in
    planned_for c.plans.ensures.one_plan c.args.job planned (plan_of planned) c.in_ok-look_at_reach.ensures.reachable c.in_ok-planned.ensures.same
    c.in_ok-planned.ensures.good.plan (λ long. false≢true (sym c.if-is_too_long.false ∙ c.is_too_long.ensures.1 long))
