use Rattle.std.proofs.Common.{sym, ap, subst, ◌∙◌}
use Rattle.sn_geom.specs.Acts.Act.{Mark}
use Rattle.sn_outline.specs.Job.{Job}
use Rattle.sn_open.specs.Verdict.{IsActCause}
use Rattle.sn_open.specs.declared.verdict.Cause.{Cause}
use Rattle.sn_sweep.specs.Checking.{Checking}
use Rattle.sn_sweep.proofs.ActLemmas.{does_none, first_of_one, none_of_one, mark_within}
use Rattle.sn_sweep.proofs.checker.Checker.take_mark.Goals as goal

pub returns-in-None-clause-judged : goal.returns-in-None-clause-judged
returns-in-None-clause-judged c = rw c.in-None.is (λ before keeps. does_none _ before _ keeps)

pub returns-in-Some-mark_cause-clause-judged : goal.returns-in-Some-mark_cause-clause-judged
returns-in-Some-mark_cause-clause-judged c = rw (c.in-Some.is, ← c.self.view_is)
    (λ before keeps. first_of_one _ before _ _ (c.in-Some-mark_cause.ensures before (sym keeps.marked)))

pub begin_step-requires : goal.begin_step-requires
begin_step-requires c = rw (← c.self.view_is) (mark_within c.self.inside.job.now c.self.inside.marks c.in-Some.n c.in_default.ensures)

pub returns-in_default-clause-judged : goal.returns-in_default-clause-judged
returns-in_default-clause-judged c =
    let job_is = ap (λ (kept : Checking). kept.job) c.self.view_is in
    let marks_is = ap (λ (kept : Checking). kept.marks) c.self.view_is in
    rw c.in-Some.is (λ before keeps. record {
      right = none_of_one _ before _
          (subst (λ (job : Job). (cause : Cause) → ¬ IsActCause job before (Mark c.in-Some.n) cause) job_is (c.in_default.ensures before (sym keeps.marked ∙ sym marks_is)));
      keeps = c.begin_step.ensures.keeps before c.in-Some.n keeps;
    })
