use Rattle.std.proofs.Common.{refl, subst}
use Rattle.sn_outline.specs.JobRule.{IsJob}
use Rattle.sn_sweep.specs.Checking.{Checking}
use Rattle.sn_sweep.proofs.FinishLemmas.{marked_all, uncovered, covered}
use Rattle.sn_sweep.proofs.checker.Checker.verdict.Goals as goal

pub returns-in-Some-uncovered : goal.returns-in-Some-uncovered
returns-in-Some-uncovered c = λ job text read.
    let kept = c.args.self.now in
    let m =
    marked_all job text kept _ c.steps.result.now c.self.view_is read c.in_default.is c.if-not-self.false c.steps.ensures (c.in_default-get.ensures.lookup).3 c.self.invariant.marks in
    uncovered job text kept c.in-Some-uncovered.feature c.in-Some-uncovered.cell m c.in-Some-uncovered.ensures.some

pub returns-in-None : goal.returns-in-None
returns-in-None c = λ job text read.
    let kept = c.args.self.now in
    let m =
    marked_all job text kept _ c.steps.result.now c.self.view_is read c.in_default.is c.if-not-self.false c.steps.ensures (c.in_default-get.ensures.lookup).3 c.self.invariant.marks in
    covered c.grids.ensures.raw job text kept (subst (λ (k : Checking). IsJob k.job) c.self.view_is c.rule.ensures) m (c.in-None.ensures.none refl)
