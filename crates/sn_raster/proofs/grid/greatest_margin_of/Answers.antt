use Rattle.std.proofs.Common.{ℕ, ◌+◌, max, sym, subst, ap, ◌∙◌, arith}
use Rattle.sn_raster.proofs.Margins.{IsPassed, passed_one}
use Rattle.sn_raster.proofs.grid.greatest_margin_of.Goals as goal

pub loop-step-preserved : goal.loop-step-preserved
loop-step-preserved c = record {
  passed = subst (λ (m : ℕ). IsPassed c.args.steps.now (c.loop-step.step-index + 1) m) (ap (max c.loop-step.margin) (sym c.margin_of_step.ensures.value) ∙ sym c.max-margin.ensures) (passed_one c.args.steps.now c.loop-step.step-index c.loop-step.margin c.step-item.result c.loop-step-test.true c.step-item.is c.loop-step.invariant.passed);
  small = omega arith;
}
