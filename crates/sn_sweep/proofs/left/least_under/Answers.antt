use Rattle.std.proofs.Common.{◌+◌, sym, subst, ◌∙◌}
use Rattle.sn_sweep.proofs.LeftLemmas.{IsLeastSoFar, own_feature, other_feature}
use Rattle.sn_sweep.proofs.left.least_under.Goals as goal
use Rattle.sn_sweep.proofs.left.least_under.Goals.{then-other-step, else-other-step}

pub loop-other-preserved : goal.loop-other-preserved
loop-other-preserved c =
    let steps = c.args.steps.now in
    let feature = c.args.step.now.feature in
    elim c.if-other-step.branch [
      | then-other-step w ↦
          own_feature steps feature c.loop-other.other-index c.loop-other.least c.if-other-step.least c.other-item.result c.loop-other-test.true c.other-item.is w.if-other-step.true
          (w.least-is ∙ w.min-least.ensures) c.loop-other.invariant
      | else-other-step w ↦
          subst (λ least. IsLeastSoFar steps feature (c.loop-other.other-index + 1) least) (sym w.least-is)
          (other_feature steps feature c.loop-other.other-index c.loop-other.least c.other-item.result c.loop-other-test.true c.other-item.is w.if-other-step.false c.loop-other.invariant)
    ]
