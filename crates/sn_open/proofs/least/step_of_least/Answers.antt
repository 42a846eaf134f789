use Rattle.sn_open.proofs.LeastLemmas.{none_of_feature}
use Rattle.sn_open.proofs.least.step_of_least.Goals as goal

pub returns-clause-none : goal.returns-clause-none
returns-clause-none c = λ _. none_of_feature c.args.allowance c.args.feature c.loop-step.step-index c.args.steps.now c.loop-step-test.false c.loop-step.invariant
