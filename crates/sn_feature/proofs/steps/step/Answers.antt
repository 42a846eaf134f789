use Rattle.sn_feature.proofs.Proper.{step_is_proper}
use Rattle.sn_feature.proofs.steps.step.Goals as goal

pub returns-clause-proper : goal.returns-clause-proper
returns-clause-proper c =
    step_is_proper c.args.c.now c.read-task.result _ c.args.workpiece.now c.in_ok-placed.placed c.parts-parts.result c.in_ok-sketch.sketch c.in_ok-judge.field-0
    c.read-task.ensures.leads c.in_ok-sketch.ensures.value c.in_ok-sketch.ensures.size c.in_ok-placed.ensures c.parts-parts.ensures.value c.parts-parts.ensures.feed c.parts-parts.ensures.speed c.in_ok-judge.ensures
