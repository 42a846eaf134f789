use Rattle.sn_link.proofs.PlanLemmas.{one_planned, all_planned, all_counted}
use Rattle.sn_link.proofs.planner.plan.Goals as goal

pub loop-k-preserved : goal.loop-k-preserved
loop-k-preserved c =
    let step = c.in_ok-planned.ensures in
    one_planned c.args.g.now c.args.j.now c.steps-steps.result.now c.loop-k.k c.index-steps-k.result c.loop-k.plans c.push.new.self c.in_ok-planned.planned
    c.loop-k.progress c.plan_step.new.self c.loop-k-test.true c.index-steps-k.is c.in_ok-push.ensures.ok
    step.planned step.counted step.after step.tool step.tip step.within c.loop-k.invariant

pub returns-clause-planned : goal.returns-clause-planned
returns-clause-planned c =
    all_planned c.args.g.now c.args.j.now c.steps-steps.result.now c.loop-k.k c.loop-k.plans c.loop-k.progress
    c.steps-steps.ensures c.loop-k-test.false c.loop-k.invariant

pub returns-clause-counts : goal.returns-clause-counts
returns-clause-counts c =
    all_counted c.args.g.now c.args.j.now c.steps-steps.result.now c.loop-k.k c.loop-k.plans c.loop-k.progress
    c.steps-steps.ensures c.loop-k-test.false c.loop-k.invariant
