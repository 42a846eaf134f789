use Rattle.std.proofs.Common.{sym, ap, ◌∙◌, ◌-◌}
use Rattle.std.specs.Option.{option_copied}
use Rattle.sn_sweep.proofs.FeedLemmas.{after, told_by_step, no_current_step, proper_step}
use Rattle.sn_sweep.proofs.feed.feed_cause.Goals as goal

pub step_cause-requires-clause-proper : goal.step_cause-requires-clause-proper
step_cause-requires-clause-proper c =
    proper_step c.args.j.now (c.args.marked - 1) c.in-Some.step.now c.rule.ensures (sym c.current_step.ensures ∙ ap option_copied c.in-Some.is)

pub returns-in-Some : goal.returns-in-Some
returns-in-Some c =
    told_by_step
    (record { steps = c.motion_causes.ensures.feeds; gouge = c.motion_causes.ensures.gouge; deep = c.motion_causes.ensures.deep; forbidden = c.gouging.ensures.forbidden })
    c.args.heights.now c.args.allowed.now c.args.j.now c.in-Some.step.now c.args.marked (c.args.marked - 1) c.args.from.now c.args.to.now c.args.feed c.args.speed c.args.tool
    c.step_cause.result c.requires.grid (after c.args.marked c.if-marked-eq0.false) (sym c.current_step.ensures ∙ ap option_copied c.in-Some.is) c.step_cause.ensures

pub returns-in-None : goal.returns-in-None
returns-in-None c = λ before counted _ _.
    no_current_step c.args.j.now c.args.marked (c.args.marked - 1) c.args.from.now c.args.to.now c.args.feed c.args.speed c.args.tool (after c.args.marked c.if-marked-eq0.false)
    (sym c.current_step.ensures ∙ ap option_copied c.in-None.is) before counted
