use Rattle.std.proofs.Common.{sym, ◌∙◌}
use Rattle.std.proofs.lemmas.Bool.{false≢true}
use Rattle.sn_geom.proofs.Touching.{touch_by_height_and_plan}
use Rattle.sn_geom.proofs.sweep.touches.Goals as goal

pub returns-then-reaches_down : goal.returns-then-reaches_down
returns-then-reaches_down c =
    let near = rw (c.plan_of.ensures, c.plan_of-2.ensures, c.plan_of-then-reaches_down.ensures) at c.near.ensures in
    let touch = touch_by_height_and_plan c.args.d c.args.a.now c.args.b.now c.args.p.now c.requires.not_slanted in
    (λ yes. touch.1 (c.reaches_down.ensures.0 c.if-reaches_down.true, near.0 yes), λ h. near.1 (touch.0 h).1)

pub returns-else-reaches_down : goal.returns-else-reaches_down
returns-else-reaches_down c =
    let touch = touch_by_height_and_plan c.args.d c.args.a.now c.args.b.now c.args.p.now c.requires.not_slanted in
    (λ yes. absurd (false≢true (sym c.if-reaches_down.false ∙ yes)), λ h. c.reaches_down.ensures.1 (touch.0 h).0)
