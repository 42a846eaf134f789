use Rattle.sn_link.proofs.ListedLemmas.{listed}
use Rattle.sn_link.proofs.PlannerLemmas.{after_step, cut_straight, removed_as}
use Rattle.sn_link.proofs.planner.Progress.plan_step.Goals as goal

pub cut-cells-requires-clause-straight : goal.cut-cells-requires-clause-straight
cut-cells-requires-clause-straight c =
    cut_straight c.planned_moves.ensures.straight c.args.g.now c.args.j.now c.rule.ensures c.args.step.now c.tip_for-tip.result c.in_ok-planned.planned.moves c.as_slice.result.now
    c.args.self.now (listed c.args.j.now.steps c.args.k c.args.step.now c.requires.executed) c.tip_for-tip.ensures c.as_slice.ensures c.requires.after
    (λ passes after. (c.in_ok-planned.ensures.planned passes after).plan)

pub cut-cells-requires-clause-left : goal.cut-cells-requires-clause-left
cut-cells-requires-clause-left c =
    let (passes, after) = c.requires.after in
    (c.args.j.now, passes, (c.in_ok-planned.ensures.after passes after).material)

pub returns-clause-counted : goal.returns-clause-counted
returns-clause-counted c = λ passes after.
    let kept = c.in_ok-planned.ensures in
    record {
      counts = (kept.planned passes after).counts;
      removed = removed_as c.args.j.now c.args.step.now passes c.tip_for-tip.result _ c.in_ok-planned.planned.moves c.as_slice.result.now c.cut-cells.result
          c.tip_for-tip.ensures c.as_slice.ensures (c.cut-cells.ensures.removed c.args.j.now passes (kept.after passes after).material);
    }

pub returns-clause-after : goal.returns-clause-after
returns-clause-after c = λ passes after.
    let job = c.args.j.now in
    let kept = c.in_ok-planned.ensures in
    let cut = c.cut-cells.ensures in
    after_step c.planned_moves.ensures.end_above c.args.g.now job c.rule.ensures passes c.args.step.now c.tip_for-tip.result c.in_ok-planned.planned.moves c.as_slice.result.now
    c.args.self.now c.plan_from.new.self c.cut-cells.new.self
    (listed job.steps c.args.k c.args.step.now c.requires.executed) c.tip_for-tip.ensures c.as_slice.ensures after (kept.planned passes after).plan kept.tool kept.tip (kept.after passes after)
    cut.planes cut.grid (cut.material job passes (kept.after passes after).material) cut.tool (cut.tip job (rw (kept.tool, kept.tip) c.tip_for-tip.ensures))
