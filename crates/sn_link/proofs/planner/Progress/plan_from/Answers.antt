use Rattle.std.proofs.Common.{sym, ◌∙◌}
use Rattle.sn_link.proofs.PlannerLemmas.{planned_from}
use Rattle.sn_link.proofs.planner.Progress.plan_from.Goals as goal

pub returns-clause-planned : goal.returns-clause-planned
returns-clause-planned c = λ passes after.
    let step = c.args.step.now in
    let ensures = c.in_ok-planned.ensures in
    planned_from c.args.j.now step passes _ c.args.tip c.in_ok-planned.planned c.as_slice.result.now c.as_slice-2.result.now c.as_slice-3.result.now c.strokes_in-count.result
    (c.place_of-start.ensures c.args.j.now c.requires.above) c.as_slice-2.ensures (c.as_slice-3.ensures ∙ sym c.as_slice.ensures) c.strokes_in-count.ensures
    (ensures.planned step passes c.requires.executed after.material) (ensures.counts step passes c.requires.executed after.material)
