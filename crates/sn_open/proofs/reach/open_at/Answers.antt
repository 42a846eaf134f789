use Rattle.std.proofs.Common.{◌↔◌, subst, sym, ap, ◌∙◌, w32, to_z, of_z, arith, length}
use Rattle.std.proofs.lemmas.Int.{to_z-of_z}
use Rattle.sn_raster.specs.Grid.{Node}
use Rattle.sn_raster.specs.Plane.{Has}
use Rattle.sn_open.specs.Search.{IsOpenedAt}
use Rattle.sn_open.proofs.ReachLemmas.{none_opened, one_opened, all_opened, step_at}
use Rattle.sn_open.proofs.reach.open_at.Goals as goal

pub add_opening-requires-clause-executed : goal.add_opening-requires-clause-executed
add_opening-requires-clause-executed c =
    let read = step_at c.steps-step-items.result.now c.args.j.now.steps c.loop-step.step-index c.step-item.result c.steps-step-items.ensures c.loop-step-test.true c.step-item.is in
    (c.loop-step.step-index, read.inside, sym read.is)

pub loop-step-init : goal.loop-step-init
loop-step-init c = record {
  opening = c.requires.opening;
  reached = c.clear.ensures.grid ∙ c.requires.reached;
  opened = none_opened c.args.j.now c.args.feature (to_z w32 (of_z w32 c.args.z)) c.clear.new.self c.clear.ensures.nodes;
}

pub loop-step-preserved : goal.loop-step-preserved
loop-step-preserved c =
    let read = step_at c.steps-step-items.result.now c.args.j.now.steps c.loop-step.step-index c.step-item.result c.steps-step-items.ensures c.loop-step-test.true c.step-item.is in
    record {
      opening = c.add_opening.ensures.opening;
      reached = c.add_opening.ensures.reached;
      opened = one_opened c.args.j.now c.args.feature (to_z w32 (of_z w32 c.args.z)) c.step-item.result c.loop-step.reached c.add_opening.new.reached c.loop-step.step-index read.inside read.is
          c.add_opening.ensures.nodes c.loop-step.invariant.opened;
    }

pub returns-clause-nodes : goal.returns-clause-nodes
returns-clause-nodes c =
    let long = ap length c.steps-step-items.ensures in
    subst (λ z. (n : Node) → Has c.loop-step.reached n ↔ IsOpenedAt c.args.j.now c.args.feature z n) (to_z-of_z w32 c.args.z c.ranges.z)
    (all_opened c.args.j.now c.args.feature (to_z w32 (of_z w32 c.args.z)) c.loop-step.reached c.loop-step.step-index (omega (arith, c.loop-step-test.false)) c.loop-step.invariant.opened)
