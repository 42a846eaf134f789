use Rattle.std.proofs.Common.{◌∙◌, sym, ap, ◌≡◌, Err, arith}
use Rattle.std.proofs.lemmas.Grind.{common_steps}
use Rattle.sn_geom.specs.declared.units.Pt3.{Pt3}
use Rattle.sn_feature.specs.Placement.{composed_at}
use Rattle.sn_flow.specs.Setup.{block_box}
use Rattle.sn_flow.specs.Sides.{box_at}
use Rattle.sn_flow.proofs.BoxLemmas.{block_box_err, block_box_ok}
use Rattle.sn_flow.proofs.raw.block_box.Goals as goal

pub returns-in_err-frame-clause-value : goal.returns-in_err-frame-clause-value
unfolding composed_at
returns-in_err-frame-clause-value c =
    let is : block_box c.args.c.now c.args.workpiece.now c.args.block ≡ Err c.in_err-frame.field-0.0 =
    block_box_err c.args.c.now c.args.workpiece.now c.args.block c.one-placement.result c.in_ok-read_placement.field-0 c.in_err-frame.field-0.0 c.one-placement.ensures.named c.in_ok-read_placement.ensures c.in_err-frame.ensures in
    grind (arith, common_steps)

pub returns-clause-value : goal.returns-clause-value
unfolding composed_at
returns-clause-value c =
    let is = block_box_ok c.args.c.now c.args.workpiece.now c.args.block c.one-placement.result c.in_ok-read_placement.field-0 c.in_ok-frame.frame c.one-placement.ensures.named c.in_ok-read_placement.ensures c.in_ok-frame.ensures in
    c.box_at.ensures.value ∙ ap (λ (far : Pt3). box_at c.in_ok-frame.frame c.one-placement.result far) c.far_corner.ensures.value ∙ sym is
