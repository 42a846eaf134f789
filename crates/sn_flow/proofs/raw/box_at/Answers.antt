use Rattle.std.proofs.Common.{◌∙◌, ap}
use Rattle.sn_geom.specs.declared.units.Pt3.{Pt3}
use Rattle.sn_flow.specs.Setup.{box_of_corners}
use Rattle.sn_flow.proofs.BoxLemmas.{sides_of_box}
use Rattle.sn_flow.proofs.raw.box_at.Goals as goal

pub returns-clause-corners : goal.returns-clause-corners
returns-clause-corners c =
    let raw = c.box_of_corners.ensures ∙ ap (λ (p : Pt3). box_of_corners p c.in_ok-corner.corner) c.origin.ensures in
    sides_of_box c.args.frame.now c.args.placement c.args.far.now c.in_ok-corner.corner c.box_of_corners.result c.in_ok-corner.ensures raw c.rule.ensures c.requires
