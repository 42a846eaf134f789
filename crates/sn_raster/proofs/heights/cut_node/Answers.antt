use Rattle.std.proofs.Common.{◌∙◌, sym}
use Rattle.std.proofs.lemmas.Bool.{both_ways}
use Rattle.sn_raster.specs.Heights.{Pass}
use Rattle.sn_raster.proofs.HeightMaps.{fits, passed_node}
use Rattle.sn_raster.proofs.HeightCuts.{near_node, over_node, cut_near, cut_far}
use Rattle.sn_raster.proofs.heights.cut_node.Goals as goal

pub returns-then-near-clause-node : goal.returns-then-near-clause-node
returns-then-near-clause-node c =
    let pass : Pass = record { body = c.args.body.now; from = c.args.a.now; to = c.args.b.now } in
    let same = passed_node c.args.i c.args.j c.ranges.i c.ranges.j in
    λ cell is.
    let near = (near_node c.args.g.now.pitch pass.body.d pass.from pass.to cell _ _ _ _ c.plan_of.ensures c.plan_of-2.ensures c.place_of.ensures (is ∙ sym same)).0 (c.near.ensures.0 c.if-near.true) in
    cut_near c.touching.ensures.height_and_plan c.args.g.now.pitch pass c.args.map.now c.lower.new.self _ cell c.requires.not_slanted
    (fits c.full_width_from.result c.full_width_from.type_inv ∙ c.full_width_from.ensures) near
    (over_node c.args.map.now c.lower.new.self _ _ cell c.lower.ensures.node (is ∙ sym same))

pub returns-then-near-clause-others : goal.returns-then-near-clause-others
returns-then-near-clause-others c = λ cell other. c.lower.ensures.others cell (λ is. other (is ∙ passed_node c.args.i c.args.j c.ranges.i c.ranges.j))

pub returns-else-near-clause-node : goal.returns-else-near-clause-node
returns-else-near-clause-node c =
    let pass : Pass = record { body = c.args.body.now; from = c.args.a.now; to = c.args.b.now } in
    let same = passed_node c.args.i c.args.j c.ranges.i c.ranges.j in
    λ cell is.
    cut_far c.touching.ensures.height_and_plan c.args.g.now.pitch pass c.args.map.now cell c.requires.not_slanted
    (λ near.
    both_ways _ c.if-near.false
    (c.near.ensures.1 ((near_node c.args.g.now.pitch pass.body.d pass.from pass.to cell _ _ _ _ c.plan_of.ensures c.plan_of-2.ensures c.place_of.ensures (is ∙ sym same)).1 near)))
