use Rattle.std.proofs.Common.{◌∙◌, subst, ap}
use Rattle.std.proofs.lemmas.Bool.{both_ways}
use Rattle.sn_raster.specs.Grid.{Grid}
use Rattle.sn_raster.specs.Heights.{IsHeight}
use Rattle.sn_raster.proofs.Axis.{kept}
use Rattle.sn_raster.proofs.HeightMaps.{node, passed_node, raw_length}
use Rattle.sn_raster.proofs.HeightTops.{top_here, top_none}
use Rattle.sn_raster.proofs.tops.top_of_node.Goals as goal

pub returns-then-get-clause-top : goal.returns-then-get-clause-top
returns-then-get-clause-top c =
    let H : Grid → Type 0 = λ g. IsHeight g c.at.result in
    top_here c.args.map.now c.args.area.now (node c.args.i c.args.j) _ _ (passed_node c.args.i c.args.j c.ranges.i c.ranges.j) (c.get.ensures.0 c.if-get.true)
    (kept c.at.result (raw_length c.args.g.now c.at.result c.rule.ensures (subst H c.requires.grid c.at.ensures.range)) ∙ c.at.ensures.value)

pub returns-else-get-clause-top : goal.returns-else-get-clause-top
returns-else-get-clause-top c =
    top_none c.args.map.now c.args.g.now c.args.area.now (node c.args.i c.args.j) _ _ c.requires.grid (passed_node c.args.i c.args.j c.ranges.i c.ranges.j)
    (λ has. both_ways _ c.if-get.false (c.get.ensures.1 has)) (kept _ c.g.invariant.heights.0 ∙ ap (λ g. g.bottom) c.g.view_is)
