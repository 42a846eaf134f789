use Rattle.std.proofs.Common.{ap, ◌∙◌}
use Rattle.sn_raster.proofs.Axis.{kept}
use Rattle.sn_raster.proofs.HeightMaps.{flat_rule}
use Rattle.sn_raster.proofs.heights.Heights.flat.Goals as goal

pub invariant_of-result : goal.invariant_of-result
invariant_of-result c =
    flat_rule c.args.g.now c.in_ok-heights.heights.items _ c.nodes_of.result c.rule.ensures c.requires (kept _ c.grid.invariant.heights.0 ∙ ap (λ g. g.bottom) c.grid.view_is) c.nodes_of.ensures (c.in_ok-heights.ensures.items_if_clones_equal (λ y same. same))
