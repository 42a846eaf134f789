use Rattle.std.proofs.Common.{◌∙◌, w32, ap}
use Rattle.std.proofs.lemmas.Int.{to_z-of_z}
use Rattle.sn_raster.proofs.Axis.{kept, kept_as}
use Rattle.sn_raster.proofs.HeightMaps.{fits}
use Rattle.sn_raster.proofs.HeightFirsts.{lowest_value}
use Rattle.sn_raster.proofs.heights.lowest.Goals as goal

pub returns : goal.returns
returns c =
    fits c.max-2.result c.max-2.type_inv
    ∙ lowest_value _ _ _ _ _ _ _ _ _ _ _ _ c.max-2.result (to_z-of_z w32 c.args.from c.ranges.from)
    (kept _ c.g.invariant.heights.0 ∙ ap (λ g. g.bottom) c.g.view_is)
    (kept_as _ _ c.get.ensures.value c.get.ensures.range) (kept_as _ _ c.get-2.ensures.value c.get-2.ensures.range)
    (fits c.min.result c.min.type_inv) (fits c.max.result c.max.type_inv)
    c.min.ensures.value c.max.ensures.value c.max-2.ensures.value
