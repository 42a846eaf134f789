use Rattle.std.proofs.Common.{to_z, of_z, w32, sym, subst, ap}
use Rattle.sn_raster.specs.Grid.{Grid}
use Rattle.sn_raster.specs.Heights.{HeightMap, IsHeight}
use Rattle.sn_raster.proofs.Axis.{kept}
use Rattle.sn_raster.proofs.HeightMaps.{kept_height, height_length}
use Rattle.sn_raster.proofs.heights.Heights.at.Goals as goal

pub returns-clause-range : goal.returns-clause-range
returns-clause-range c =
    let map : HeightMap = record { grid = c.self.inside.grid; heights = c.self.inside.heights.items } in
    let height = kept_height map c.mark.result c.index.result.now c.self.invariant c.mark.ensures.size c.index.ensures in
    let P : Grid → Type 0 = λ g. IsHeight g (to_z w32 (of_z w32 c.index.result.now)) in
    subst P (ap (λ m. m.grid) c.self.view_is) (subst (IsHeight map.grid) (sym (kept _ (height_length map _ c.self.invariant height))) height)
