use Rattle.std.proofs.Common.{◌∙◌, w32, ap, subst, sym}
use Rattle.std.proofs.lemmas.Int.{to_z-of_z}
use Rattle.std.specs.Int.{int_min, int_max}
use Rattle.sn_raster.specs.Heights.{node_of, HeightMap, IsHeightMap, IsHeight, height_of}
use Rattle.sn_raster.proofs.Axis.{kept}
use Rattle.sn_raster.proofs.HeightMaps.{lower_facts, lowered, same_cells, passed_node}
use Rattle.sn_raster.proofs.heights.Heights.lower.Goals as goal

pub put-requires-clause-range : goal.put-requires-clause-range
put-requires-clause-range c =
    let old = c.args.self.now in
    let bottom = kept _ c.self-inside.invariant.heights.0 ∙ ap (λ m. m.grid.bottom) c.self-inside.view_is ∙ ap (λ (m : HeightMap). m.grid.bottom) c.self.view_is in
    let facts = lower_facts old c.at.result c.max.result c.args.to _ _ c.min-height.result (subst IsHeightMap c.self.view_is c.self.invariant) c.at.ensures.range c.max.type_inv (to_z-of_z w32 c.args.to c.ranges.to) bottom c.max.ensures.value c.min-height.ensures.value in
    subst (IsHeight old.grid) (sym facts.kept) facts.height

pub returns-clause-node : goal.returns-clause-node
returns-clause-node c =
    let old = c.args.self.now in
    let bottom = kept _ c.self-inside.invariant.heights.0 ∙ ap (λ m. m.grid.bottom) c.self-inside.view_is ∙ ap (λ (m : HeightMap). m.grid.bottom) c.self.view_is in
    let facts = lower_facts old c.at.result c.max.result c.args.to _ _ c.min-height.result (subst IsHeightMap c.self.view_is c.self.invariant) c.at.ensures.range c.max.type_inv (to_z-of_z w32 c.args.to c.ranges.to) bottom c.max.ensures.value c.min-height.ensures.value in
    let same = passed_node c.args.i c.args.j c.ranges.i c.ranges.j in
    lowered old c.put.new.self c.args.i c.args.j c.args.to c.put.ensures.grid
    (ap (height_of c.put.new.self) (sym same) ∙ c.put.ensures.node ∙ facts.kept ∙ facts.value
    ∙ ap (λ h. int_min h (int_max c.args.to old.grid.bottom)) (c.at.ensures.value ∙ ap (height_of old) same))

pub returns-clause-others : goal.returns-clause-others
returns-clause-others c =
    λ cell other.
    same_cells c.args.self.now c.put.new.self cell c.put.ensures.grid
    (λ window. c.put.ensures.others (node_of cell) window (λ same. other (same ∙ passed_node c.args.i c.args.j c.ranges.i c.ranges.j)))
