use Rattle.std.proofs.Common.{◌∙◌, ap, sym, subst}
use Rattle.sn_raster.specs.Grid.{Node, IsInRaw}
use Rattle.sn_raster.specs.Heights.{node_of, height_of}
use Rattle.sn_raster.proofs.Axis.{kept}
use Rattle.sn_raster.proofs.HeightMaps.{passed_node, same_cells, raw_cells, raw_length}
use Rattle.sn_raster.proofs.heights.raise_node.Goals as goal

pub returns-clause-node : goal.returns-clause-node
returns-clause-node c =
    let g = c.args.g.now in
    let same = passed_node c.args.i c.args.j c.ranges.i c.ranges.j in
    let P : Node → Type 0 = λ n. IsInRaw g n in
    let height = c.put.ensures.node ∙ kept c.raw_height.result (raw_length g c.raw_height.result c.rule.ensures c.raw_height.ensures.range) in
    λ cell is.
    let here = is ∙ sym same in
    raw_cells g c.put.new.self cell (c.put.ensures.grid ∙ c.requires.grid) c.rule.ensures
    (λ raw. ap (height_of c.put.new.self) here ∙ height ∙ c.raw_height.ensures.raw (subst P here raw))
    (λ off. ap (height_of c.put.new.self) here ∙ height ∙ c.raw_height.ensures.others (λ raw. off (subst P (sym here) raw)))

pub returns-clause-others : goal.returns-clause-others
returns-clause-others c =
    λ cell other.
    same_cells c.args.map.now c.put.new.self cell c.put.ensures.grid
    (λ window. c.put.ensures.others (node_of cell) window (λ same. other (same ∙ passed_node c.args.i c.args.j c.ranges.i c.ranges.j)))
