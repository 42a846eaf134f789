use Rattle.std.proofs.Common.{sym, ◌∙◌, subst}
use Rattle.sn_geom.specs.Length.{IsLength}
use Rattle.sn_raster.specs.Grid.{IsGrid}
use Rattle.sn_raster.specs.Heights.{IsTopOfCells}
use Rattle.sn_raster.specs.Plane.{Plane}
use Rattle.sn_link.proofs.MaterialLemmas.{InRawOf, small, top_length, top_is_highest}
use Rattle.sn_link.proofs.material.highest.Goals as goal

pub of-requires : goal.of-requires
of-requires c =
    let map = c.args.heights.now in
    let (job, passes, stands) = c.requires.left in
    subst IsLength (sym (small c.top_in.result c.top_in.type_inv))
    (top_length job passes map c.nodes.result.now c.top_in.result (subst IsGrid c.grid.ensures c.rule.ensures) stands c.top_in.ensures.cells)

pub returns : goal.returns
returns c = λ job step passes stands are.
    let map = c.args.heights.now in
    let is = subst (λ (area : Plane). IsTopOfCells map (InRawOf map.grid area) c.top_in.result) c.nodes.ensures c.top_in.ensures.cells in
    top_is_highest c.grids.ensures.raw job step passes map c.args.allowed.now c.of.result (subst IsGrid c.grid.ensures c.rule.ensures) c.requires.grid stands are
    (subst (IsTopOfCells map (InRawOf map.grid c.args.allowed.now.plane)) (sym (c.of.ensures ∙ small c.top_in.result c.top_in.type_inv)) is)
