use Rattle.std.proofs.Common.{◌≡◌, ◌↔◌, ℤ, w32, to_z, of_z, ◌∙◌, sym, subst}
use Rattle.std.proofs.lemmas.Int.{to_z-of_z}
use Rattle.sn_outline.specs.Polygon.{InPolygon}
use Rattle.sn_raster.specs.Grid.{place}
use Rattle.sn_raster.specs.Plane.{Has}
use Rattle.sn_raster.specs.RowTurns.{at}
use Rattle.sn_raster.proofs.HeightRows.{along, neither}
use Rattle.sn_raster.proofs.ShapeRows.{edges_from_last, in_polygon_iff, no_polygon}
use Rattle.sn_raster.proofs.shapes.fill_polygon.Goals as goal

pub returns-in-Some-clause-row : goal.returns-in-Some-clause-row
returns-in-Some-clause-row c = λ i low high.
    let g = c.args.g.now in
    let P : ℤ → Type 0 = λ j. Has c.fill_around.new.row (at i j) ↔ InPolygon c.args.points.now (place g.pitch (at i j)) in
    subst P (to_z-of_z w32 c.args.j c.ranges.j)
    (in_polygon_iff c.args.points.now c.in-Some.last.now _ (edges_from_last c.args.points.now c.in-Some.last.now (sym c.in-Some.ensures.value)) (c.fill_around.ensures.row i low high))

pub returns-in-Some-clause-others : goal.returns-in-Some-clause-others
returns-in-Some-clause-others c = λ n off.
    let off' = λ (on : n.j ≡ to_z w32 (of_z w32 c.args.j)). off (on ∙ to_z-of_z w32 c.args.j c.ranges.j) in
    along (c.fill_around.ensures.others n off') (c.clear_row.ensures.others n off')

pub returns-in-None-clause-row : goal.returns-in-None-clause-row
returns-in-None-clause-row c = λ i low high.
    neither (λ has. c.clear_row.ensures.row (at i c.args.j) (sym (to_z-of_z w32 c.args.j c.ranges.j)) has) (no_polygon c.args.points.now _ (sym c.in-None.ensures.value))

pub returns-in-None-clause-others : goal.returns-in-None-clause-others
returns-in-None-clause-others c = λ n off. c.clear_row.ensures.others n (λ on. off (on ∙ to_z-of_z w32 c.args.j c.ranges.j))
