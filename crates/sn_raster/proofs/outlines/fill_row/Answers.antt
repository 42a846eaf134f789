use Rattle.std.proofs.Common.{◌↔◌, ℤ, List, w32, ◌∙◌, sym, subst}
use Rattle.std.proofs.lemmas.Int.{to_z-of_z}
use Rattle.sn_outline.specs.declared.outline.Shape.{Shape}
use Rattle.sn_geom.specs.declared.units.Pt.{Pt}
use Rattle.sn_geom.specs.Sweep.{Disc}
use Rattle.sn_outline.specs.Outline.{InOutline, InRectangle, InShape, NearTrail}
use Rattle.sn_outline.specs.Polygon.{InPolygon}
use Rattle.sn_raster.specs.Grid.{place}
use Rattle.sn_raster.specs.Plane.{Has}
use Rattle.sn_raster.specs.RowTurns.{at}
use Rattle.sn_raster.proofs.outlines.fill_row.Goals as goal

pub returns-in-Rect-clause-row : goal.returns-in-Rect-clause-row
returns-in-Rect-clause-row c = λ i low high.
    let p = place c.args.g.now.pitch (at i c.args.j) in
    let P : ℤ → Type 0 = λ j. Has c.fill_rectangle.new.row (at i j) ↔ InRectangle c.in-Rect.low c.in-Rect.high (place c.args.g.now.pitch (at i j)) in
    let S : Shape → Type 0 = λ s. Has c.fill_rectangle.new.row (at i c.args.j) ↔ InShape s p in
    subst S (sym c.in-Rect.is) (subst P (to_z-of_z w32 c.args.j c.ranges.j) (c.fill_rectangle.ensures.row i low high))

pub returns-in-Rect-clause-others : goal.returns-in-Rect-clause-others
returns-in-Rect-clause-others c = λ n off. c.fill_rectangle.ensures.others n (λ on. off (on ∙ to_z-of_z w32 c.args.j c.ranges.j))

pub returns-in-Circle-clause-row : goal.returns-in-Circle-clause-row
returns-in-Circle-clause-row c = λ i low high.
    let p = place c.args.g.now.pitch (at i c.args.j) in
    let P : ℤ → Type 0 = λ j. Has c.fill_disc.new.row (at i j) ↔ Disc c.in-Circle.d c.in-Circle.centre (place c.args.g.now.pitch (at i j)) in
    let S : Shape → Type 0 = λ s. Has c.fill_disc.new.row (at i c.args.j) ↔ InShape s p in
    subst S (sym c.in-Circle.is) (subst P (to_z-of_z w32 c.args.j c.ranges.j) (c.fill_disc.ensures.row i low high))

pub returns-in-Circle-clause-others : goal.returns-in-Circle-clause-others
returns-in-Circle-clause-others c = λ n off. c.fill_disc.ensures.others n (λ on. off (on ∙ to_z-of_z w32 c.args.j c.ranges.j))

pub returns-in-Circle-2-clause-row : goal.returns-in-Circle-2-clause-row
returns-in-Circle-2-clause-row c = λ i low high.
    let P : ℤ → Type 0 = λ j. Has c.fill_each.new.row (at i j) ↔ InOutline c.args.o.now (place c.args.g.now.pitch (at i j)) in
    subst P (to_z-of_z w32 c.args.j c.ranges.j) (c.fill_each.ensures.row i low high)

pub returns-in-Circle-2-clause-others : goal.returns-in-Circle-2-clause-others
returns-in-Circle-2-clause-others c = λ n off. c.fill_each.ensures.others n (λ on. off (on ∙ to_z-of_z w32 c.args.j c.ranges.j))

pub returns-in-Polygon-clause-row : goal.returns-in-Polygon-clause-row
returns-in-Polygon-clause-row c = λ i low high.
    let new = c.fill_polygon.new.row in
    let pitch = c.args.g.now.pitch in
    let p = place pitch (at i c.args.j) in
    let P : ℤ → Type 0 = λ j. Has new (at i j) ↔ InPolygon c.as_slice.result.now (place pitch (at i j)) in
    let L : List Pt → Type 0 = λ ps. Has new (at i c.args.j) ↔ InPolygon ps p in
    let S : Shape → Type 0 = λ s. Has new (at i c.args.j) ↔ InShape s p in
    subst S (sym c.in-Polygon.is) (subst L c.as_slice.ensures (subst P (to_z-of_z w32 c.args.j c.ranges.j) (c.fill_polygon.ensures.row i low high)))

pub returns-in-Polygon-clause-others : goal.returns-in-Polygon-clause-others
returns-in-Polygon-clause-others c = λ n off. c.fill_polygon.ensures.others n (λ on. off (on ∙ to_z-of_z w32 c.args.j c.ranges.j))

pub returns-in-Trail-clause-row : goal.returns-in-Trail-clause-row
returns-in-Trail-clause-row c = λ i low high.
    let new = c.fill_trail.new.row in
    let pitch = c.args.g.now.pitch in
    let p = place pitch (at i c.args.j) in
    let P : ℤ → Type 0 = λ j. Has new (at i j) ↔ NearTrail c.as_slice-in-Trail.result.now c.in-Trail.width (place pitch (at i j)) in
    let L : List Pt → Type 0 = λ ps. Has new (at i c.args.j) ↔ NearTrail ps c.in-Trail.width p in
    let S : Shape → Type 0 = λ s. Has new (at i c.args.j) ↔ InShape s p in
    subst S (sym c.in-Trail.is) (subst L c.as_slice-in-Trail.ensures (subst P (to_z-of_z w32 c.args.j c.ranges.j) (c.fill_trail.ensures.row i low high)))

pub returns-in-Trail-clause-others : goal.returns-in-Trail-clause-others
returns-in-Trail-clause-others c = λ n off. c.fill_trail.ensures.others n (λ on. off (on ∙ to_z-of_z w32 c.args.j c.ranges.j))
