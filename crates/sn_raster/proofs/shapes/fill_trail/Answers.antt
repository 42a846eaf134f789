use Rattle.std.proofs.Common.{◌≡◌, ◌↔◌, ℤ, w32, to_z, of_z, refl, ◌∙◌, sym, subst}
use Rattle.std.proofs.lemmas.Int.{to_z-of_z}
use Rattle.sn_outline.specs.Outline.{NearTrail}
use Rattle.sn_raster.specs.Grid.{place}
use Rattle.sn_raster.specs.Plane.{Has}
use Rattle.sn_raster.specs.RowTurns.{at}
use Rattle.sn_raster.proofs.HeightRows.{along, neither}
use Rattle.sn_raster.proofs.Rows.{inside_window}
use Rattle.sn_raster.proofs.ShapeRows.{trail_iff, no_trail_of}
use Rattle.sn_raster.proofs.shapes.fill_trail.Goals as goal

pub returns-in-Some-clause-row : goal.returns-in-Some-clause-row
returns-in-Some-clause-row c = λ i low high.
    let g = c.args.g.now in
    let j = to_z w32 (of_z w32 c.args.j) in
    let j_is = to_z-of_z w32 c.args.j c.ranges.j in
    let P : ℤ → Type 0 = λ j. Has c.mark_path.new.row (at i j) ↔ NearTrail c.args.points.now c.args.width (place g.pitch (at i j)) in
    subst P j_is
    (trail_iff c.args.points.now c.in-Some.rest.now c.in-Some.first.now (place g.pitch (at i j)) c.args.width c.shapes.ensures.trail c.in-Some.ensures.cases.0 (c.clear_row.ensures.row (at i j) refl)
    (c.mark_path.ensures.row (at i j) refl (inside_window g i c.args.j j j_is low high c.requires.first c.requires.last)))

pub returns-in-Some-clause-others : goal.returns-in-Some-clause-others
returns-in-Some-clause-others c = λ n off.
    let off' = λ (on : n.j ≡ to_z w32 (of_z w32 c.args.j)). off (on ∙ to_z-of_z w32 c.args.j c.ranges.j) in
    along (c.mark_path.ensures.others n off') (c.clear_row.ensures.others n off')

pub returns-in-None-clause-row : goal.returns-in-None-clause-row
returns-in-None-clause-row c = λ i low high.
    neither (λ has. c.clear_row.ensures.row (at i c.args.j) (sym (to_z-of_z w32 c.args.j c.ranges.j)) has) (no_trail_of c.args.points.now c.args.width _ c.in-None.ensures.cases)

pub returns-in-None-clause-others : goal.returns-in-None-clause-others
returns-in-None-clause-others c = λ n off. c.clear_row.ensures.others n (λ on. off (on ∙ to_z-of_z w32 c.args.j c.ranges.j))
