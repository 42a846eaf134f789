use Rattle.std.proofs.Common.{◌≡◌, ◌↔◌, ℤ, w32, to_z, of_z, refl, ◌∙◌, subst}
use Rattle.std.proofs.lemmas.Int.{to_z-of_z}
use Rattle.sn_geom.specs.Sweep.{Disc}
use Rattle.sn_raster.specs.Grid.{place}
use Rattle.sn_raster.specs.Plane.{Has}
use Rattle.sn_raster.specs.RowTurns.{at}
use Rattle.sn_raster.proofs.HeightRows.{along}
use Rattle.sn_raster.proofs.Rows.{inside_window}
use Rattle.sn_raster.proofs.PlaneRows.{alone}
use Rattle.sn_raster.proofs.shapes.fill_disc.Goals as goal

pub returns-clause-row : goal.returns-clause-row
returns-clause-row c = λ i low high.
    let g = c.args.g.now in
    let j = to_z w32 (of_z w32 c.args.j) in
    let j_is = to_z-of_z w32 c.args.j c.ranges.j in
    let centre = c.args.centre.now in
    let P : ℤ → Type 0 = λ j. Has c.mark_segment.new.row (at i j) ↔ Disc c.args.d centre (place g.pitch (at i j)) in
    let marked = c.mark_segment.ensures.row (at i j) refl (inside_window g i c.args.j j j_is low high c.requires.first c.requires.last) in
    subst P j_is (along (alone marked (c.clear_row.ensures.row (at i j) refl)) (c.nearness.ensures.one_place c.args.d centre (place g.pitch (at i j))))

pub returns-clause-others : goal.returns-clause-others
returns-clause-others c = λ n off.
    let off' = λ (on : n.j ≡ to_z w32 (of_z w32 c.args.j)). off (on ∙ to_z-of_z w32 c.args.j c.ranges.j) in
    along (c.mark_segment.ensures.others n off') (c.clear_row.ensures.others n off')
