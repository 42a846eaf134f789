use Rattle.std.proofs.Common.{◌≡◌, ◌↔◌, ◌⊎◌, ℤ, pos, ◌+ℤ◌, ◌≤ℤ◌, Bool, IsTrue, w32, to_z, of_z, refl, ap, ◌∙◌, subst}
use Rattle.std.proofs.lemmas.Int.{to_z-of_z}
use Rattle.sn_outline.specs.Polygon.{path, crosses_right}
use Rattle.sn_raster.specs.Grid.{IsInWindow, place}
use Rattle.sn_raster.specs.Plane.{Has}
use Rattle.sn_raster.specs.RowTurns.{at, bit, differs, is_odd, is_crossed}
use Rattle.sn_raster.proofs.HeightRows.{along}
use Rattle.sn_raster.proofs.Rows.{inside_window}
use Rattle.sn_raster.proofs.Sides.{odd_beyond}
use Rattle.sn_raster.proofs.ShapeRows.{IsNearAny, not_set, around}
use Rattle.sn_raster.proofs.shapes.fill_around.Goals as goal

pub returns-clause-row : goal.returns-clause-row
returns-clause-row c = λ i low high.
    let g = c.args.g.now in
    let j = to_z w32 (of_z w32 c.args.j) in
    let j_is = to_z-of_z w32 c.args.j c.ranges.j in
    let es = path c.args.last.now c.args.points.now in
    let f : ℤ → Bool = λ k. is_odd (λ e. is_crossed g j e k) es in
    let window : (k : ℤ) → g.i0 ≤ℤ k → k ≤ℤ g.i1 → IsInWindow g (at k j) = λ k left right. inside_window g k c.args.j j j_is left right c.requires.first c.requires.last in
    let turns : (k : ℤ) → g.i0 ≤ℤ k → k ≤ℤ g.i1 → bit c.turn_path.new.row (at k j) ≡ differs (f k) (f (k +ℤ pos 1)) = λ k left right.
    c.turn_path.ensures.row k left right ∙ ap (λ b. differs b (differs (f k) (f (k +ℤ pos 1)))) (not_set c.args.row.now g (at k j) c.requires.grid (window k left right) (c.requires.clear (at k j) j_is)) in
    let run = c.run_row.ensures.row f (odd_beyond g j es) turns i low high in
    let P : ℤ → Type 0 = λ j. Has c.mark_path.new.row (at i j) ↔ (IsNearAny 0 (place g.pitch (at i j)) es ⊎ IsTrue (is_odd (crosses_right (place g.pitch (at i j))) es)) in
    subst P j_is (around g c.run_row.new.row c.mark_path.new.row i j es c.run_row.ensures.grid (window i low high) run (c.mark_path.ensures.row (at i j) refl (window i low high)))

pub returns-clause-others : goal.returns-clause-others
returns-clause-others c = λ n off.
    let off' = λ (on : n.j ≡ to_z w32 (of_z w32 c.args.j)). off (on ∙ to_z-of_z w32 c.args.j c.ranges.j) in
    along (c.mark_path.ensures.others n off') (along (c.run_row.ensures.others n off') (c.turn_path.ensures.others n off'))
