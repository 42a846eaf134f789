use Rattle.std.proofs.Common.{◌≡◌, ◌↔◌, ℤ, pos, ◌≤ℤ◌, ◌<ℤ◌, w32, w64, to_z, of_z, ap, ◌∙◌, subst, arith}
use Rattle.std.proofs.lemmas.Int.{to_z-of_z}
use Rattle.sn_geom.specs.Length.{IsLength}
use Rattle.sn_geom.specs.declared.units.Seg.{Seg}
use Rattle.sn_outline.specs.Polygon.{beside}
use Rattle.sn_raster.specs.Grid.{place}
use Rattle.sn_raster.specs.RowTurns.{at}
use Rattle.sn_raster.proofs.Axis.{kept}
use Rattle.sn_raster.proofs.HeightMaps.{fits}
use Rattle.sn_raster.proofs.Sides.{kept_long, kept_within, turned_row, not_turned_row}
use Rattle.sn_raster.proofs.turns.turn_left_of.Goals as goal

pub returns-then-from-last-clause-row : goal.returns-then-from-last-clause-row
returns-then-from-last-clause-row c = λ i low high.
    let g = c.args.g.now in
    let e : Seg = record { a = c.args.low.now; b = c.args.high.now } in
    let j = to_z-of_z w32 c.args.j c.ranges.j in
    let last = c.last_left_of-last.result in
    let m = c.not_past.result in
    let I : ℤ → Type 0 = λ j. (k : ℤ) → k ≤ℤ last ↔ (pos 0 <ℤ beside (place g.pitch (at k j)) e) in
    turned_row g e c.args.row.now c.turn_node.new.row i c.args.j m last _ _ (kept_long last c.last_left_of-last.type_inv)
    (λ k. record { i = fits m c.not_past.type_inv k; j = j k }) c.turn_node.ensures.grid c.requires.grid
    (record { left = low; right = high; front = c.requires.first; back = c.requires.last })
    (subst I j c.last_left_of-last.ensures) c.not_past.ensures.at_most c.not_past.ensures.in_window.1 c.not_past.ensures.greatest c.turn_node.ensures.node c.turn_node.ensures.others

pub returns-then-from-last-clause-others : goal.returns-then-from-last-clause-others
returns-then-from-last-clause-others c = λ n off. c.turn_node.ensures.others n (λ is. off (ap (λ m. m.j) is ∙ to_z-of_z w32 c.args.j c.ranges.j))

pub returns-else-from-last-clause-row : goal.returns-else-from-last-clause-row
returns-else-from-last-clause-row c = λ i low high.
    let g = c.args.g.now in
    let e : Seg = record { a = c.args.low.now; b = c.args.high.now } in
    let j = to_z-of_z w32 c.args.j c.ranges.j in
    let last = c.last_left_of-last.result in
    let I : ℤ → Type 0 = λ j. (k : ℤ) → k ≤ℤ last ↔ (pos 0 <ℤ beside (place g.pitch (at k j)) e) in
    let first_length : IsLength g.i0 = subst IsLength (ap (λ g. g.i0) c.g.view_is) c.g.invariant.ends.columns.0 in
    let first : to_z w64 (of_z w64 c.from.result) ≡ g.i0 = ap (λ z. to_z w64 (of_z w64 z)) (c.from.ensures ∙ kept _ c.g.invariant.ends.columns.0 ∙ ap (λ g. g.i0) c.g.view_is) ∙ kept_within g.i0 (omega (arith, first_length)) in
    not_turned_row g e c.args.row.now i c.args.j g.i0 last _ _ first (kept_long last c.last_left_of-last.type_inv) low c.if-from-last.false (subst I j c.last_left_of-last.ensures)
