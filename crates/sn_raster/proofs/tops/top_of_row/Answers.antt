use Rattle.std.proofs.Common.{◌≡◌, ℤ, pos, ◌+ℤ◌, ◌<ℤ◌, w32, to_z, of_z, refl, ap, ◌∙◌, sym, subst, arith}
use Rattle.std.proofs.lemmas.Int.{ints, to_z-of_z}
use Rattle.sn_geom.specs.Length.{IsLength}
use Rattle.sn_raster.proofs.Axis.{kept}
use Rattle.sn_raster.proofs.Rows.{end_is, next_is, one_later, lt_from, passed_end}
use Rattle.sn_raster.proofs.HeightTops.{raw_here, max_length, max_value, top_of_none, top_one_more, top_same}
use Rattle.sn_raster.proofs.tops.top_of_row.Goals as goal

pub loop-i-init : goal.loop-i-init
loop-i-init c =
    let g = c.args.g.now in
    let first : to_z w32 (of_z w32 c.g.inside.ri0) ≡ g.ri0 = kept _ c.g.invariant.ends.raw_columns.0 ∙ ap (λ g. g.ri0) c.g.view_is in
    record {
      low = omega (arith, ints);
      top = top_of_none c.args.map.now g _ _ c.requires.grid (λ n (_, before, raw, _). let left = raw.left in omega (arith, ints)) (kept _ c.g.invariant.heights.0 ∙ ap (λ g. g.bottom) c.g.view_is);
      range = rw (kept _ c.g.invariant.heights.0) c.g.invariant.heights.0;
    }

pub top_of_node-requires-clause-window : goal.top_of_node-requires-clause-window
top_of_node-requires-clause-window c =
    let g = c.args.g.now in
    let end = end_is c.g.inside.ri1 g.ri1 (ap (λ g. g.ri1) c.g.view_is) (subst IsLength (ap (λ g. g.ri1) c.g.view_is) c.g.invariant.ends.raw_columns.1) in
    c.rule.ensures.raw _ (raw_here g (to_z w32 c.loop-i.i-bits) c.args.j _ _ (to_z-of_z w32 c.args.j c.ranges.j) end c.loop-i.invariant.low (lt_from _ _ c.loop-i-test.true) c.requires.first c.requires.last)

pub loop-i-preserved : goal.loop-i-preserved
loop-i-preserved c =
    let g = c.args.g.now in
    let i = to_z w32 c.loop-i.i-bits in
    let j = to_z w32 (of_z w32 c.args.j) in
    let first_length : IsLength g.ri0 = subst IsLength (ap (λ g. g.ri0) c.g.view_is) c.g.invariant.ends.raw_columns.0 in
    let last_length : IsLength g.ri1 = subst IsLength (ap (λ g. g.ri1) c.g.view_is) c.g.invariant.ends.raw_columns.1 in
    let end = end_is c.g.inside.ri1 g.ri1 (ap (λ g. g.ri1) c.g.view_is) last_length in
    let B : ℤ → Type 0 = λ z. i <ℤ z in
    let below : i <ℤ (g.ri1 +ℤ pos 1) = subst B end (lt_from _ _ c.loop-i-test.true) in
    let next = next_is i g.ri0 g.ri1 first_length last_length c.loop-i.invariant.low below in
    let raw = raw_here g i c.args.j _ _ (to_z-of_z w32 c.args.j c.ranges.j) end c.loop-i.invariant.low (lt_from _ _ c.loop-i-test.true) c.requires.first c.requires.last in
    let a = to_z w32 c.loop-i.top-bits in
    let b = c.top_of_node.result in
    let top = max_value a _ b _ _ refl (kept b c.top_of_node.ensures.range) c.max-top.ensures.value in
    let range = max_length a b _ top c.loop-i.invariant.range c.top_of_node.ensures.range in
    record {
      low = one_later g.ri0 i _ next c.loop-i.invariant.low;
      top = top_one_more c.args.map.now g c.args.area.now i j _ _ _ _ next raw (kept _ range ∙ top) c.loop-i.invariant.top c.top_of_node.ensures.top;
      range = rw (kept _ range) range;
    }

pub returns-clause-top : goal.returns-clause-top
returns-clause-top c =
    let g = c.args.g.now in
    let end = end_is c.g.inside.ri1 g.ri1 (ap (λ g. g.ri1) c.g.view_is) (subst IsLength (ap (λ g. g.ri1) c.g.view_is) c.g.invariant.ends.raw_columns.1) in
    let j = to_z-of_z w32 c.args.j c.ranges.j in
    top_same c.args.map.now _ _ _
    (λ n (row, raw, has). (row ∙ sym j, passed_end _ _ n.i g.ri1 end c.loop-i-test.false raw.right, raw, has))
    (λ n (row, _, raw, has). (row ∙ j, raw, has)) c.loop-i.invariant.top
