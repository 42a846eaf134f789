use Rattle.std.proofs.Common.{◌≡◌, ℤ, pos, ◌+ℤ◌, ◌<ℤ◌, w32, to_z, of_z, refl, ap, ◌∙◌, subst, arith}
use Rattle.std.proofs.lemmas.Int.{ints}
use Rattle.sn_geom.specs.Length.{IsLength}
use Rattle.sn_raster.proofs.Axis.{kept}
use Rattle.sn_raster.proofs.Rows.{end_is, next_is, one_later, lt_from, passed_end}
use Rattle.sn_raster.proofs.HeightRows.{before_end}
use Rattle.sn_raster.proofs.HeightTops.{max_length, max_value, top_of_none, top_row_more, top_same}
use Rattle.sn_raster.proofs.tops.top_of_rows.Goals as goal

pub loop-j-init : goal.loop-j-init
loop-j-init c =
    let g = c.args.g.now in
    let first : to_z w32 (of_z w32 c.g.inside.rj0) ≡ g.rj0 = kept _ c.g.invariant.ends.raw_rows.0 ∙ ap (λ g. g.rj0) c.g.view_is in
    record {
      low = omega (arith, ints);
      top = top_of_none c.args.map.now g _ _ c.requires.grid (λ n (before, raw, _). let front = raw.front in omega (arith, ints)) (kept _ c.g.invariant.heights.0 ∙ ap (λ g. g.bottom) c.g.view_is);
      range = rw (kept _ c.g.invariant.heights.0) c.g.invariant.heights.0;
    }

pub top_of_row-requires-clause-last : goal.top_of_row-requires-clause-last
top_of_row-requires-clause-last c =
    let g = c.args.g.now in
    let end = end_is c.g.inside.rj1 g.rj1 (ap (λ g. g.rj1) c.g.view_is) (subst IsLength (ap (λ g. g.rj1) c.g.view_is) c.g.invariant.ends.raw_rows.1) in
    before_end _ _ g.rj1 end (lt_from _ _ c.loop-j-test.true)

pub loop-j-preserved : goal.loop-j-preserved
loop-j-preserved c =
    let g = c.args.g.now in
    let j = to_z w32 c.loop-j.j-bits in
    let first_length : IsLength g.rj0 = subst IsLength (ap (λ g. g.rj0) c.g.view_is) c.g.invariant.ends.raw_rows.0 in
    let last_length : IsLength g.rj1 = subst IsLength (ap (λ g. g.rj1) c.g.view_is) c.g.invariant.ends.raw_rows.1 in
    let end = end_is c.g.inside.rj1 g.rj1 (ap (λ g. g.rj1) c.g.view_is) last_length in
    let B : ℤ → Type 0 = λ z. j <ℤ z in
    let below : j <ℤ (g.rj1 +ℤ pos 1) = subst B end (lt_from _ _ c.loop-j-test.true) in
    let next = next_is j g.rj0 g.rj1 first_length last_length c.loop-j.invariant.low below in
    let a = to_z w32 c.loop-j.top-bits in
    let b = c.top_of_row.result in
    let top = max_value a _ b _ _ refl (kept b c.top_of_row.ensures.range) c.max-top.ensures.value in
    let range = max_length a b _ top c.loop-j.invariant.range c.top_of_row.ensures.range in
    record {
      low = one_later g.rj0 j _ next c.loop-j.invariant.low;
      top = top_row_more c.args.map.now g c.args.area.now j _ _ _ _ next (kept _ range ∙ top) c.loop-j.invariant.top c.top_of_row.ensures.top;
      range = rw (kept _ range) range;
    }

pub returns-clause-top : goal.returns-clause-top
returns-clause-top c =
    let g = c.args.g.now in
    let end = end_is c.g.inside.rj1 g.rj1 (ap (λ g. g.rj1) c.g.view_is) (subst IsLength (ap (λ g. g.rj1) c.g.view_is) c.g.invariant.ends.raw_rows.1) in
    top_same c.args.map.now _ _ _
    (λ n (raw, has). (passed_end _ _ n.j g.rj1 end c.loop-j-test.false raw.back, raw, has))
    (λ n (_, raw, has). (raw, has)) c.loop-j.invariant.top
