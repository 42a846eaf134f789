use Rattle.std.proofs.Common.{◌≡◌, ℤ, pos, ◌*ℤ◌, ◌≤ℤ◌, w32, w64, to_z, of_z, ap, ◌∙◌, sym, subst, arith}
use Rattle.std.proofs.lemmas.Int.{to_z-of_z}
use Rattle.sn_geom.specs.declared.units.Seg.{Seg}
use Rattle.sn_outline.specs.Polygon.{beside}
use Rattle.sn_raster.specs.Grid.{place}
use Rattle.sn_raster.specs.RowTurns.{at}
use Rattle.sn_raster.proofs.Sides.{kept_long, kept_within, on_line, division, lead_at}
use Rattle.sn_raster.proofs.leads.column_on.Goals as goal

pub returns-clause-all : goal.returns-clause-all
returns-clause-all c = λ n window on zero.
    let g = c.args.g.now in
    let lead = c.lead_of-lead.result in
    let step = c.step_of.result in
    let e : Seg = record { a = c.args.low.now; b = c.args.high.now } in
    let j = to_z-of_z w32 c.args.j c.ranges.j in
    let y = c.height_of_row.ensures ∙ ap (λ j. j *ℤ pos g.pitch) j in
    let quotient = division lead step _ _ c.div_euclid.result (kept_within lead (omega (arith, c.lead_of-lead.ensures.size))) (kept_within step (omega (arith, c.step_of.ensures.size))) c.div_euclid.ensures in
    let side = lead_at c.args.low.now c.args.high.now g.pitch _ n.i c.args.j c.height_of_row.result lead step y (ap (λ g. g.pitch) c.g.view_is) c.lead_of-lead.ensures.value c.step_of.ensures.value in
    let Z : ℤ → Type 0 = λ j. beside (place g.pitch (at n.i j)) e ≡ pos 0 in
    let column : c.div_euclid.result ≡ n.i = on_line lead step c.div_euclid.result n.i _ c.step_of.ensures.positive quotient side (subst Z on zero) in
    let same : to_z w64 (of_z w64 c.div_euclid.result) ≡ n.i = kept_long c.div_euclid.result c.div_euclid.type_inv ∙ column in
    let F : ℤ → Type 0 = λ k. g.i0 ≤ℤ k in
    let T : ℤ → Type 0 = λ k. k ≤ℤ g.i1 in
    let R : ℤ → Type 0 = λ k. (c.only_column.result.first ≤ℤ k) × (k ≤ℤ c.only_column.result.last) in
    subst R same (c.only_column.ensures.all (subst F (sym same) window.left) (subst T (sym same) window.right))
