use Rattle.std.proofs.Common.{◌↔◌, ℤ, pos, ◌*ℤ◌, ◌-ℤ◌, ◌≤ℤ◌, ◌<ℤ◌, w32, ap, ◌∙◌, sym, subst, arith}
use Rattle.std.proofs.lemmas.Int.{to_z-of_z}
use Rattle.sn_outline.specs.Polygon.{beside}
use Rattle.sn_raster.specs.Grid.{place}
use Rattle.sn_raster.specs.RowTurns.{at}
use Rattle.sn_raster.proofs.Sides.{kept_long, kept_within, one_less, left_of, division, lead_at}
use Rattle.sn_raster.proofs.leads.last_left_of.Goals as goal

pub returns : goal.returns
returns c = λ i.
    let g = c.args.g.now in
    let lead = c.lead_of-lead.result in
    let step = c.step_of.result in
    let j = to_z-of_z w32 c.args.j c.ranges.j in
    let y = c.height_of_row.ensures ∙ ap (λ j. j *ℤ pos g.pitch) j in
    let quotient = division (lead -ℤ pos 1) step _ _ c.div_euclid.result (one_less lead c.lead_of-lead.ensures.size) (kept_within step (omega (arith, c.step_of.ensures.size))) c.div_euclid.ensures in
    let side = lead_at c.args.low.now c.args.high.now g.pitch _ i c.args.j c.height_of_row.result lead step y (ap (λ g. g.pitch) c.g.view_is) c.lead_of-lead.ensures.value c.step_of.ensures.value in
    let P : ℤ → Type 0 = λ q. i ≤ℤ q ↔ (pos 0 <ℤ beside (place g.pitch (at i c.args.j)) (record { a = c.args.low.now; b = c.args.high.now })) in
    subst P (sym (kept_long c.div_euclid.result c.div_euclid.type_inv)) (left_of lead step c.div_euclid.result i _ c.step_of.ensures.positive quotient side)
