use Rattle.std.proofs.Common.{◌∙◌, pos, w32, ap, sym}
use Rattle.std.specs.Int.{int_min, int_max}
use Rattle.std.proofs.lemmas.Bool.{both_ways}
use Rattle.std.proofs.lemmas.Int.{to_z-of_z}
use Rattle.sn_raster.specs.Heights.{height_of}
use Rattle.sn_raster.proofs.HeightMaps.{node, cell, fits, passed_node}
use Rattle.sn_raster.proofs.HeightCuts.{near_node}
use Rattle.sn_raster.proofs.HeightFirsts.{touched_near, none_above, first_over_node}
use Rattle.sn_raster.proofs.heights.first_in_node.Goals as goal

pub returns-then-not-near-clause-none : goal.returns-then-not-near-clause-none
returns-then-not-near-clause-none c =
    let g = c.args.g.now in
    let same = passed_node c.args.i c.args.j c.ranges.i c.ranges.j in
    λ _ cell is touched.
    both_ways _ c.if-not-near.true
    (c.near.ensures.1
    ((near_node g.pitch c.args.d c.args.a.now c.args.b.now cell _ _ _ _ c.plan_of.ensures c.plan_of-2.ensures c.place_of.ensures (is ∙ sym same)).1
    (touched_near c.touching.ensures.height_and_plan c.args.map.now g c.args.d c.args.a.now c.args.b.now c.args.from cell c.requires.grid c.requires.not_slanted touched)))

pub returns-then-not-is_below-clause-none : goal.returns-then-not-is_below-clause-none
returns-then-not-is_below-clause-none c =
    let g = c.args.g.now in
    let same = passed_node c.args.i c.args.j c.ranges.i c.ranges.j in
    let lowest = c.lowest-z.ensures ∙ ap (λ f. int_max f (int_max g.bottom (int_min c.args.a.now.z c.args.b.now.z))) (to_z-of_z w32 c.args.from c.ranges.from) in
    λ _ cell is touched.
    both_ways _ c.if-not-is_below.true
    (c.is_below.ensures.1
    (rw (fits c.lowest-z.result c.lowest-z.type_inv, fits c.at.result c.at.type_inv)
    (none_above c.touching.ensures.height_and_plan c.args.map.now g c.args.d c.args.a.now c.args.b.now c.args.from c.lowest-z.result c.at.result cell _ c.requires.grid c.requires.not_slanted lowest c.at.ensures.value (is ∙ sym same) touched)))

pub returns-clause-some : goal.returns-clause-some
returns-clause-some c =
    let g = c.args.g.now in
    let same = passed_node c.args.i c.args.j c.ranges.i c.ranges.j in
    let lowest = c.lowest-z.ensures ∙ ap (λ f. int_max f (int_max g.bottom (int_min c.args.a.now.z c.args.b.now.z))) (to_z-of_z w32 c.args.from c.ranges.from) in
    let kept = fits c.lowest-z.result c.lowest-z.type_inv in
    first_over_node c.touching.ensures.height_and_plan c.args.map.now g c.args.d c.args.a.now c.args.b.now c.args.from _ _ _ c.at.result (node c.args.i c.args.j)
    c.requires.grid c.requires.not_slanted c.requires.window same (kept ∙ lowest) (c.at.ensures.value ∙ ap (height_of c.args.map.now) same)
    (rw (← fits c.at.result c.at.type_inv) (c.is_below.ensures.0 c.if-not-is_below.false))
    ((near_node g.pitch c.args.d c.args.a.now c.args.b.now (cell c.args.i c.args.j (pos 0)) _ _ _ _ c.plan_of.ensures c.plan_of-2.ensures c.place_of.ensures (sym same)).0
    (c.near.ensures.0 c.if-not-near.false))
