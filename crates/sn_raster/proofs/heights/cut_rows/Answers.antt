use Rattle.std.proofs.Common.{ℤ, pos, ◌+ℤ◌, ◌<ℤ◌, w32, to_z, refl, sym, subst, arith}
use Rattle.std.proofs.lemmas.Int.{ints}
use Rattle.sn_geom.proofs.Ring.{sums}
use Rattle.sn_raster.specs.Heights.{Pass, node_of}
use Rattle.sn_raster.proofs.Axis.{kept}
use Rattle.sn_raster.proofs.Rows.{counted_from, end_is, next_is, one_later, lt_from, passed_end}
use Rattle.sn_raster.proofs.HeightCuts.{IsKept, kept_far}
use Rattle.sn_raster.proofs.HeightRows.{AreRowsPassed, along, still_without, row_passed, rows_passed_to, part_of_rows_passed, within_last, past_last, before_first, from_first}
use Rattle.sn_raster.proofs.heights.cut_rows.Goals as goal

pub loop-j-init : goal.loop-j-init
loop-j-init c =
    let g = c.args.g.now in
    let pass : Pass = record { body = c.args.body.now; from = c.args.a.now; to = c.args.b.now } in
    let rows = c.rows_near-rows.result in
    let first = kept rows.first rows.first_in in
    record {
      low = omega (arith, ints);
      passed = rows_passed_to (IsKept c.args.map.now g.pitch pass) g c.args.map.now _ c.requires.grid
          (λ cell before.
          kept_far c.touching.ensures.height_and_plan c.args.map.now g pass cell c.plan_of.result c.plan_of-2.result c.requires.grid c.requires.not_slanted c.plan_of.ensures c.plan_of-2.ensures
          (λ window near. before_first cell.j _ rows.first first before (c.rows_near-rows.ensures.all (node_of cell) window near).0));
    }

pub cut_row-requires-clause-first : goal.cut_row-requires-clause-first
cut_row-requires-clause-first c = from_first _ c.rows_near-rows.result.first c.args.g.now.j0 c.rows_near-rows.ensures.first (counted_from c.rows_near-rows.result.first _ c.rows_near-rows.result.first_in c.loop-j.invariant.low)

pub cut_row-requires-clause-last : goal.cut_row-requires-clause-last
cut_row-requires-clause-last c =
    let rows = c.rows_near-rows.result in
    within_last _ _ rows.last c.args.g.now.j1 (end_is rows.last rows.last refl rows.last_in) c.rows_near-rows.ensures.last (lt_from _ _ c.loop-j-test.true)

pub loop-j-preserved : goal.loop-j-preserved
loop-j-preserved c =
    let g = c.args.g.now in
    let pass : Pass = record { body = c.args.body.now; from = c.args.a.now; to = c.args.b.now } in
    let rows = c.rows_near-rows.result in
    let j = to_z w32 c.loop-j.j-bits in
    let end = end_is rows.last rows.last refl rows.last_in in
    let B : ℤ → Type 0 = λ z. j <ℤ z in
    let below : j <ℤ (rows.last +ℤ pos 1) = subst B end (lt_from _ _ c.loop-j-test.true) in
    let next = next_is j rows.first rows.last rows.first_in rows.last_in (counted_from c.rows_near-rows.result.first _ c.rows_near-rows.result.first_in c.loop-j.invariant.low) below in
    let Q : ℤ → Type 0 = λ z. AreRowsPassed (IsKept c.args.map.now g.pitch pass) g c.args.map.now c.cut_row.new.map z in
    record {
      low = one_later _ j _ next c.loop-j.invariant.low;
      passed = subst Q (sym next)
          (row_passed (IsKept c.args.map.now g.pitch pass) g c.args.map.now c.loop-j.map c.cut_row.new.map j c.cut_row.ensures.grid
          (λ cell row same. along (c.cut_row.ensures.row cell row) (still_without same)) c.cut_row.ensures.others c.loop-j.invariant.passed);
    }

pub returns-clause-cells : goal.returns-clause-cells
returns-clause-cells c =
    let g = c.args.g.now in
    let pass : Pass = record { body = c.args.body.now; from = c.args.a.now; to = c.args.b.now } in
    let rows = c.rows_near-rows.result in
    let past = passed_end _ _ rows.last rows.last (end_is rows.last rows.last refl rows.last_in) c.loop-j-test.false (omega (arith, sums)) in
    part_of_rows_passed (IsKept c.args.map.now g.pitch pass) g c.args.map.now c.loop-j.map _
    (λ cell beyond.
    kept_far c.touching.ensures.height_and_plan c.args.map.now g pass cell c.plan_of.result c.plan_of-2.result c.requires.grid c.requires.not_slanted c.plan_of.ensures c.plan_of-2.ensures
    (λ window near. past_last cell.j _ rows.last past beyond (c.rows_near-rows.ensures.all (node_of cell) window near).1))
    c.loop-j.invariant.passed
