use Rattle.std.proofs.Common.{ℤ, pos, ◌+ℤ◌, ◌<ℤ◌, w32, to_z, of_z, ◌∙◌, refl, sym, subst, arith}
use Rattle.std.proofs.lemmas.Int.{ints, to_z-of_z}
use Rattle.sn_geom.proofs.Ring.{sums}
use Rattle.sn_raster.specs.Heights.{Pass, node_of}
use Rattle.sn_raster.proofs.Axis.{kept}
use Rattle.sn_raster.proofs.Rows.{counted_from, end_is, next_is, one_later, lt_from, passed_end, inside_window}
use Rattle.sn_raster.proofs.HeightMaps.{node}
use Rattle.sn_raster.proofs.HeightCuts.{IsKept, kept_far}
use Rattle.sn_raster.proofs.HeightRows.{IsRowPassed, along, still_without, node_passed, node_passed_to, part_of_row_passed, within_last, past_last, before_first, from_first}
use Rattle.sn_raster.proofs.heights.cut_row.Goals as goal

pub loop-i-init : goal.loop-i-init
loop-i-init c =
    let g = c.args.g.now in
    let pass : Pass = record { body = c.args.body.now; from = c.args.a.now; to = c.args.b.now } in
    let columns = c.columns_near-columns.result in
    let first = kept columns.first columns.first_in in
    record {
      low = omega (arith, ints);
      passed = node_passed_to (IsKept c.args.map.now g.pitch pass) g _ c.args.map.now _ c.requires.grid
          (λ cell _ before.
          kept_far c.touching.ensures.height_and_plan c.args.map.now g pass cell c.plan_of.result c.plan_of-2.result c.requires.grid c.requires.not_slanted c.plan_of.ensures c.plan_of-2.ensures
          (λ window near. before_first cell.i _ columns.first first before (c.columns_near-columns.ensures.all (node_of cell) window near).0));
    }

pub cut_node-requires-clause-window : goal.cut_node-requires-clause-window
cut_node-requires-clause-window c =
    let g = c.args.g.now in
    let columns = c.columns_near-columns.result in
    inside_window g (to_z w32 c.loop-i.i-bits) c.args.j _ (to_z-of_z w32 c.args.j c.ranges.j) (from_first _ columns.first g.i0 c.columns_near-columns.ensures.first (counted_from c.columns_near-columns.result.first _ c.columns_near-columns.result.first_in c.loop-i.invariant.low))
    (within_last _ _ columns.last g.i1 (end_is columns.last columns.last refl columns.last_in) c.columns_near-columns.ensures.last (lt_from _ _ c.loop-i-test.true)) c.requires.first c.requires.last

pub loop-i-preserved : goal.loop-i-preserved
loop-i-preserved c =
    let g = c.args.g.now in
    let pass : Pass = record { body = c.args.body.now; from = c.args.a.now; to = c.args.b.now } in
    let columns = c.columns_near-columns.result in
    let i = to_z w32 c.loop-i.i-bits in
    let j = to_z w32 (of_z w32 c.args.j) in
    let end = end_is columns.last columns.last refl columns.last_in in
    let B : ℤ → Type 0 = λ z. i <ℤ z in
    let below : i <ℤ (columns.last +ℤ pos 1) = subst B end (lt_from _ _ c.loop-i-test.true) in
    let next = next_is i columns.first columns.last columns.first_in columns.last_in (counted_from c.columns_near-columns.result.first _ c.columns_near-columns.result.first_in c.loop-i.invariant.low) below in
    let Q : ℤ → Type 0 = λ z. IsRowPassed (IsKept c.args.map.now g.pitch pass) g j c.args.map.now c.cut_node.new.map z in
    record {
      low = one_later _ i _ next c.loop-i.invariant.low;
      passed = subst Q (sym next)
          (node_passed (IsKept c.args.map.now g.pitch pass) g j c.args.map.now c.loop-i.map c.cut_node.new.map i (node i j) refl c.cut_node.ensures.grid
          (λ cell is same. along (c.cut_node.ensures.node cell is) (still_without same)) c.cut_node.ensures.others c.loop-i.invariant.passed);
    }

pub returns-clause-row : goal.returns-clause-row
returns-clause-row c =
    let g = c.args.g.now in
    let pass : Pass = record { body = c.args.body.now; from = c.args.a.now; to = c.args.b.now } in
    let columns = c.columns_near-columns.result in
    let past = passed_end _ _ columns.last columns.last (end_is columns.last columns.last refl columns.last_in) c.loop-i-test.false (omega (arith, sums)) in
    λ cell row.
    part_of_row_passed (IsKept c.args.map.now g.pitch pass) g _ c.args.map.now c.loop-i.map _
    (λ other _ beyond.
    kept_far c.touching.ensures.height_and_plan c.args.map.now g pass other c.plan_of.result c.plan_of-2.result c.requires.grid c.requires.not_slanted c.plan_of.ensures c.plan_of-2.ensures
    (λ window near. past_last other.i _ columns.last past beyond (c.columns_near-columns.ensures.all (node_of other) window near).1))
    c.loop-i.invariant.passed cell (row ∙ sym (to_z-of_z w32 c.args.j c.ranges.j))

pub returns-clause-others : goal.returns-clause-others
returns-clause-others c = λ cell off. c.loop-i.invariant.passed.others cell (λ on. off (on ∙ to_z-of_z w32 c.args.j c.ranges.j))
