use Rattle.std.proofs.Common.{◌≡◌, ℤ, pos, ◌+ℤ◌, ◌<ℤ◌, w32, to_z, of_z, ◌∙◌, refl, sym, subst, arith}
use Rattle.std.proofs.lemmas.Int.{ints, by_lt_z, to_z-of_z}
use Rattle.std.specs.Option.{IfSome}
use Rattle.sn_geom.proofs.Ring.{sums}
use Rattle.sn_raster.specs.Heights.{IsTouchedCell, IsFirst, node_of}
use Rattle.sn_raster.proofs.Axis.{kept}
use Rattle.sn_raster.proofs.Rows.{counted_from, inside_window, end_is, next_is, one_later, lt_from, passed_end}
use Rattle.sn_raster.proofs.HeightMaps.{node, same_place}
use Rattle.sn_raster.proofs.HeightRows.{within_last, before_first, from_first}
use Rattle.sn_raster.proofs.HeightFirsts.{first_of_row, touched_in_reach}
use Rattle.sn_raster.proofs.heights.first_in_row.Goals as goal

pub loop-i-init : goal.loop-i-init
loop-i-init c =
    let columns = c.columns_near-columns.result in
    let first = kept columns.first columns.first_in in
    record {
      low = omega (arith, ints);
      none = λ cell row before touched.
          let reach = touched_in_reach c.touching.ensures.height_and_plan c.args.map.now c.args.g.now c.args.d c.args.a.now c.args.b.now _ cell c.plan_of.result c.plan_of-2.result c.requires.grid c.requires.not_slanted c.plan_of.ensures c.plan_of-2.ensures touched in
          before_first cell.i _ columns.first first before (c.columns_near-columns.ensures.all (node_of cell) reach.0 reach.1).0;
    }

pub first_in_node-found-requires-clause-window : goal.first_in_node-found-requires-clause-window
first_in_node-found-requires-clause-window c =
    let g = c.args.g.now in
    let columns = c.columns_near-columns.result in
    inside_window g (to_z w32 c.loop-i.i-bits) c.args.j _ (to_z-of_z w32 c.args.j c.ranges.j) (from_first _ columns.first g.i0 c.columns_near-columns.ensures.first (counted_from c.columns_near-columns.result.first _ c.columns_near-columns.result.first_in c.loop-i.invariant.low))
    (within_last _ _ columns.last g.i1 (end_is columns.last columns.last refl columns.last_in) c.columns_near-columns.ensures.last (lt_from _ _ c.loop-i-test.true)) c.requires.first c.requires.last

pub returns-then-is_some-clause-some : goal.returns-then-is_some-clause-some
returns-then-is_some-clause-some c =
    let i = to_z w32 c.loop-i.i-bits in
    let j = to_z w32 (of_z w32 c.args.j) in
    let from = to_z w32 (of_z w32 c.args.from) in
    let J : ℤ → Type 0 = λ j. IfSome c.first_in_node-found.result (IsFirst (λ c'. (c'.j ≡ j) × IsTouchedCell c.args.map.now c.args.d c.args.a.now c.args.b.now from c')) in
    let F : ℤ → Type 0 = λ f. IfSome c.first_in_node-found.result (IsFirst (λ c'. (c'.j ≡ c.args.j) × IsTouchedCell c.args.map.now c.args.d c.args.a.now c.args.b.now f c')) in
    subst F (to_z-of_z w32 c.args.from c.ranges.from)
    (subst J (to_z-of_z w32 c.args.j c.ranges.j)
    (first_of_row (IsTouchedCell c.args.map.now c.args.d c.args.a.now c.args.b.now from) i j (node i j) c.first_in_node-found.result refl c.loop-i.invariant.none c.first_in_node-found.ensures.some))

pub loop-i-preserved : goal.loop-i-preserved
loop-i-preserved c =
    let columns = c.columns_near-columns.result in
    let i = to_z w32 c.loop-i.i-bits in
    let j = to_z w32 (of_z w32 c.args.j) in
    let end = end_is columns.last columns.last refl columns.last_in in
    let B : ℤ → Type 0 = λ z. i <ℤ z in
    let below : i <ℤ (columns.last +ℤ pos 1) = subst B end (lt_from _ _ c.loop-i-test.true) in
    let next = next_is i columns.first columns.last columns.first_in columns.last_in (counted_from c.columns_near-columns.result.first _ c.columns_near-columns.result.first_in c.loop-i.invariant.low) below in
    record {
      low = one_later _ i _ next c.loop-i.invariant.low;
      none = λ cell row before touched.
          by_lt_z cell.i i (λ earlier. c.loop-i.invariant.none cell row earlier touched)
          (λ reached.
          let column : cell.i ≡ i = omega (arith, sums, next, before, reached) in
          c.first_in_node-found.ensures.none (sym c.is_some.ensures ∙ c.if-is_some.false) cell (same_place cell.i i cell.j j column row) touched);
    }

pub returns-clause-none : goal.returns-clause-none
returns-clause-none c =
    let columns = c.columns_near-columns.result in
    let end = end_is columns.last columns.last refl columns.last_in in
    λ _ cell row touched.
    let reach = touched_in_reach c.touching.ensures.height_and_plan c.args.map.now c.args.g.now c.args.d c.args.a.now c.args.b.now c.args.from cell c.plan_of.result c.plan_of-2.result c.requires.grid c.requires.not_slanted c.plan_of.ensures c.plan_of-2.ensures touched in
    let F : ℤ → Type 0 = λ f. IsTouchedCell c.args.map.now c.args.d c.args.a.now c.args.b.now f cell in
    c.loop-i.invariant.none cell (row ∙ sym (to_z-of_z w32 c.args.j c.ranges.j)) (passed_end _ _ cell.i columns.last end c.loop-i-test.false (c.columns_near-columns.ensures.all (node_of cell) reach.0 reach.1).1)
    (subst F (sym (to_z-of_z w32 c.args.from c.ranges.from)) touched)
