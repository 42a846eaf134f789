use Rattle.std.proofs.Common.{ℤ, pos, ◌+ℤ◌, ◌<ℤ◌, w32, to_z, of_z, refl, ◌∙◌, sym, subst, arith}
use Rattle.std.proofs.lemmas.Int.{ints, by_lt_z, to_z-of_z}
use Rattle.std.specs.Option.{IfSome}
use Rattle.sn_geom.proofs.Ring.{sums}
use Rattle.sn_raster.specs.Heights.{IsTouchedCell, IsFirst, node_of}
use Rattle.sn_raster.proofs.Axis.{kept}
use Rattle.sn_raster.proofs.Rows.{counted_from, end_is, next_is, one_later, lt_from, passed_end}
use Rattle.sn_raster.proofs.HeightRows.{within_last, before_first, from_first}
use Rattle.sn_raster.proofs.HeightFirsts.{first_of_all, touched_in_reach}
use Rattle.sn_raster.proofs.heights.first_in_rows.Goals as goal

pub loop-j-init : goal.loop-j-init
loop-j-init c =
    let rows = c.rows_near-rows.result in
    let first = kept rows.first rows.first_in in
    record {
      low = omega (arith, ints);
      none = λ cell before touched.
          let reach = touched_in_reach c.touching.ensures.height_and_plan c.args.map.now c.args.g.now c.args.d c.args.a.now c.args.b.now _ cell c.plan_of.result c.plan_of-2.result c.requires.grid c.requires.not_slanted c.plan_of.ensures c.plan_of-2.ensures touched in
          before_first cell.j _ rows.first first before (c.rows_near-rows.ensures.all (node_of cell) reach.0 reach.1).0;
    }

pub first_in_row-found-requires-clause-first : goal.first_in_row-found-requires-clause-first
first_in_row-found-requires-clause-first c = from_first _ c.rows_near-rows.result.first c.args.g.now.j0 c.rows_near-rows.ensures.first (counted_from c.rows_near-rows.result.first _ c.rows_near-rows.result.first_in c.loop-j.invariant.low)

pub first_in_row-found-requires-clause-last : goal.first_in_row-found-requires-clause-last
first_in_row-found-requires-clause-last c =
    let rows = c.rows_near-rows.result in
    within_last _ _ rows.last c.args.g.now.j1 (end_is rows.last rows.last refl rows.last_in) c.rows_near-rows.ensures.last (lt_from _ _ c.loop-j-test.true)

pub returns-then-is_some-clause-some : goal.returns-then-is_some-clause-some
returns-then-is_some-clause-some c =
    let from = to_z w32 (of_z w32 c.args.from) in
    let F : ℤ → Type 0 = λ f. IfSome c.first_in_row-found.result (IsFirst (IsTouchedCell c.args.map.now c.args.d c.args.a.now c.args.b.now f)) in
    subst F (to_z-of_z w32 c.args.from c.ranges.from)
    (first_of_all (IsTouchedCell c.args.map.now c.args.d c.args.a.now c.args.b.now from) (to_z w32 c.loop-j.j-bits) c.first_in_row-found.result c.loop-j.invariant.none c.first_in_row-found.ensures.some)

pub loop-j-preserved : goal.loop-j-preserved
loop-j-preserved c =
    let rows = c.rows_near-rows.result in
    let j = to_z w32 c.loop-j.j-bits in
    let end = end_is rows.last rows.last refl rows.last_in in
    let B : ℤ → Type 0 = λ z. j <ℤ z in
    let below : j <ℤ (rows.last +ℤ pos 1) = subst B end (lt_from _ _ c.loop-j-test.true) in
    let next = next_is j rows.first rows.last rows.first_in rows.last_in (counted_from c.rows_near-rows.result.first _ c.rows_near-rows.result.first_in c.loop-j.invariant.low) below in
    record {
      low = one_later _ j _ next c.loop-j.invariant.low;
      none = λ cell before touched.
          by_lt_z cell.j j (λ earlier. c.loop-j.invariant.none cell earlier touched)
          (λ reached. c.first_in_row-found.ensures.none (sym c.is_some.ensures ∙ c.if-is_some.false) cell (omega (arith, sums, next, before, reached)) touched);
    }

pub returns-clause-none : goal.returns-clause-none
returns-clause-none c =
    let rows = c.rows_near-rows.result in
    let end = end_is rows.last rows.last refl rows.last_in in
    λ _ cell touched.
    let reach = touched_in_reach c.touching.ensures.height_and_plan c.args.map.now c.args.g.now c.args.d c.args.a.now c.args.b.now c.args.from cell c.plan_of.result c.plan_of-2.result c.requires.grid c.requires.not_slanted c.plan_of.ensures c.plan_of-2.ensures touched in
    let F : ℤ → Type 0 = λ f. IsTouchedCell c.args.map.now c.args.d c.args.a.now c.args.b.now f cell in
    c.loop-j.invariant.none cell (passed_end _ _ cell.j rows.last end c.loop-j-test.false (c.rows_near-rows.ensures.all (node_of cell) reach.0 reach.1).1)
    (subst F (sym (to_z-of_z w32 c.args.from c.ranges.from)) touched)
