use Rattle.std.proofs.Common.{ℕ, ◌≡◌, ◌≤◌, ◌+◌, ℤ, pos, ◌-ℤ◌, ◌≤ℤ◌, w32, to_z, of_z, ap, ◌∙◌, sym, subst, arith}
use Rattle.std.proofs.lemmas.Int.{ints, to_z-of_z}
use Rattle.sn_raster.specs.Grid.{places}
use Rattle.sn_raster.proofs.Axis.{kept}
use Rattle.sn_raster.proofs.Rows.{inside_window}
use Rattle.sn_raster.proofs.RowRuns.{IsRunTo, none_run, run_one, run_all, column_is, column_past, count_as}
use Rattle.sn_raster.proofs.turns.run_row.Goals as goal

no_step : (last : ℤ) → (last -ℤ pos 0) ≡ last
no_step last = omega (arith, ints)

one_step : (last : ℤ) (k : ℕ) → (last -ℤ pos (k + 1)) ≡ (last -ℤ pos k) -ℤ pos 1
one_step last k = omega (arith, ints)

pub loop-k-init : goal.loop-k-init
loop-k-init c = none_run c.args.g.now _ c.args.row.now _ c.requires.grid (no_step c.args.g.now.i1)

pub run_node-odd-requires-clause-window : goal.run_node-odd-requires-clause-window
run_node-odd-requires-clause-window c =
    let g = c.args.g.now in
    let ends = c.g.invariant.ends.columns in
    let column = column_is g c.g.inside.i0 c.g.inside.i1 c.loop-k.k c.count-k-end.result (ap (λ g. g.i0) c.g.view_is) (ap (λ g. g.i1) c.g.view_is) ends.0 ends.1 c.count-k-end.ensures.value c.loop-k-test.true in
    let F : ℤ → Type 0 = λ k. g.i0 ≤ℤ k in
    let T : ℤ → Type 0 = λ k. k ≤ℤ g.i1 in
    inside_window g _ c.args.j _ (to_z-of_z w32 c.args.j c.ranges.j) (subst F (sym column.is) column.left) (subst T (sym column.is) column.right) c.requires.first c.requires.last

pub loop-k-preserved : goal.loop-k-preserved
loop-k-preserved c =
    let g = c.args.g.now in
    let ends = c.g.invariant.ends.columns in
    let column = column_is g c.g.inside.i0 c.g.inside.i1 c.loop-k.k c.count-k-end.result (ap (λ g. g.i0) c.g.view_is) (ap (λ g. g.i1) c.g.view_is) ends.0 ends.1 c.count-k-end.ensures.value c.loop-k-test.true in
    let j = to_z-of_z w32 c.args.j c.ranges.j in
    let F : ℤ → Type 0 = λ j. g.j0 ≤ℤ j in
    let T : ℤ → Type 0 = λ j. j ≤ℤ g.j1 in
    run_one g _ c.args.row.now c.loop-k.row c.run_node-odd.new.row c.loop-k.odd c.run_node-odd.result (g.i1 -ℤ pos c.loop-k.k) _ _ (one_step g.i1 c.loop-k.k) (λ k. record { i = column.is k; j = to_z w32 (of_z w32 c.args.j) })
    column.left column.right (subst F (sym j) c.requires.first) (subst T (sym j) c.requires.last) c.run_node-odd.ensures.grid c.run_node-odd.ensures.value c.run_node-odd.ensures.node c.run_node-odd.ensures.others c.loop-k.invariant

pub returns-clause-row : goal.returns-clause-row
returns-clause-row c = λ f beyond turns i low high.
    let g = c.args.g.now in
    let ends = c.g.invariant.ends.columns in
    let j = to_z-of_z w32 c.args.j c.ranges.j in
    let count = count_as g.i0 _ g.i1 _ c.count-k-end.result (kept _ ends.0 ∙ ap (λ g. g.i0) c.g.view_is) (kept _ ends.1 ∙ ap (λ g. g.i1) c.g.view_is) c.count-k-end.ensures.value in
    let above : places g.i0 g.i1 ≤ c.loop-k.k = (let t = c.loop-k-test.false in omega (arith, t, count)) in
    let R : ℤ → Type 0 = λ j. IsRunTo g j c.args.row.now c.loop-k.row c.loop-k.odd (g.i1 -ℤ pos c.loop-k.k) in
    run_all g c.args.j c.args.row.now c.loop-k.row c.loop-k.odd _ (column_past g.i0 g.i1 c.loop-k.k above) (subst R j c.loop-k.invariant) f (record { beyond = beyond; turns = turns }) i low high

pub returns-clause-others : goal.returns-clause-others
returns-clause-others c = λ n off. c.loop-k.invariant.others n (λ on. off (on ∙ to_z-of_z w32 c.args.j c.ranges.j))
