use Rattle.std.proofs.Common.{ℤ, pos, ◌+ℤ◌, ◌<ℤ◌, w32, to_z, ◌∙◌, sym, refl, subst, arith}
use Rattle.std.proofs.lemmas.Int.{ints}
use Rattle.sn_geom.proofs.Ring.{sums}
use Rattle.sn_outline.specs.Outline.{InOutline}
use Rattle.sn_raster.specs.Grid.{Nodes, place}
use Rattle.sn_raster.proofs.Axis.{kept}
use Rattle.sn_raster.proofs.HeightRows.{neither}
use Rattle.sn_raster.proofs.Rows.{end_is, next_is, one_later, lt_from, passed_end}
use Rattle.sn_raster.proofs.PlaneRows.{rows_marked_to_first, row_marked, row_as_filled, all_rows_marked, only_those, filled_in}
use Rattle.sn_raster.proofs.filling.fill.Goals as goal

pub loop-j-init : goal.loop-j-init
loop-j-init c =
    let g = c.grid-g.result in
    let rows = c.rows_of-rows in
    let first = kept rows.result.first rows.result.first_in in
    let P : Nodes = λ n. InOutline c.args.o.now (place g.pitch n) in
    record {
      low = rw first rows.ensures.first;
      from = omega (arith, ints);
      marked = rows_marked_to_first P (λ _. ⊥) g c.clear.new.self _ rows.result.first (c.clear.ensures.grid ∙ sym c.grid-g.ensures) first (λ n window inside. (rows.ensures.all n window inside).0) (λ n. neither (c.clear.ensures.nodes n) (λ none. none));
    }

pub loop-j-preserved : goal.loop-j-preserved
loop-j-preserved c =
    let g = c.grid-g.result in
    let rows = c.rows_of-rows.result in
    let j = to_z w32 c.loop-j.j-bits in
    let first = kept rows.first rows.first_in in
    let from = rw first at c.loop-j.invariant.from in
    let B : ℤ → Type 0 = λ z. j <ℤ z in
    let below : j <ℤ (rows.last +ℤ pos 1) = subst B (end_is rows.last rows.last refl rows.last_in) (lt_from _ _ c.loop-j-test.true) in
    let next = next_is j rows.first rows.last rows.first_in rows.last_in from below in
    let P : Nodes = λ n. InOutline c.args.o.now (place g.pitch n) in
    record {
      low = one_later g.j0 j _ next c.loop-j.invariant.low;
      from = one_later _ j _ next c.loop-j.invariant.from;
      marked = row_marked P (λ _. ⊥) g c.loop-j.plane c.fill_row.new.row j _ next c.fill_row.ensures.grid (λ n on window before. row_as_filled c.args.o.now g c.fill_row.new.row j n on window c.fill_row.ensures.row) c.fill_row.ensures.others c.loop-j.invariant.marked;
    }

pub returns-clause-nodes : goal.returns-clause-nodes
returns-clause-nodes c = λ n.
    let g = c.grid-g.result in
    let rows = c.rows_of-rows in
    let last = rows.result.last in
    let P : Nodes = λ n. InOutline c.args.o.now (place g.pitch n) in
    let past = passed_end _ _ last last (end_is last last refl rows.result.last_in) c.loop-j-test.false (omega (arith, sums)) in
    filled_in g c.args.plane.now.grid c.args.o.now n c.grid-g.ensures
    (only_those (all_rows_marked P (λ _. ⊥) g c.loop-j.plane _ last past (λ m window inside. (rows.ensures.all m window inside).1) (λ m none. absurd none) c.loop-j.invariant.marked n))
