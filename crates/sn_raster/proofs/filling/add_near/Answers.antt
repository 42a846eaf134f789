use Rattle.std.proofs.Common.{ℤ, pos, ◌+ℤ◌, ◌<ℤ◌, w32, to_z, ap, ◌∙◌, sym, refl, subst, arith}
use Rattle.std.proofs.lemmas.Int.{ints}
use Rattle.sn_geom.proofs.Ring.{sums}
use Rattle.sn_geom.specs.Sweep.{Near}
use Rattle.sn_raster.specs.Grid.{Nodes, place}
use Rattle.sn_raster.specs.Plane.{Has}
use Rattle.sn_raster.proofs.Axis.{kept}
use Rattle.sn_raster.proofs.MarkRuns.{ordered}
use Rattle.sn_raster.proofs.Marks.{in_own_window}
use Rattle.sn_raster.proofs.Rows.{end_is, next_is, one_later, lt_from, passed_end}
use Rattle.sn_raster.proofs.SegmentRows.{or_none}
use Rattle.sn_raster.proofs.PlaneRows.{rows_marked_to_first, row_marked, added_row, all_rows_marked, no_columns, added_in}
use Rattle.sn_raster.proofs.filling.add_near.Goals as goal

pub returns-then-g-clause-nodes : goal.returns-then-g-clause-nodes
returns-then-g-clause-nodes c = λ n.
    let first = kept _ c.g.invariant.ends.columns.0 ∙ ap (λ g. g.i0) c.g.view_is in
    let last = kept _ c.g.invariant.ends.columns.1 ∙ ap (λ g. g.i1) c.g.view_is in
    or_none (λ (window, near). no_columns c.grid-g.result c.args.plane.now.grid n _ _ c.grid-g.ensures first last (lt_from _ _ c.if-g.true) window)

pub loop-j-init : goal.loop-j-init
loop-j-init c =
    let g = c.grid-g.result in
    let rows = c.rows_near-rows in
    let first = kept rows.result.first rows.result.first_in in
    let P : Nodes = λ n. Near c.args.d c.args.segment.now.a c.args.segment.now.b (place g.pitch n) in
    record {
      low = rw first rows.ensures.first;
      from = omega (arith, ints);
      marked = rows_marked_to_first P (λ n. Has c.args.plane.now n) g c.args.plane.now _ rows.result.first (sym c.grid-g.ensures) first (λ n window near. (rows.ensures.all n window near).0) (λ n. ((λ has. has), (λ has. has)));
    }

pub mark_segment-requires-clause-columns : goal.mark_segment-requires-clause-columns
mark_segment-requires-clause-columns c =
    let first = kept _ c.g.invariant.ends.columns.0 ∙ ap (λ g. g.i0) c.g.view_is in
    let last = kept _ c.g.invariant.ends.columns.1 ∙ ap (λ g. g.i1) c.g.view_is in
    ordered c.grid-g.result.i0 c.grid-g.result.i1 _ _ first last c.if-g.false

pub loop-j-preserved : goal.loop-j-preserved
loop-j-preserved c =
    let g = c.grid-g.result in
    let rows = c.rows_near-rows.result in
    let j = to_z w32 c.loop-j.j-bits in
    let first = kept rows.first rows.first_in in
    let from = rw first at c.loop-j.invariant.from in
    let B : ℤ → Type 0 = λ z. j <ℤ z in
    let below : j <ℤ (rows.last +ℤ pos 1) = subst B (end_is rows.last rows.last refl rows.last_in) (lt_from _ _ c.loop-j-test.true) in
    let next = next_is j rows.first rows.last rows.first_in rows.last_in from below in
    let P : Nodes = λ n. Near c.args.d c.args.segment.now.a c.args.segment.now.b (place g.pitch n) in
    record {
      low = one_later g.j0 j _ next c.loop-j.invariant.low;
      from = one_later _ j _ next c.loop-j.invariant.from;
      marked = row_marked P (λ n. Has c.args.plane.now n) g c.loop-j.plane c.mark_segment.new.row j _ next c.mark_segment.ensures.grid (λ n on window before. added_row (c.mark_segment.ensures.row n on window) before) c.mark_segment.ensures.others c.loop-j.invariant.marked;
    }

pub returns-clause-nodes : goal.returns-clause-nodes
returns-clause-nodes c = λ n.
    let g = c.grid-g.result in
    let rows = c.rows_near-rows in
    let last = rows.result.last in
    let P : Nodes = λ n. Near c.args.d c.args.segment.now.a c.args.segment.now.b (place g.pitch n) in
    let past = passed_end _ _ last last (end_is last last refl rows.result.last_in) c.loop-j-test.false (omega (arith, sums)) in
    added_in g c.args.plane.now.grid c.args.d c.args.segment.now.a c.args.segment.now.b n c.grid-g.ensures
    (all_rows_marked P (λ n. Has c.args.plane.now n) g c.loop-j.plane _ last past (λ m window near. (rows.ensures.all m window near).1) (λ m has. in_own_window g c.args.plane.now.grid m c.grid-g.ensures has.in_window) c.loop-j.invariant.marked n)
