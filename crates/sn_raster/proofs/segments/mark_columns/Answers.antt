use Rattle.std.proofs.Common.{ℤ, pos, ◌+ℤ◌, ◌<ℤ◌, w32, to_z, of_z, ◌∙◌, refl, sym, subst, arith}
use Rattle.std.proofs.lemmas.Int.{ints, to_z-of_z}
use Rattle.sn_geom.proofs.Ring.{sums}
use Rattle.sn_geom.specs.Sweep.{Near}
use Rattle.sn_raster.specs.Grid.{Node, place}
use Rattle.sn_raster.proofs.Axis.{kept}
use Rattle.sn_raster.proofs.Rows.{at, inside_window, end_is, next_is, one_later, lt_from, passed_end}
use Rattle.sn_raster.proofs.HeightRows.{within_last, from_first}
use Rattle.sn_raster.proofs.SegmentRows.{marked_to_first, marked_one, marked_all}
use Rattle.sn_raster.proofs.segments.mark_columns.Goals as goal

pub loop-i-init : goal.loop-i-init
loop-i-init c =
    let columns = c.args.columns.now in
    let first = kept columns.first columns.first_in in
    let P : Node → Type 0 = λ n. Near c.args.d c.args.e.now.a c.args.e.now.b (place c.args.g.now.pitch n) in
    record {
      low = omega (arith, ints, first);
      marked = marked_to_first P c.args.g.now _ c.args.row.now _ columns.first c.requires.grid first (λ n window on near. (c.requires.all n window (on ∙ to_z-of_z w32 c.args.j c.ranges.j) near).0);
    }

pub mark_node-requires-clause-window : goal.mark_node-requires-clause-window
mark_node-requires-clause-window c =
    let g = c.args.g.now in
    let columns = c.args.columns.now in
    inside_window g (to_z w32 c.loop-i.i-bits) c.args.j _ (to_z-of_z w32 c.args.j c.ranges.j) (from_first _ columns.first g.i0 c.requires.left c.loop-i.invariant.low)
    (within_last _ _ columns.last g.i1 (end_is columns.last columns.last refl columns.last_in) c.requires.right (lt_from _ _ c.loop-i-test.true)) c.requires.first c.requires.last

pub loop-i-preserved : goal.loop-i-preserved
loop-i-preserved c =
    let g = c.args.g.now in
    let columns = c.args.columns.now in
    let i = to_z w32 c.loop-i.i-bits in
    let j = to_z w32 (of_z w32 c.args.j) in
    let end = end_is columns.last columns.last refl columns.last_in in
    let B : ℤ → Type 0 = λ z. i <ℤ z in
    let below : i <ℤ (columns.last +ℤ pos 1) = subst B end (lt_from _ _ c.loop-i-test.true) in
    let next = next_is i columns.first columns.last columns.first_in columns.last_in c.loop-i.invariant.low below in
    let P : Node → Type 0 = λ n. Near c.args.d c.args.e.now.a c.args.e.now.b (place g.pitch n) in
    record {
      low = one_later columns.first i _ next c.loop-i.invariant.low;
      marked = marked_one P g j c.args.row.now c.loop-i.row c.mark_node.new.row i _ (at i j) next refl c.mark_node.ensures.grid c.mark_node.ensures.node c.mark_node.ensures.others c.loop-i.invariant.marked;
    }

pub returns-clause-row : goal.returns-clause-row
returns-clause-row c =
    let g = c.args.g.now in
    let columns = c.args.columns.now in
    let P : Node → Type 0 = λ n. Near c.args.d c.args.e.now.a c.args.e.now.b (place g.pitch n) in
    let past = passed_end _ _ columns.last columns.last (end_is columns.last columns.last refl columns.last_in) c.loop-i-test.false (omega (arith, sums)) in
    let j = to_z-of_z w32 c.args.j c.ranges.j in
    λ n on window.
    marked_all P g _ c.args.row.now c.loop-i.row _ columns.last past (λ m inside row near. (c.requires.all m inside (row ∙ j) near).1) c.loop-i.invariant.marked n (on ∙ sym j) window

pub returns-clause-others : goal.returns-clause-others
returns-clause-others c = λ n off. c.loop-i.invariant.marked.others n (λ on. off (on ∙ to_z-of_z w32 c.args.j c.ranges.j))
