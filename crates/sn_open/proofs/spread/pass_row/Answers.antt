use Rattle.std.proofs.Common.{◌<◌, ◌↔◌, IsTrue, arith, ap, subst}
use Rattle.sn_open.specs.Window.{columns, rows, IsMarked}
use Rattle.sn_open.proofs.SpreadLemmas.{gap_next, passed_one, node_of_place}
use Rattle.sn_open.proofs.spread.pass_row.Goals as goal

pub loop-column-preserved : goal.loop-column-preserved
loop-column-preserved c =
    let from = c.args.from.now in
    let along = c.args.along in
    let column = c.loop-column.column in
    let before = c.loop-column.invariant.gaps in
    let next = c.gap_after.ensures in
    let count_is = c.rows_of-count.ensures.value in
    let rows_same = ap rows c.requires.grid in
    let columns_same = ap columns c.requires.grid in
    let columns_is = c.columns_of-column-end.ensures.value in
    let inside : column < columns from.grid = omega (arith, c.loop-column-test.true) in
    let is = node_of_place along c.args.g.now from.grid _ column c.args.row _ c.requires.grid c.rows_of-count.ensures.value c.place_of-at.ensures.value in
    let reads = subst (λ n. IsTrue c.is_marked_at-marked.result ↔ IsMarked from c.args.on n) is c.is_marked_at-marked.ensures in
    let gap = gap_next from c.args.on _ along column c.args.row _ c.gap_after.result reads (before.ahead column (omega arith) inside) next.marked next.more (λ off below. next.unmarked off (omega arith)) (omega (arith, next.few)) in
    record { gaps = passed_one from c.args.on along c.args.row column _ c.loop-column.gaps inside gap before }
