use Rattle.std.proofs.Common.{below_more, sym, ◌∙◌, arith}
use Rattle.std.proofs.lemmas.Bool.{false≢true}
use Rattle.sn_fit.proofs.NodeLemmas.{LacksRow, no_rows_left}
use Rattle.sn_fit.proofs.drill.has_node.Goals as goal

pub loop-row-preserved : goal.loop-row-preserved
loop-row-preserved c =
    below_more (LacksRow c.args.plane.now c.grid-g.result) c.loop-row.row c.loop-row.invariant
    (c.has_node_in.ensures.no (λ yes. false≢true (sym c.if-has_node_in.false ∙ yes)))

pub returns-clause-no : goal.returns-clause-no
returns-clause-no c = λ _.
    no_rows_left c.args.plane.now c.grid-g.result c.grid-g.ensures
    (λ row below. c.loop-row.invariant row (omega (arith, c.loop-row-test.false, c.rows_of-row-end.ensures.value)))
