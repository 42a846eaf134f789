use Rattle.std.proofs.Common.{sym, ◌∙◌, arith}
use Rattle.std.proofs.lemmas.Bool.{false≢true}
use Rattle.sn_link.proofs.FreeWayLemmas.{HasAllInRow, has_all, not_both, one_on}
use Rattle.sn_link.proofs.free_way.lacks_any.Goals as goal

pub loop-row-preserved : goal.loop-row-preserved
loop-row-preserved c =
    one_on (HasAllInRow c.args.plane.now c.args.d c.args.way.now c.grid-g.result c.columns_near-columns.result.from c.columns_near-columns.result.to)
    c.rows_near-rows.result.from c.loop-row.row c.loop-row.invariant
    (c.lacks_any_in.ensures.no (λ yes. false≢true (sym c.if-lacks_any_in.false ∙ yes)))

pub returns-clause-no : goal.returns-clause-no
returns-clause-no c = λ _.
    let columns = c.columns_near-columns in
    let rows = c.rows_near-rows in
    has_all c.args.plane.now c.args.d c.args.way.now c.grid-g.result columns.result.from columns.result.to rows.result.from rows.result.to c.grid-g.ensures
    columns.ensures.all rows.ensures.all
    (λ row low below. c.loop-row.invariant row low (omega (arith, c.loop-row-test.false, below)))

pub loop-row-init : goal.loop-row-init
loop-row-init c = λ k low below. absurd (not_both low below)
