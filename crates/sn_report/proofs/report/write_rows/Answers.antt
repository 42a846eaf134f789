use Rattle.sn_report.proofs.ReportLemmas.{row_taken, row_stopped}
use Rattle.sn_report.proofs.report.write_rows.Goals as goal

pub returns-in_err-write_row : goal.returns-in_err-write_row
returns-in_err-write_row g c =
    row_stopped c.from_residual.result _ _ _ c.args.rows.now c.loop-row.row-index _ c.loop-row-test.true c.from_residual.ensures.0 c.loop-row.invariant c.in_err-write_row.ensures

pub loop-row-preserved : goal.loop-row-preserved
loop-row-preserved g c =
    row_taken _ _ _ c.args.rows.now c.loop-row.row-index _ c.loop-row-test.true c.loop-row.invariant c.in_ok-write_row.ensures
