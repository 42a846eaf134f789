use Rattle.sn_report.proofs.ReportLemmas.{RowsSoFar}
use Rattle.sn_report.proofs.report.write_rows.Given as goal

abbrev pub invariant-loop-row : goal.invariant-loop-row
invariant-loop-row g l = RowsSoFar (g.S.Sink.state l.fn.sink) (g.S.Sink.state l.sink) l.rows l.row-index
