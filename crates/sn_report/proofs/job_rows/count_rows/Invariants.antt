use Rattle.std.proofs.Common.{◌≡◌, ◌++◌}
use Rattle.std.specs.Iterator.Adapters.{zip_first, zip_second}
use Rattle.std.specs.Slice.Iter.{iter_rest}
use Rattle.sn_report.specs.JobCounts.{count_rows}
use Rattle.sn_report.proofs.job_rows.count_rows.Given as goal

-- the rows so far, and those that are left
abbrev pub invariant-loop-step : goal.invariant-loop-step
invariant-loop-step l = l.rows ++ count_rows (iter_rest (zip_first l.step-iterator)) (iter_rest (zip_second l.step-iterator)) ≡ count_rows l.steps l.plans
