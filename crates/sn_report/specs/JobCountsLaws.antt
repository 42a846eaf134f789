-- MEANING: laws of the counts of a job.
use Rattle.std.specs.Prelude.{◌≡◌}
use Rattle.sn_outline.specs.Job.{Job}
use Rattle.sn_report.specs.JobCounts.{AreCountsOf}
use Rattle.sn_report.specs.declared.counts.Counts.{Counts}

-- a job has one list of counts
abbrev pub OneCount : Type 0
OneCount = (job : Job) (some other : Counts) → AreCountsOf job some → AreCountsOf job other → some ≡ other
