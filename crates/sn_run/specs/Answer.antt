-- MEANING: what a command answers: the program for a part, the verdict on a program, the counts of a part, or a part that is
-- generated (this project's own).
use Rattle.std.specs.Prelude.{ℕ, List}
use Rattle.sn_outline.specs.Job.{Job}
use Rattle.sn_outline.specs.declared.job.StepJob.{StepJob}
use Rattle.sn_open.specs.declared.verdict.Verdict.{Verdict}
use Rattle.sn_open.specs.declared.verdict.Verdict.TheVariants.{Yes, Line, NoEnd, Missing, Uncovered}
use Rattle.sn_link.specs.declared.moves.Move.{Move}
use Rattle.sn_p21.specs.Canonical.{canonical_text}
use Rattle.sn_report.specs.Generated.{generated}
use Rattle.sn_report.specs.Report.{report_text}
use Rattle.sn_report.specs.declared.counts.Counts.{Counts}
use Rattle.sn_run.specs.declared.status.Status.{Status}
use Rattle.sn_run.specs.declared.status.Status.TheVariants.{Done, No}
use Rattle.sn_program.specs.Text.{program_text}
use Rattle.sn_message.specs.VerdictText.{verdict_text}

-- a job with its plan, whose program is written; a job, a program for it and the verdict on that program; a job with its counts;
-- or the seed of a part
pub data Answer : Type 0 where
  Planned : Job → List (StepJob × List Move) → Answer
  Judged : Job → List ℕ → Verdict → Answer
  Counted : Job → Counts → Answer
  Made : ℕ → Answer

-- the text of the part that is generated from a seed
abbrev pub generated_text : ℕ → List ℕ
generated_text seed = canonical_text (generated seed)

-- the text for the output
abbrev pub answer_text : Answer → List ℕ
answer_text (Planned job plan) = program_text job plan
answer_text (Judged job program verdict) = verdict_text verdict
answer_text (Counted job counts) = report_text counts
answer_text (Made seed) = generated_text seed

-- a yes is Done, and each other verdict is No
abbrev pub status_of_verdict : Verdict → Status
status_of_verdict Yes = Done
status_of_verdict (Line n cause) = No
status_of_verdict NoEnd = No
status_of_verdict (Missing ws) = No
status_of_verdict (Uncovered feature c) = No

abbrev pub answer_status : Answer → Status
answer_status (Planned job plan) = Done
answer_status (Judged job program verdict) = status_of_verdict verdict
answer_status (Counted job counts) = Done
answer_status (Made seed) = Done
