-- PRIVATE: what is found for a command before anything is written, as the code keeps it, and why nothing was found.
use Rattle.std.specs.Prelude.{◌≡◌, ◌+◌, ◌≤◌, ◌<◌, ◌⊎◌, ℕ, List, [], length, None, IsTrue}
use Rattle.sn_geom.specs.declared.tip.Tip.TheVariants.{Unknown}
use Rattle.sn_io.specs.Count.{count_after, last_count, Rises}
use Rattle.sn_io.specs.Files.{FilesState}
use Rattle.sn_outline.specs.Job.{Job}
use Rattle.sn_outline.specs.JobRule.{IsJob}
use Rattle.sn_outline.specs.declared.job.StepJob.{StepJob}
use Rattle.sn_words.specs.Options.{Options}
use Rattle.sn_open.specs.Good.{Good}
use Rattle.sn_open.specs.Reach.{IsReachable}
use Rattle.sn_raster.specs.Grid.{FitsGrid}
use Rattle.sn_open.specs.Verdict.{IsVerdict}
use Rattle.sn_open.specs.declared.verdict.Verdict.{Verdict}
use Rattle.sn_link.specs.declared.moves.Move.{Move}
use Rattle.sn_link.specs.Counts.{AreCountedPlans, moves_of}
use Rattle.sn_link.specs.Plan.{IsPlan, with_moves}
use Rattle.sn_run.specs.declared.compile.Planned.{Planned}
use Rattle.sn_run.specs.declared.reading.TheConstants.{LONGEST, LONGEST_PROGRAM}
use Rattle.sn_message.specs.declared.refusal.Refusal.{Refusal}
use Rattle.sn_message.specs.declared.refusal.Refusal.TheVariants as refused
use Rattle.sn_run.specs.declared.find.Found.{Found}
use Rattle.sn_run.specs.declared.find.Found.TheVariants as found
use Rattle.sn_run.specs.declared.status.Status.{Status}
use Rattle.sn_run.specs.declared.status.Status.TheVariants.{Done}
use Rattle.sn_report.specs.JobCounts.{AreCountsOf}
use Rattle.sn_report.specs.Report.{report_text}
use Rattle.sn_report.specs.declared.counts.Counts.{Counts}
use Rattle.sn_run.specs.Answer.{generated_text, status_of_verdict}
use Rattle.sn_run.specs.Command.{IsMake}
use Rattle.sn_run.specs.Outcome.{IsJudged, IsLongRead, IsPrepared, IsReadOf, IsReported}
use Rattle.sn_run.specs.Part.{HasShortProgram, IsSoundPart, IsUncompiledPart, IsUnjudged}
use Rattle.sn_program.specs.PlanActs.{IsWritableProgram}
use Rattle.sn_program.specs.Text.{program_text}
use Rattle.sn_message.specs.VerdictText.{verdict_text}

-- Programs that are written.

-- each step with its moves
abbrev pub plan_of : Planned → List (StepJob × List Move)
plan_of planned = with_moves planned.job.steps (moves_of planned.moves)

-- a job with its plan, whose moves are counted, and whose program can be written and is good for the job
pub record IsGoodPlan (planned : Planned) : Type 0 where
  pub rule : IsJob planned.job
  pub fits : FitsGrid planned.job
  pub plan : IsPlan planned.job (plan_of planned)
  pub each : length planned.moves ≡ length planned.job.steps
  pub counted : AreCountedPlans planned.job [] None Unknown planned.job.steps planned.moves
  pub writable : IsWritableProgram planned.job (plan_of planned)
  pub good : Good planned.job (program_text planned.job (plan_of planned))

-- a job whose steps reach each cell, and whose program is not too long
pub record IsPlannedFor (job : Job) (planned : Planned) : Type 0 where
  pub same : planned.job ≡ job
  pub reachable : IsReachable job
  pub short : HasShortProgram job

-- memory was wanting, or so it is with the refusal
abbrev pub IsMemoryOr : (Refusal → Type 0) → Refusal → Type 0
IsMemoryOr Refused refusal = (refusal ≡ refused.NoMemory) ⊎ Refused refusal

-- each sound part with this job is left uncompiled for this reason
abbrev pub LeavesUncompiled : Job → Refusal → Type 0
LeavesUncompiled job refusal = (bytes : List ℕ) (o : Options) → IsSoundPart bytes o job → IsUncompiledPart bytes o refusal

-- Counts.

-- the counts of a job of which this is so
abbrev pub AreCountsWith : (Job → Type 0) → Counts → Type 0
AreCountsWith P counts = (job : Job) × P job × IsJob job × AreCountsOf job counts

-- Verdicts.

-- The verdict on the program of a name for the sound part of another, with these options.
pub record IsVerdictOf (files : FilesState) (part name : List ℕ) (o : Options) (verdict : Verdict) : Type 0 where
  pub job : Job
  pub program : List ℕ
  pub read : IsReadOf files part (λ bytes. IsSoundPart bytes o job)
  pub rule : IsJob job
  pub content : IsTrue files.tells → program ≡ files.given name 1
  pub short : length program ≤ LONGEST_PROGRAM
  pub judged : IsVerdict job program verdict

-- why there is no verdict, with the files before and after: all memory is taken before the program is opened
abbrev pub IsRefusedCase : FilesState → FilesState → List ℕ → List ℕ → Options → Refusal → Type 0
IsRefusedCase before after part name o (refused.Word place) = ⊥
IsRefusedCase before after part name o refused.NotRead = Rises before.faults after.faults
IsRefusedCase before after part name o refused.NoMemory = after.opens ≤ before.opens + 1
IsRefusedCase before after part name o refused.TooLong =
    IsLongRead before after × (IsTrue before.tells → IsUnjudged (before.given part 0) (before.given name 1) o refused.TooLong)
IsRefusedCase before after part name o (refused.Uncovered feature cell) = ⊥
IsRefusedCase before after part name o refusal =
    (after.opens ≤ before.opens + 1) × (IsTrue before.tells → IsUnjudged (before.given part 0) (before.given name 1) o refusal)

-- what is done to the files: each of the two is opened once at the most, and read to its end or until one byte more than its
-- limit was taken
pub record ReadsBoth (before after : FilesState) (part name : List ℕ) : Type 0 where
  pub opens : after.opens ≤ before.opens + 2
  pub reads : after.reads ≤ before.reads + (LONGEST + 2 + (LONGEST_PROGRAM + 2))
  pub bytes : after.bytes ≤ count_after before.bytes (LONGEST + 1 + (LONGEST_PROGRAM + 1))
  pub part_reads : before.opens + 1 < last_count → after.opens ≤ before.opens + 1 → after.reads ≤ before.reads + (LONGEST + 2)
  pub part_bytes : before.opens + 1 < last_count → after.opens ≤ before.opens + 1 → after.bytes ≤ count_after before.bytes (LONGEST + 1)
  pub no_strange : IsTrue before.tells → IsTrue (before.has_file part) → IsTrue (before.has_file name) → after.strange_opens ≡ before.strange_opens

-- What is written.

abbrev pub found_text : Found → List ℕ
found_text (found.Plan planned) = program_text planned.job (plan_of planned)
found_text (found.Verdict verdict) = verdict_text verdict
found_text (found.Counts counts) = report_text counts
found_text (found.Part text) = text

abbrev pub found_status : Found → Status
found_status (found.Plan planned) = Done
found_status (found.Verdict verdict) = status_of_verdict verdict
found_status (found.Counts counts) = Done
found_status (found.Part text) = Done

-- it can be written
abbrev pub CanBeWritten : Found → Type 0
CanBeWritten (found.Plan planned) = IsGoodPlan planned
CanBeWritten found = Unit {0}

-- this was found for the words
abbrev pub IsFoundFor : List (List ℕ) → FilesState → Found → Type 0
IsFoundFor words files (found.Plan planned) = IsPrepared words files planned.job (plan_of planned) × IsGoodPlan planned
IsFoundFor words files (found.Verdict verdict) = (job : Job) × (program : List ℕ) × IsJudged words files job program verdict
IsFoundFor words files (found.Counts counts) = (job : Job) × IsReported words files job counts
IsFoundFor words files (found.Part text) = (seed : ℕ) × IsMake words seed × (text ≡ generated_text seed)
