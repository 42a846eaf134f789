-- MEANING: what a command ends with, a status and the texts for the output and for the errors (this project's own).
use Rattle.std.specs.Prelude.{◌≡◌, ◌≢◌, ℕ, ◌+◌, ◌≤◌, ◌<◌, ◌⊎◌, min, List, [], length, codes, IsTrue}
use Rattle.std.specs.List.{All}
use Rattle.sn_io.specs.Count.{count_after, last_count, Rises}
use Rattle.sn_io.specs.Files.{FilesState}
use Rattle.sn_io.specs.Sink.{SinkState, Takes, TakesFront}
use Rattle.sn_outline.specs.Job.{Job}
use Rattle.sn_outline.specs.JobRule.{IsJob}
use Rattle.sn_outline.specs.declared.job.StepJob.{StepJob}
use Rattle.sn_words.specs.Command.{IsAccepted, IsCommand, DepartsAt}
use Rattle.sn_words.specs.Options.{Options}
use Rattle.sn_words.specs.declared.options.Command.{Command}
use Rattle.sn_words.specs.declared.options.Command.TheVariants.{Compile, Verify, Report, Make, Trial}
use Rattle.sn_run.specs.declared.status.Status.{Status}
use Rattle.sn_run.specs.declared.status.Status.TheVariants.{Done, PartRefused, BadWords, ReadFault, WriteFault, Memory, No, Uncovered, TooLong}
use Rattle.sn_message.specs.declared.refusal.Refusal.{Refusal}
use Rattle.sn_message.specs.declared.refusal.Refusal.TheVariants as refused
use Rattle.sn_run.specs.declared.reading.TheConstants.{LONGEST, LONGEST_PROGRAM}
use Rattle.sn_report.specs.JobCounts.{AreCountsOf}
use Rattle.sn_report.specs.Report.{report_text}
use Rattle.sn_report.specs.declared.counts.Counts.{Counts}
use Rattle.sn_run.specs.Answer.{Answer, Planned, Judged, Counted, Made, answer_status, answer_text, generated_text}
use Rattle.sn_run.specs.Part.{IsCompiledPart, IsSoundPart, IsUncompiledPart, IsUnjudged}
use Rattle.sn_run.specs.Command.{AsksFor, AsksForCounts, AsksForPlan, IsMake, IsOfFile, IsOfSeed, IsVerify, NamesNoFile}
use Rattle.sn_message.specs.RefusalText.{refusal_text}
use Rattle.sn_open.specs.Good.{Good}
use Rattle.sn_open.specs.Verdict.{IsVerdict}
use Rattle.sn_open.specs.declared.verdict.Verdict.{Verdict}
use Rattle.sn_open.specs.declared.verdict.Verdict.TheVariants.{Yes}
use Rattle.sn_link.specs.declared.moves.Move.{Move}
use Rattle.sn_link.specs.Plan.{IsPlan}
use Rattle.sn_program.specs.Text.{program_text}
use Rattle.sn_message.specs.VerdictText.{verdict_text}

-- the status of a refusal whose text was written
abbrev pub status_of : Refusal → Status
status_of (refused.Word place) = BadWords
status_of refused.NotRead = ReadFault
status_of refused.NoMemory = Memory
status_of refused.TooLong = TooLong
status_of (refused.Text fault) = PartRefused
status_of (refused.Model fault) = PartRefused
status_of (refused.Reference fault) = PartRefused
status_of (refused.Job fault) = PartRefused
status_of (refused.Uncovered feature cell) = Uncovered

-- Answers and refusals, memory and devices apart. The files give bytes for each opening of a name, counted from 0: a part is
-- the first opening of its name, and a program the second of all.

-- the words ask for the program or for the counts of the part with these bytes: of that of a file, or of one that is generated
pub data IsPartOf (words : List (List ℕ)) (given : List ℕ → ℕ → List ℕ) (bytes : List ℕ) (o : Options) : Type 0 where
  of_file : (name : List ℕ) → IsOfFile words name o → bytes ≡ given name 0 → IsPartOf words given bytes o
  of_seed : IsOfSeed words o → bytes ≡ generated_text o.seed → IsPartOf words given bytes o

-- what the words ask for is refused: they depart from the grammar, no program is written for the part and so it is not counted,
-- or no verdict is given
pub data IsRefusal (words : List (List ℕ)) (given : List ℕ → ℕ → List ℕ) (refusal : Refusal) : Type 0 where
  turned_away : (place : ℕ) → DepartsAt words place → refusal ≡ refused.Word place → IsRefusal words given refusal
  uncompiled : (bytes : List ℕ) (o : Options) → IsPartOf words given bytes o → IsUncompiledPart bytes o refusal → IsRefusal words given refusal
  unjudged : (part program : List ℕ) (o : Options) → IsVerify words part program o → IsUnjudged (given part 0) (given program 1) o refusal
      → IsRefusal words given refusal

-- the words ask for the program or for the counts of a part that is compiled, and this is its job
pub record IsJobOf (words : List (List ℕ)) (given : List ℕ → ℕ → List ℕ) (job : Job) : Type 0 where
  pub bytes : List ℕ
  pub options : Options
  pub part : IsPartOf words given bytes options
  pub compiled : IsCompiledPart bytes options job

-- the words ask for the verdict on a program for a sound part, which is not too long; these are the job and the program
pub record IsCaseOf (words : List (List ℕ)) (given : List ℕ → ℕ → List ℕ) (job : Job) (program : List ℕ) : Type 0 where
  pub part_name : List ℕ
  pub name : List ℕ
  pub options : Options
  pub command : IsVerify words part_name name options
  pub part : IsSoundPart (given part_name 0) options job
  pub program_is : program ≡ given name 1
  pub short : length program ≤ LONGEST_PROGRAM

-- what the words ask for
abbrev pub IsAnswer : List (List ℕ) → (List ℕ → ℕ → List ℕ) → Answer → Type 0
IsAnswer words given (Planned job plan) = AsksFor words Compile × IsJobOf words given job × IsPlan job plan
IsAnswer words given (Judged job program verdict) = IsCaseOf words given job program × IsVerdict job program verdict
IsAnswer words given (Counted job counts) = AsksForCounts words × IsJobOf words given job × AreCountsOf job counts
IsAnswer words given (Made seed) = IsMake words seed

-- The status, the text for the output and the text for the errors: those of the answer and no message, or no text and the
-- message of a refusal.
pub data IsOutcome (words : List (List ℕ)) (given : List ℕ → ℕ → List ℕ) (status : Status) (text message : List ℕ) : Type 0 where
  answered : (answer : Answer) → IsAnswer words given answer
      → status ≡ answer_status answer → text ≡ answer_text answer → message ≡ [] → IsOutcome words given status text message
  turned_down : (refusal : Refusal) → IsRefusal words given refusal
      → status ≡ status_of refusal → text ≡ [] → message ≡ refusal_text refusal → IsOutcome words given status text message

-- a status that memory or a device may give in place of the outcome's
abbrev pub IsOfDevices : Status → Type 0
IsOfDevices status = (status ≡ ReadFault) ⊎ ((status ≡ WriteFault) ⊎ (status ≡ Memory))

-- the outcome, with what the sinks took
pub record Ends (words : List (List ℕ)) (given : List ℕ → ℕ → List ℕ) (status : Status) (out out_after err err_after : SinkState) : Type 0 where
  pub text : List ℕ
  pub message : List ℕ
  pub outcome : IsOutcome words given status text message
  pub written : Takes out out_after text
  pub told : Takes err err_after message

-- What was done, whether the files tell their content or not.

-- what the words ask for is known: the files tell their content, or the words name none
abbrev pub IsKnown : List (List ℕ) → FilesState → Type 0
IsKnown words files = IsTrue files.tells ⊎ NamesNoFile words

-- bytes were read of a name, and this is so of them: they are those that the files told, where they tell any
pub record IsReadOf (files : FilesState) (name : List ℕ) (P : List ℕ → Type 0) : Type 0 where
  pub bytes : List ℕ
  pub content : IsTrue files.tells → bytes ≡ files.given name 0
  pub holds : P bytes

-- the words ask for the program or for the counts of a part, and this is so of its bytes: they were read of a file, or generated
pub data IsPartWith (words : List (List ℕ)) (files : FilesState) (o : Options) (P : List ℕ → Type 0) : Type 0 where
  of_file_read : (name : List ℕ) → IsOfFile words name o → IsReadOf files name P → IsPartWith words files o P
  of_seed_made : IsOfSeed words o → P (generated_text o.seed) → IsPartWith words files o P

-- The words ask for the program or for the counts of a part; it is compiled, and this is its job, that keeps the rule of jobs.
pub record IsLoaded (words : List (List ℕ)) (files : FilesState) (job : Job) : Type 0 where
  pub options : Options
  pub part : IsPartWith words files options (λ bytes. IsCompiledPart bytes options job)
  pub rule : IsJob job

-- The words ask for the program of a part with this job; this is its plan, and the program of that plan is good for the job.
pub record IsPrepared (words : List (List ℕ)) (files : FilesState) (job : Job) (plan : List (StepJob × List Move)) : Type 0 where
  pub asked : AsksFor words Compile
  pub loaded : IsLoaded words files job
  pub planned : IsPlan job plan
  pub good : Good job (program_text job plan)

-- The words ask for the counts of a part with this job, and these are its counts.
pub record IsReported (words : List (List ℕ)) (files : FilesState) (job : Job) (counts : Counts) : Type 0 where
  pub asked : AsksForCounts words
  pub loaded : IsLoaded words files job
  pub counted : AreCountsOf job counts

-- The words ask for the verdict on a program for a part; a sound part was read of the first name in them, this is its job,
-- that keeps the rule of jobs, the program was read of the second name, to its end, and this is the verdict on it.
pub record IsJudged (words : List (List ℕ)) (files : FilesState) (job : Job) (program : List ℕ) (verdict : Verdict) : Type 0 where
  pub part_name : List ℕ
  pub name : List ℕ
  pub options : Options
  pub command : IsVerify words part_name name options
  pub read : IsReadOf files part_name (λ bytes. IsSoundPart bytes options job)
  pub rule : IsJob job
  pub content : IsTrue files.tells → program ≡ files.given name 1
  pub short : length program ≤ LONGEST_PROGRAM
  pub judged : IsVerdict job program verdict

-- the answer was found
abbrev pub IsFound : List (List ℕ) → FilesState → Answer → Type 0
IsFound words files (Planned job plan) = IsPrepared words files job plan
IsFound words files (Judged job program verdict) = IsJudged words files job program verdict
IsFound words files (Counted job counts) = IsReported words files job counts
IsFound words files (Made seed) = IsMake words seed

-- The words were carried out: the answer was found and gives the status, the output took its text, and the errors are
-- untouched.
pub record Answers (words : List (List ℕ)) (files : FilesState) (status : Status) (out out_after err err_after : SinkState) : Type 0 where
  pub answer : Answer
  pub found : IsFound words files answer
  pub status_is : status ≡ answer_status answer
  pub written : Takes out out_after (answer_text answer)
  pub untouched : err_after ≡ err

-- The output took the program of the job, and that program is good for the job.
pub record Compiles (words : List (List ℕ)) (files : FilesState) (out out_after : SinkState) : Type 0 where
  pub job : Job
  pub plan : List (StepJob × List Move)
  pub prepared : IsPrepared words files job plan
  pub written : Takes out out_after (program_text job plan)

-- The program that was read is good for the job, and the output took a yes.
pub record Approves (words : List (List ℕ)) (files : FilesState) (out out_after : SinkState) : Type 0 where
  pub job : Job
  pub program : List ℕ
  pub judged : IsJudged words files job program Yes
  pub good : Good job program
  pub written : Takes out out_after (codes "yes\n")

-- The program that was read is not good for the job, and the output took its first fault.
pub record Rejects (words : List (List ℕ)) (files : FilesState) (out out_after : SinkState) : Type 0 where
  pub job : Job
  pub program : List ℕ
  pub verdict : Verdict
  pub judged : IsJudged words files job program verdict
  pub bad : ¬ Good job program
  pub written : Takes out out_after (verdict_text verdict)

-- The output took the counts of the part's job.
pub record Reports (words : List (List ℕ)) (files : FilesState) (out out_after : SinkState) : Type 0 where
  pub job : Job
  pub counts : Counts
  pub reported : IsReported words files job counts
  pub written : Takes out out_after (report_text counts)

-- why the file of a part was refused, with the files before and after: so is it for each command
abbrev pub IsRefusedFile : FilesState → FilesState → List ℕ → (List ℕ → Refusal → Type 0) → Refusal → Type 0
IsRefusedFile before after name P (refused.Word place) = ⊥
IsRefusedFile before after name P refused.NotRead = Rises before.faults after.faults
IsRefusedFile before after name P refused.NoMemory = Unit {0}
IsRefusedFile before after name P (refused.Uncovered feature cell) = IsReadOf before name (λ bytes. P bytes (refused.Uncovered feature cell))
IsRefusedFile before after name P refusal = IsTrue before.tells → P (before.given name 0) refusal

-- at least so many bytes were read, or their count stands at its last value
abbrev pub HasRisenBy : ℕ → ℕ → ℕ → Type 0
HasRisenBy before after n = min (before + n) last_count ≤ after

-- More bytes were read than a part may have; where a second file was opened, more than a program may have.
pub record IsLongRead (before after : FilesState) : Type 0 where
  pub part : HasRisenBy before.bytes after.bytes (LONGEST + 1)
  pub program : before.opens + 1 < after.opens → HasRisenBy before.bytes after.bytes (LONGEST_PROGRAM + 1)

-- The part was refused: no second file was opened for it.
abbrev pub IsOfPart : List (List ℕ) → FilesState → FilesState → Refusal → Type 0
IsOfPart words before after refusal = IsAccepted words × (after.opens ≤ before.opens + 1) × (IsKnown words before → IsRefusal words before.given refusal)

-- Why a command was refused, with the files before and after: words that depart from the grammar leave the files as they were,
-- and so does memory that is wanting for the words; all other refusals are of words that are accepted. A call can fail only
-- where they name a file, and a cell is looked for only where a part is planned. Memory is wanting and a part is refused before a
-- second file is opened.
abbrev pub Explains : List (List ℕ) → FilesState → FilesState → Refusal → Type 0
Explains words before after (refused.Word place) = DepartsAt words place × (after ≡ before)
Explains words before after refused.NotRead = IsAccepted words × (¬ NamesNoFile words) × Rises before.faults after.faults
Explains words before after refused.NoMemory = (IsAccepted words × (after.opens ≤ before.opens + 1)) ⊎ (after ≡ before)
Explains words before after refused.TooLong =
    IsAccepted words × ((part program : List ℕ) (o : Options) → IsVerify words part program o → IsLongRead before after)
    × (IsKnown words before → IsRefusal words before.given refused.TooLong)
Explains words before after (refused.Uncovered feature cell) = AsksForPlan words × IsOfPart words before after (refused.Uncovered feature cell)
Explains words before after (refused.Text fault) = IsOfPart words before after (refused.Text fault)
Explains words before after (refused.Model fault) = IsOfPart words before after (refused.Model fault)
Explains words before after (refused.Reference fault) = IsOfPart words before after (refused.Reference fault)
Explains words before after (refused.Job fault) = IsOfPart words before after (refused.Job fault)

-- The words were refused: the refusal has its cause and gives the status, the errors took its text, and the output is
-- untouched.
pub record Refuses (words : List (List ℕ)) (before after : FilesState) (status : Status) (out out_after err err_after : SinkState) : Type 0 where
  pub refusal : Refusal
  pub cause : Explains words before after refusal
  pub status_is : status ≡ status_of refusal
  pub told : Takes err err_after (refusal_text refusal)
  pub untouched : out_after ≡ out

-- how many bytes are taken at the most: of a part, and where one is verified of a program too, one more than the limit
abbrev pub most_bytes : Command → ℕ
most_bytes Compile = LONGEST + 1
most_bytes Report = LONGEST + 1
most_bytes Verify = LONGEST + 1 + (LONGEST_PROGRAM + 1)
most_bytes Make = 0
most_bytes Trial = 0

-- and how often is read: each reading but the last takes a byte
abbrev pub most_reads : Command → ℕ
most_reads Compile = LONGEST + 2
most_reads Report = LONGEST + 2
most_reads Verify = LONGEST + 2 + (LONGEST_PROGRAM + 2)
most_reads Make = 0
most_reads Trial = 0

-- What a command does to the files: words that are not accepted, or that name no file, leave them as they are; each file is opened
-- once at the most, and read to its end or until one byte more than its limit was taken. Before a second file is opened no more
-- than a part is read.
pub record ReadsOnce (words : List (List ℕ)) (before after : FilesState) : Type 0 where
  pub refused : ¬ IsAccepted words → after ≡ before
  pub quiet : NamesNoFile words → after ≡ before
  pub opens : (o : Options) → IsCommand words o → after.opens ≤ before.opens + length o.files
  pub reads : (o : Options) → IsCommand words o → after.reads ≤ before.reads + most_reads o.command
  pub bytes : (o : Options) → IsCommand words o → after.bytes ≤ count_after before.bytes (most_bytes o.command)
  pub part_reads : before.opens + 1 < last_count → after.opens ≤ before.opens + 1 → after.reads ≤ before.reads + (LONGEST + 2)
  pub part_bytes : before.opens + 1 < last_count → after.opens ≤ before.opens + 1 → after.bytes ≤ count_after before.bytes (LONGEST + 1)
  pub no_strange : IsTrue before.tells → (o : Options) → IsCommand words o → All (λ name. IsTrue (before.has_file name)) o.files
      → after.strange_opens ≡ before.strange_opens

-- A write failed: of the text of a refusal that has its cause, with the output untouched, or of the text of an answer that was
-- found, with the errors untouched. A front of that text was written.
pub data Stops (words : List (List ℕ)) (before after : FilesState) (out out_after err err_after : SinkState) : Type 0 where
  at_message : (refusal : Refusal) → Explains words before after refusal
      → out_after ≡ out → TakesFront err err_after (refusal_text refusal) → Stops words before after out out_after err err_after
  at_answer : (answer : Answer) → IsFound words before answer
      → TakesFront out out_after (answer_text answer) → err_after ≡ err → Stops words before after out out_after err err_after

-- Completeness.

-- no count of faults rose
pub record IsFaultless (before after : FilesState) (out out_after err err_after : SinkState) : Type 0 where
  pub of_files : ¬ Rises before.faults after.faults
  pub of_out : ¬ Rises out.faults out_after.faults
  pub of_err : ¬ Rises err.faults err_after.faults

-- What is promised where no count of faults rose: neither a reading nor a writing failed; and memory apart, what the words ask for
-- is given, the status and the texts being those of the outcome.
pub record IsComplete (words : List (List ℕ)) (files : FilesState) (status : Status) (out out_after err err_after : SinkState) : Type 0 where
  pub no_read_fault : status ≢ ReadFault
  pub no_write_fault : status ≢ WriteFault
  pub plans : IsKnown words files → (job : Job) → IsJobOf words files.given job → (status ≡ Done) ⊎ (status ≡ Memory)
  pub judges : IsTrue files.tells → (job : Job) (program : List ℕ) → IsCaseOf words files.given job program
      → ((status ≡ Done) ⊎ (status ≡ No)) ⊎ (status ≡ Memory)
  pub generates : AsksFor words Make → (status ≡ Done) ⊎ (status ≡ Memory)
  pub outcome : IsKnown words files → (status ≡ Memory) ⊎ Ends words files.given status out out_after err err_after

-- a status that comes once a second file was opened: that of a verdict or of a program that is too long, or one that a device gives
abbrev pub IsOfProgram : Status → Type 0
IsOfProgram status = ((status ≡ Done) ⊎ (status ≡ No)) ⊎ ((status ≡ TooLong) ⊎ ((status ≡ ReadFault) ⊎ (status ≡ WriteFault)))
