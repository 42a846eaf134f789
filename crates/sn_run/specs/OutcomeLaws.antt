-- MEANING: laws of what a command ends with.
use Rattle.std.specs.Prelude.{◌≡◌, ◌⊎◌, ◌+◌, ◌≤◌, ℕ, List, [], codes, IsTrue}
use Rattle.sn_io.specs.Files.{FilesState}
use Rattle.sn_io.specs.Sink.{SinkState}
use Rattle.sn_outline.specs.Job.{Job}
use Rattle.sn_outline.specs.declared.job.StepJob.{StepJob}
use Rattle.sn_link.specs.declared.moves.Move.{Move}
use Rattle.sn_program.specs.Text.{program_text}
use Rattle.sn_words.specs.Options.{Options}
use Rattle.sn_run.specs.declared.status.Status.{Status}
use Rattle.sn_run.specs.declared.status.Status.TheVariants.{BadWords, Done, Memory}
use Rattle.sn_message.specs.declared.refusal.Refusal.{Refusal}
use Rattle.sn_words.specs.Command.{IsAccepted}
use Rattle.sn_open.specs.declared.verdict.Verdict.{Verdict}
use Rattle.sn_run.specs.Answer.{Judged}
use Rattle.sn_run.specs.Command.{HaveOneSetting, IsOfFile, IsVerify}
use Rattle.sn_run.specs.Outcome.{IsAnswer, IsCaseOf, IsJobOf, IsLongRead, IsOutcome, IsPrepared, IsRefusal, Refuses}
use Rattle.sn_run.specs.Part.{IsSoundPart}

-- words and files ask for one job
abbrev pub OneJob : Type 0
OneJob = (words : List (List ℕ)) (given : List ℕ → ℕ → List ℕ) (some other : Job) → IsJobOf words given some → IsJobOf words given other → some ≡ other

-- words and files ask for one verdict
abbrev pub OneVerdict : Type 0
OneVerdict =
    (words : List (List ℕ)) (given : List ℕ → ℕ → List ℕ) (some other : Job) (program another : List ℕ) (verdict last : Verdict)
    → IsAnswer words given (Judged some program verdict) → IsAnswer words given (Judged other another last)
    → (some ≡ other) × (program ≡ another) × (verdict ≡ last)

-- words and files ask for the verdict on one program for one job
abbrev pub OneCase : Type 0
OneCase =
    (words : List (List ℕ)) (given : List ℕ → ℕ → List ℕ) (some other : Job) (program another : List ℕ)
    → IsCaseOf words given some program → IsCaseOf words given other another → (some ≡ other) × (program ≡ another)

-- words and files have one refusal
abbrev pub OneRefusal : Type 0
OneRefusal = (words : List (List ℕ)) (given : List ℕ → ℕ → List ℕ) (some other : Refusal) → IsRefusal words given some → IsRefusal words given other → some ≡ other

-- words and files have one outcome: one status, one text for the output and one for the errors
abbrev pub OneOutcome : Type 0
OneOutcome =
    (words : List (List ℕ)) (given : List ℕ → ℕ → List ℕ) (status other_status : Status) (text other_text message other_message : List ℕ)
    → IsOutcome words given status text message → IsOutcome words given other_status other_text other_message
    → (status ≡ other_status) × (text ≡ other_text) × (message ≡ other_message)

-- a command that was refused ended with BadWords exactly where its words are not accepted, memory apart
abbrev pub BadWordsAreNoCommand : Type 0
BadWordsAreNoCommand =
    (words : List (List ℕ)) (before after : FilesState) (status : Status) (out out_after err err_after : SinkState)
    → Refuses words before after status out out_after err err_after
    → (status ≡ BadWords → ¬ IsAccepted words) × ((¬ IsAccepted words) → (status ≡ BadWords) ⊎ (status ≡ Memory))

-- a long reading took 67,108,865 bytes where one file was opened, and 1,099,511,627,777 where two were
abbrev pub LongReadsTakeMore : Type 0
LongReadsTakeMore =
    (before after : FilesState) → before.bytes ≡ 0 → IsLongRead before after
    → (67108865 ≤ after.bytes) × (after.opens ≡ before.opens + 2 → 1099511627777 ≤ after.bytes)

-- and so many bytes are enough
abbrev pub MoreIsLong : Type 0
MoreIsLong =
    (before after : FilesState) → before.bytes ≡ 0
    → (after.opens ≡ before.opens + 1 → 67108865 ≤ after.bytes → IsLongRead before after)
    × (after.opens ≡ before.opens + 2 → 1099511627777 ≤ after.bytes → IsLongRead before after)

-- the job of a part depends on its bytes, the pitch, the raw box and the values alone
abbrev pub OneSettingOneJob : Type 0
OneSettingOneJob = (bytes : List ℕ) (o p : Options) (job : Job) → HaveOneSetting o p → IsSoundPart bytes o job → IsSoundPart bytes p job

-- The program that is written for a part is judged yes for that part: where the words ask for the program of a part, and this plan
-- was found for it, and other words ask for the verdict with the same setting on that program for a part with the same bytes, the
-- outcome of those is a yes.
abbrev pub WrittenIsApproved : Type 0
WrittenIsApproved =
    (words others : List (List ℕ)) (files later : FilesState) (part other name : List ℕ) (o p : Options) (job : Job) (plan : List (StepJob × List Move))
    → IsOfFile words part o → IsVerify others other name p → HaveOneSetting o p
    → IsTrue files.tells → IsPrepared words files job plan
    → later.given other 0 ≡ files.given part 0 → later.given name 1 ≡ program_text job plan
    → IsOutcome others later.given Done (codes "yes\n") []
