-- A verdict on a program for a part, why there is none, and what is read for it.
use Rattle.std.proofs.Common.{ℕ, ◌≡◌, ◌+◌, ◌≤◌, ◌<◌, inl, inr, List, length, Result, Ok, Err, IfOk, IfErr, refl, subst, ◌∙◌, arith}
use Rattle.sn_io.specs.Count.{count_after, last_count}
use Rattle.sn_io.specs.Files.{FilesState}
use Rattle.sn_open.specs.Verdict.{IsVerdict}
use Rattle.sn_open.specs.declared.verdict.Verdict.{Verdict}
use Rattle.sn_outline.specs.Job.{Job}
use Rattle.sn_outline.specs.JobRule.{IsJob}
use Rattle.sn_words.specs.Options.{Options}
use Rattle.sn_message.specs.declared.refusal.Refusal.{Refusal}
use Rattle.sn_message.specs.declared.refusal.Refusal.TheVariants as refused
use Rattle.sn_run.specs.declared.reading.TheConstants.{LONGEST, LONGEST_PROGRAM}
use Rattle.sn_run.specs.Found.{IsVerdictOf, IsRefusedCase, ReadsBoth}
use Rattle.sn_run.specs.Outcome.{HasRisenBy, IsReadOf, IsRefusedFile}
use Rattle.sn_run.specs.Part.{IsRefusedPart, IsSoundPart}
use Rattle.sn_run.specs.Reading.{IsPastOne, IsUnreadProgram, ReadsFile}
use Rattle.sn_run.proofs.LoadLemmas.{as_told}
use Rattle.sn_run.proofs.ReadingLemmas.{rises_later}

-- the program is short, and this is the verdict on it
abbrev pub IsJudgedAs : Job → Verdict → List ℕ → Type 0
IsJudgedAs job verdict program = (length program ≤ LONGEST_PROGRAM) × IsVerdict job program verdict

verdict_of : (before mid : FilesState) (part name : List ℕ) (o : Options) (job : Job) (verdict : Verdict) → IsJob job → mid.tells ≡ before.tells
    → IsPastOne before mid → IsReadOf before part (λ bytes. IsSoundPart bytes o job) → IsReadOf mid name (IsJudgedAs job verdict) → IsVerdictOf before part name o verdict
verdict_of before mid part name o job verdict rule tells past read again = record {
  job = job;
  program = again.bytes;
  read = read;
  rule = rule;
  content = λ told. again.content (tells ∙ told) ∙ past told name 0;
  short = again.holds.0;
  judged = again.holds.1;
}

pub if_verdict : (before mid : FilesState) (part name : List ℕ) (o : Options) (job : Job) (r : Result Verdict Refusal) → IsJob job
    → mid.tells ≡ before.tells → IsPastOne before mid → IsReadOf before part (λ bytes. IsSoundPart bytes o job) → IfOk r (λ verdict. IsReadOf mid name (IsJudgedAs job verdict))
    → IfOk r (IsVerdictOf before part name o)
if_verdict before mid part name o job (Ok verdict) rule tells past read again = verdict_of before mid part name o job verdict rule tells past read again
if_verdict before mid part name o job (Err refusal) rule tells past read again = tt

-- what is so for each job that the checker is ready for is so for the job
pub if_ready : (mid : FilesState) (name : List ℕ) (job : Job) (Ready : Job → Type 0) (r : Result Verdict Refusal) → Ready job
    → IfOk r (λ verdict. (j : Job) → Ready j → IsReadOf mid name (IsJudgedAs j verdict)) → IfOk r (λ verdict. IsReadOf mid name (IsJudgedAs job verdict))
if_ready mid name job Ready (Ok verdict) ready all = all job ready
if_ready mid name job Ready (Err refusal) ready all = tt

-- Why there is none.

-- the part was not read, or is refused
pub part_refused : (before after : FilesState) (part name : List ℕ) (o : Options) (refusal : Refusal) → after.opens ≡ count_after before.opens 1
    → (refusal ≡ refused.TooLong → HasRisenBy before.bytes after.bytes (LONGEST + 1)) → IsRefusedFile before after part (λ bytes. IsRefusedPart bytes o) refusal
    → IsRefusedCase before after part name o refusal
part_refused before after part name o (refused.Word place) opens long why = why
part_refused before after part name o refused.NotRead opens long why = why
part_refused before after part name o refused.NoMemory opens long why = omega (arith, opens)
part_refused before after part name o refused.TooLong opens long why =
    (record { part = long refl; program = λ again. absurd (omega (arith, opens, again)) }, (λ told. inl (why told)))
part_refused before after part name o (refused.Uncovered feature cell) opens long why = absurd why.holds
part_refused before after part name o refusal opens long why = (omega (arith, opens), why)

long_later : (before mid after : ℕ) → before ≤ mid → HasRisenBy mid after (LONGEST_PROGRAM + 1)
    → HasRisenBy before after (LONGEST + 1) × HasRisenBy before after (LONGEST_PROGRAM + 1)
long_later before mid after stays long = (omega arith, omega arith)

-- the program was not read, or is too long
program_refused : (before mid after : FilesState) (part name : List ℕ) (o : Options) (job : Job) (refusal : Refusal) → mid.tells ≡ before.tells
    → before.faults ≤ mid.faults → before.bytes ≤ mid.bytes → IsPastOne before mid → IsReadOf before part (λ bytes. IsSoundPart bytes o job) → IsUnreadProgram mid after name refusal
    → IsRefusedCase before after part name o refusal
program_refused before mid after part name o job refused.NotRead tells faults bytes past read why = rises_later before.faults mid.faults after.faults faults why
program_refused before mid after part name o job refused.TooLong tells faults bytes past read why =
    let long = long_later before.bytes mid.bytes after.bytes bytes why.0 in (
      record { part = long.0; program = λ _. long.1 },
      (λ told. inr (
        job,
        as_told before part (λ text. IsSoundPart text o job) told read,
        subst (λ text. LONGEST_PROGRAM < length text) (past told name 0) (why.1 (tells ∙ told)),
      )),
    )
program_refused before mid after part name o job refusal tells faults bytes past read why = absurd why

pub if_program_refused : (before mid after : FilesState) (part name : List ℕ) (o : Options) (job : Job) (r : Result Verdict Refusal)
    → mid.tells ≡ before.tells → before.faults ≤ mid.faults → before.bytes ≤ mid.bytes → IsPastOne before mid → IsReadOf before part (λ bytes. IsSoundPart bytes o job)
    → IfErr r (IsUnreadProgram mid after name) → IfErr r (IsRefusedCase before after part name o)
if_program_refused before mid after part name o job (Ok verdict) tells faults bytes past read why = tt
if_program_refused before mid after part name o job (Err refusal) tells faults bytes past read why =
    program_refused before mid after part name o job refusal tells faults bytes past read why

-- What is read.

pub reads_part : (before after : FilesState) (part name : List ℕ) → ReadsFile before after part (LONGEST + 1) → ReadsBoth before after part name
reads_part before after part name reads = record {
  opens = omega (arith, reads.opens);
  reads = omega (arith, reads.reads);
  bytes = omega (arith, reads.bytes.within);
  part_reads = λ _ _. omega (arith, reads.reads);
  part_bytes = λ _ _. reads.bytes.within;
  no_strange = λ told has _. reads.no_strange told has;
}

both_within : (before mid after a b : ℕ) → mid ≤ count_after before a → before ≤ mid → after ≤ count_after mid b → after ≤ count_after before (a + b)
both_within before mid after a b first stays second = omega arith

-- two openings are counted as two
opened_twice : (before mid after : ℕ) → mid ≡ count_after before 1 → after ≡ count_after mid 1 → before + 1 < last_count → after ≤ before + 1 → ⊥
opened_twice before mid after first second few one = omega (arith, first, second, few, one)

pub reads_program : (before mid after : FilesState) (part name : List ℕ) → ReadsFile before mid part (LONGEST + 1) → ReadsFile mid after name (LONGEST_PROGRAM + 1)
    → ReadsBoth before after part name
reads_program before mid after part name first second = record {
  opens = omega (arith, first.opens, second.opens);
  reads = omega (arith, first.reads, second.reads);
  bytes = both_within before.bytes mid.bytes after.bytes (LONGEST + 1) (LONGEST_PROGRAM + 1) first.bytes.within first.bytes.stays second.bytes.within;
  part_reads = λ few one. absurd (opened_twice before.opens mid.opens after.opens first.opens second.opens few one);
  part_bytes = λ few one. absurd (opened_twice before.opens mid.opens after.opens first.opens second.opens few one);
  no_strange = λ told has has_too.
      second.no_strange (first.tells ∙ told) (first.has_file told name ∙ has_too) ∙ first.no_strange told has;
}
