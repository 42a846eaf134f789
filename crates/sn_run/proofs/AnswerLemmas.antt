-- What the top call ends with, where an answer was found and where the command was refused.
use Rattle.std.proofs.Common.{ℕ, ◌+◌, ◌<◌, ◌≤◌, ◌≡◌, ◌≢◌, ◌↔◌, ◌⊎◌, inl, inr, List, [], ◌∷◌, IsTrue, refl, sym, ap, subst, ◌∙◌, arith}
use Rattle.sn_io.specs.Count.{Rises}
use Rattle.sn_io.specs.Files.{FilesState}
use Rattle.sn_io.specs.Sink.{SinkState, Takes, TakesFront}
use Rattle.sn_io.proofs.SinkLemmas.{takes-nothing}
use Rattle.sn_outline.specs.Job.{Job}
use Rattle.sn_open.specs.Good.{Good}
use Rattle.sn_open.specs.Verdict.{IsVerdict}
use Rattle.sn_open.specs.VerdictLaws.{ProgramsHaveOneVerdict}
use Rattle.sn_open.specs.declared.verdict.Verdict.{Verdict}
use Rattle.sn_open.specs.declared.verdict.Verdict.TheVariants.{Yes}
use Rattle.sn_words.specs.CommandLaws.{SaysOneThing}
use Rattle.sn_words.specs.Options.{Options}
use Rattle.sn_words.specs.declared.options.Command.TheVariants.{Compile, Verify, Make}
use Rattle.sn_message.specs.RefusalText.{refusal_text}
use Rattle.sn_message.specs.declared.refusal.Refusal.{Refusal}
use Rattle.sn_message.specs.declared.refusal.Refusal.TheVariants as refused
use Rattle.sn_run.specs.declared.find.Found.{Found}
use Rattle.sn_run.specs.declared.find.Found.TheVariants as found
use Rattle.sn_run.specs.declared.status.Status.{Status}
use Rattle.sn_run.specs.declared.status.Status.TheVariants.{Done, Memory, No, ReadFault, TooLong, WriteFault}
use Rattle.sn_run.specs.Answer.{Answer, Planned, Judged, Counted, Made, answer_status, answer_text, generated_text, status_of_verdict}
use Rattle.sn_run.specs.Command.{AsksFor, AsksForCounts, IsMake}
use Rattle.sn_run.specs.Found.{CanBeWritten, IsFoundFor, found_status, found_text, plan_of}
use Rattle.sn_run.specs.Outcome.{Answers, Approves, Compiles, Ends, Explains, IsAnswer, IsCaseOf, IsComplete, IsFound, IsJobOf, IsJudged, IsKnown, IsOfDevices, IsOfProgram, IsPartWith, Rejects, Reports, Stops, status_of}
use Rattle.sn_run.specs.Outcome.IsPartOf.{of_file, of_seed}
use Rattle.sn_run.specs.Outcome.IsPartWith.{of_file_read, of_seed_made}
use Rattle.sn_run.specs.Outcome.IsOutcome.{answered, turned_down}
use Rattle.sn_run.specs.Outcome.Stops.{at_answer}
use Rattle.sn_run.specs.OutcomeLaws.{OneCase}
use Rattle.sn_run.specs.Part.{IsCompiledPart, IsSoundPart, SoundOrRefused}
use Rattle.sn_run.proofs.LoadLemmas.{as_told}
use Rattle.sn_run.proofs.CommandLemmas.{IsNumbered, answer_sort, asks_make, asks_verify, counts_sort, make_alone, one_number, same_seed, sort_of}
use Rattle.sn_run.proofs.OutcomeLemmas.{case_not_refused, job_not_refused, make_not_refused, part_or_case, refusal_or_device, tells_of}

-- Answers.

pub can_be_written : (words : List (List ℕ)) (files : FilesState) (f : Found) → IsFoundFor words files f → CanBeWritten f
can_be_written words files (found.Plan planned) (prepared, good) = good
can_be_written words files found is = tt

-- the answer that was found
pub answer_of : (words : List (List ℕ)) (files : FilesState) (f : Found) → IsFoundFor words files f
    → (answer : Answer) × IsFound words files answer × (found_text f ≡ answer_text answer) × (found_status f ≡ answer_status answer)
answer_of words files (found.Plan planned) (prepared, good) = (Planned planned.job (plan_of planned), prepared, refl, refl)
answer_of words files (found.Verdict verdict) (job, program, judged) = (Judged job program verdict, judged, refl, refl)
answer_of words files (found.Counts counts) (job, reported) = (Counted job counts, reported, refl, refl)
answer_of words files (found.Part text) (seed, make, is) = (Made seed, make, is, refl)

-- Sorts of answers.

sorted : (words : List (List ℕ)) (files : FilesState) (answer : Answer) → IsFound words files answer → IsNumbered sort_of words (answer_sort answer)
sorted words files (Planned job plan) known = (Compile, known.asked, refl)
sorted words files (Judged job program verdict) known = (Verify, asks_verify words known.part_name known.name known.options known.command, refl)
sorted words files (Counted job counts) known = counts_sort words known.asked
sorted words files (Made seed) known = (Make, asks_make words seed known, refl)

-- an answer of another sort is not found
other_sort : SaysOneThing → (words : List (List ℕ)) (files : FilesState) (answer : Answer) (n : ℕ) → IsFound words files answer → IsNumbered sort_of words n → n ≢ answer_sort answer → ⊥
other_sort law words files answer n known asked other =
    other (one_number law sort_of words n (answer_sort answer) asked (sorted words files answer known))

-- its text was written, and its status given
pub record IsWritten (status : Status) (out out_after : SinkState) (answer : Answer) : Type 0 where
  pub status_is : status ≡ answer_status answer
  pub written : Takes out out_after (answer_text answer)

pub wrote : (status : Status) (out out_after : SinkState) (f : Found) (answer : Answer) → found_text f ≡ answer_text answer → found_status f ≡ answer_status answer
    → (status ≡ found_status f) × Takes out out_after (found_text f) → IsWritten status out out_after answer
wrote status out out_after f answer text same (is, takes) = record { status_is = is ∙ same; written = subst (Takes out out_after) text takes }

pub stopped_at : (words : List (List ℕ)) (before after : FilesState) (out out_after err : SinkState) (f : Found) → IsFoundFor words before f
    → TakesFront out out_after (found_text f) → Stops words before after out out_after err err
stopped_at words before after out out_after err f is front =
    let (answer, found_is, text, status) = answer_of words before f is in
    at_answer answer found_is (subst (TakesFront out out_after) text front) refl

-- where what the words ask for is known, what was found is that

told_job : SaysOneThing → (words : List (List ℕ)) (files : FilesState) (job : Job) (o : Options) → IsKnown words files
    → IsPartWith words files o (λ bytes. IsCompiledPart bytes o job) → IsJobOf words files.given job
told_job law words files job o told (of_file_read name command read) = record {
  bytes = files.given name 0;
  options = o;
  part = of_file name command refl;
  compiled = as_told files name (λ bytes. IsCompiledPart bytes o job) (tells_of law words name [] o files command.accepted command.file told) read;
}
told_job law words files job o told (of_seed_made command compiled) =
    record { bytes = generated_text o.seed; options = o; part = of_seed command refl; compiled = compiled }

told_answer : SaysOneThing → (words : List (List ℕ)) (files : FilesState) (answer : Answer) → IsKnown words files → IsFound words files answer
    → IsAnswer words files.given answer
told_answer law words files (Planned job plan) told known =
    (known.asked, told_job law words files job known.loaded.options told known.loaded.part, known.planned)
told_answer law words files (Judged job program verdict) told known =
    let tells = tells_of law words known.part_name (known.name ∷ []) known.options files known.command.accepted known.command.file told in (
      record {
        part_name = known.part_name;
        name = known.name;
        options = known.options;
        command = known.command;
        part = as_told files known.part_name (λ bytes. IsSoundPart bytes known.options job) tells known.read;
        program_is = known.content tells;
        short = known.short;
      },
      known.judged,
    )
told_answer law words files (Counted job counts) told known =
    (known.asked, told_job law words files job known.loaded.options told known.loaded.part, known.counted)
told_answer law words files (Made seed) told known = known

pub ends_answered : SaysOneThing → (words : List (List ℕ)) (files : FilesState) (answer : Answer) (status : Status) (out out_after err : SinkState)
    → IsKnown words files → IsFound words files answer → IsWritten status out out_after answer → Ends words files.given status out out_after err err
ends_answered law words files answer status out out_after err told known was = record {
  text = answer_text answer;
  message = [];
  outcome = answered answer (told_answer law words files answer told known) was.status_is refl refl;
  written = was.written;
  told = takes-nothing err;
}

-- Programs.

pub compiles : SaysOneThing → (words : List (List ℕ)) (files : FilesState) (answer : Answer) (status : Status) (out out_after : SinkState)
    → AsksFor words Compile → IsFound words files answer → IsWritten status out out_after answer → Compiles words files out out_after
compiles law words files (Planned job plan) status out out_after asked known was =
    record { job = job; plan = plan; prepared = known; written = was.written }
compiles law words files (Judged job program verdict) status out out_after asked known was =
    absurd (other_sort law words files (Judged job program verdict) 0 known (Compile, asked, refl) (λ e. omega (arith, e)))
compiles law words files (Counted job counts) status out out_after asked known was =
    absurd (other_sort law words files (Counted job counts) 0 known (Compile, asked, refl) (λ e. omega (arith, e)))
compiles law words files (Made seed) status out out_after asked known was =
    absurd (other_sort law words files (Made seed) 0 known (Compile, asked, refl) (λ e. omega (arith, e)))

pub completes : SaysOneThing → (words : List (List ℕ)) (files : FilesState) (answer : Answer) (given : List ℕ → ℕ → List ℕ) (job : Job)
    → IsJobOf words given job → IsFound words files answer → answer_status answer ≡ Done
completes law words files (Planned job plan) given own asked known = refl
completes law words files (Judged job program verdict) given own asked known =
    absurd (part_or_case law words given asked.bytes known.part_name known.name asked.options known.options asked.part known.command)
completes law words files (Counted job counts) given own asked known = refl
completes law words files (Made seed) given own asked known = refl

-- Counts and parts.

pub reports : SaysOneThing → (words : List (List ℕ)) (files : FilesState) (answer : Answer) (status : Status) (out out_after : SinkState)
    → AsksForCounts words → IsFound words files answer → IsWritten status out out_after answer → Reports words files out out_after
reports law words files (Counted job counts) status out out_after asked known was =
    record { job = job; counts = counts; reported = known; written = was.written }
reports law words files (Planned job plan) status out out_after asked known was =
    absurd (other_sort law words files (Planned job plan) 2 known (counts_sort words asked) (λ e. omega (arith, e)))
reports law words files (Judged job program verdict) status out out_after asked known was =
    absurd (other_sort law words files (Judged job program verdict) 2 known (counts_sort words asked) (λ e. omega (arith, e)))
reports law words files (Made seed) status out out_after asked known was =
    absurd (other_sort law words files (Made seed) 2 known (counts_sort words asked) (λ e. omega (arith, e)))

pub makes : SaysOneThing → (words : List (List ℕ)) (files : FilesState) (answer : Answer) (status : Status) (out out_after : SinkState) (seed : ℕ)
    → IsMake words seed → IsFound words files answer → IsWritten status out out_after answer → Takes out out_after (generated_text seed)
makes law words files (Made own) status out out_after seed asked known was =
    subst (λ n. Takes out out_after (generated_text n)) (same_seed law words own seed known asked) was.written
makes law words files (Planned job plan) status out out_after seed asked known was =
    absurd (other_sort law words files (Planned job plan) 3 known (Make, asks_make words seed asked, refl) (λ e. omega (arith, e)))
makes law words files (Judged job program verdict) status out out_after seed asked known was =
    absurd (other_sort law words files (Judged job program verdict) 3 known (Make, asks_make words seed asked, refl) (λ e. omega (arith, e)))
makes law words files (Counted job counts) status out out_after seed asked known was =
    absurd (other_sort law words files (Counted job counts) 3 known (Make, asks_make words seed asked, refl) (λ e. omega (arith, e)))

pub generates : SaysOneThing → (words : List (List ℕ)) (files : FilesState) (answer : Answer) → AsksFor words Make → IsFound words files answer → answer_status answer ≡ Done
generates law words files (Planned job plan) asked known = refl
generates law words files (Judged job program verdict) asked known =
    absurd (other_sort law words files (Judged job program verdict) 3 known (Make, asked, refl) (λ e. omega (arith, e)))
generates law words files (Counted job counts) asked known = refl
generates law words files (Made seed) asked known = refl

-- Verdicts.

no_yes : (verdict : Verdict) → status_of_verdict verdict ≡ Done → verdict ≡ Yes
no_yes Yes is = refl
no_yes verdict is = absurd (cc)

yes_no : (verdict : Verdict) → status_of_verdict verdict ≡ No → verdict ≢ Yes
yes_no verdict is good = let same = ap status_of_verdict good in let e : Done ≡ No = sym same ∙ is in absurd (cc)

done_or_no : (verdict : Verdict) → (status_of_verdict verdict ≡ Done) ⊎ (status_of_verdict verdict ≡ No)
done_or_no Yes = inl refl
done_or_no verdict = inr refl

pub approves : SaysOneThing → (words : List (List ℕ)) (files : FilesState) (answer : Answer) (status : Status) (out out_after : SinkState)
    → AsksFor words Verify → status ≡ Done → IsFound words files answer → IsWritten status out out_after answer → Approves words files out out_after
approves law words files (Judged job text verdict) status out out_after asked done known was =
    let good = no_yes verdict (sym was.status_is ∙ done) in
    let judged = subst (IsJudged words files job text) good known in
    record {
      job = job;
      program = text;
      judged = judged;
      good = judged.judged;
      written = subst (λ v. Takes out out_after (answer_text (Judged job text v))) good was.written;
    }
approves law words files (Planned job plan) status out out_after asked done known was =
    absurd (other_sort law words files (Planned job plan) 1 known (Verify, asked, refl) (λ e. omega (arith, e)))
approves law words files (Counted job counts) status out out_after asked done known was =
    absurd (other_sort law words files (Counted job counts) 1 known (Verify, asked, refl) (λ e. omega (arith, e)))
approves law words files (Made seed) status out out_after asked done known was =
    absurd (other_sort law words files (Made seed) 1 known (Verify, asked, refl) (λ e. omega (arith, e)))

not_refused : (status : Status) → status ≡ No → status ≡ Done → ⊥
not_refused status refuses done = let e : Done ≡ No = sym done ∙ refuses in absurd (cc)

pub rejects : ProgramsHaveOneVerdict → (words : List (List ℕ)) (files : FilesState) (answer : Answer) (status : Status) (out out_after : SinkState)
    → status ≡ No → IsFound words files answer → IsWritten status out out_after answer → Rejects words files out out_after
rejects law words files (Judged job program verdict) status out out_after refuses known was = record {
  job = job;
  program = program;
  verdict = verdict;
  judged = known;
  bad = λ good. yes_no verdict (sym was.status_is ∙ refuses) (law job program verdict Yes known.judged good);
  written = was.written;
}
rejects law words files (Planned job plan) status out out_after refuses known was = absurd (not_refused status refuses was.status_is)
rejects law words files (Counted job counts) status out out_after refuses known was = absurd (not_refused status refuses was.status_is)
rejects law words files (Made seed) status out out_after refuses known was = absurd (not_refused status refuses was.status_is)

pub answers : (words : List (List ℕ)) (files : FilesState) (answer : Answer) (status : Status) (out out_after err : SinkState) → IsFound words files answer
    → IsWritten status out out_after answer → Answers words files status out out_after err err
answers words files answer status out out_after err known was =
    record { answer = answer; found = known; status_is = was.status_is; written = was.written; untouched = refl }

-- the answer is Done or No
pub either_status : (answer : Answer) → (answer_status answer ≡ Done) ⊎ (answer_status answer ≡ No)
either_status (Planned job plan) = inl refl
either_status (Judged job program verdict) = done_or_no verdict
either_status (Counted job counts) = inl refl
either_status (Made seed) = inl refl

-- a status that is written is no fault
pub no_fault : (status : Status) → (status ≡ Done) ⊎ (status ≡ No) → status ≢ WriteFault
no_fault status (inl done) fault = let e : Done ≡ WriteFault = sym done ∙ fault in absurd (cc)
no_fault status (inr refuses) fault = let e : No ≡ WriteFault = sym refuses ∙ fault in absurd (cc)

pub done_or_fault : (status last : Status) → last ≡ Done → (status ≡ last) ⊎ (status ≡ WriteFault) → (status ≡ Done) ⊎ IsOfDevices status
done_or_fault status last done (inl is) = inl (is ∙ done)
done_or_fault status last done (inr is) = inr (inr (inl is))

as_answered : (status last : Status) → status ≡ last → (last ≡ Done) ⊎ (last ≡ No) → (status ≡ Done) ⊎ (status ≡ No)
as_answered status last is (inl done) = inl (is ∙ done)
as_answered status last is (inr refuses) = inr (is ∙ refuses)

pub either_or_fault : (status last : Status) (answer : Answer) → last ≡ answer_status answer → (status ≡ last) ⊎ (status ≡ WriteFault)
    → ((status ≡ Done) ⊎ (status ≡ No)) ⊎ IsOfDevices status
either_or_fault status last answer same (inl is) = inl (as_answered status (answer_status answer) (is ∙ same) (either_status answer))
either_or_fault status last answer same (inr is) = inr (inr (inl is))

pub answered_status : (status : Status) (answer : Answer) → status ≡ answer_status answer → status ≢ Done → status ≢ No → ⊥
answered_status status answer is not_done not_no = elim (as_answered status (answer_status answer) is (either_status answer)) [
  | inl done ↦ not_done done
  | inr refuses ↦ not_no refuses
]

pub exactly_so : {P : Type 0} (status last : Status) → status ≡ last → (last ≡ Done) ↔ P → (status ≡ Done) ↔ P
exactly_so status last is so = ((λ done. so.0 (sym is ∙ done)), (λ holds. is ∙ so.1 holds))

same_good : ProgramsHaveOneVerdict → (job other : Job) (program another : List ℕ) (verdict : Verdict) → job ≡ other → program ≡ another → IsVerdict job program verdict
    → (status_of_verdict verdict ≡ Done) ↔ Good other another
same_good law job other program another verdict same alike is = (
  (λ done.
      let good = subst (IsVerdict job program) (no_yes verdict done) is in
      subst (λ j. Good j another) same (subst (λ text. Good job text) alike good)),
  (λ good.
      let own = subst (λ j. Good j program) (sym same) (subst (λ text. Good other text) (sym alike) good) in
      ap status_of_verdict (law job program verdict Yes is own)),
)

pub exactly : SaysOneThing → ProgramsHaveOneVerdict → OneCase → (words : List (List ℕ)) (files : FilesState) (answer : Answer) (job : Job) (program : List ℕ) → IsTrue files.tells
    → IsCaseOf words files.given job program → IsFound words files answer → (answer_status answer ≡ Done) ↔ Good job program
exactly law one case words files (Judged j text verdict) job program told asked known =
    let (same, alike) = case words files.given j job text program (told_answer law words files (Judged j text verdict) (inl told) known).0 asked in
    same_good one j job text program verdict same alike known.judged
exactly law one case words files (Planned j plan) job program told asked known =
    absurd (other_sort law words files (Planned j plan) 1 known (Verify, asks_verify words asked.part_name asked.name asked.options asked.command, refl) (λ e. omega (arith, e)))
exactly law one case words files (Counted j counts) job program told asked known =
    absurd (other_sort law words files (Counted j counts) 1 known (Verify, asks_verify words asked.part_name asked.name asked.options asked.command, refl) (λ e. omega (arith, e)))
exactly law one case words files (Made seed) job program told asked known =
    absurd (other_sort law words files (Made seed) 1 known (Verify, asks_verify words asked.part_name asked.name asked.options asked.command, refl) (λ e. omega (arith, e)))

-- Refusals.

not_done : (refusal : Refusal) → status_of refusal ≢ Done
not_done refused.NotRead e = absurd (cc)
not_done refusal e = absurd (cc)

not_no : (refusal : Refusal) → status_of refusal ≢ No
not_no refused.NotRead e = absurd (cc)
not_no refusal e = absurd (cc)

-- a command that is refused ends neither with Done nor with No
pub never_done : (status : Status) (refusal : Refusal) → (status ≡ status_of refusal) ⊎ (status ≡ WriteFault) → status ≢ Done
never_done status refusal (inl is) done = not_done refusal (sym is ∙ done)
never_done status refusal (inr is) done = let e : WriteFault ≡ Done = sym is ∙ done in absurd (cc)

pub never_no : (status : Status) (refusal : Refusal) → (status ≡ status_of refusal) ⊎ (status ≡ WriteFault) → status ≢ No
never_no status refusal (inl is) refuses = not_no refusal (sym is ∙ refuses)
never_no status refusal (inr is) refuses = let e : WriteFault ≡ No = sym is ∙ refuses in absurd (cc)

device_too : (status : Status) (refusal : Refusal) → (status ≡ status_of refusal) ⊎ (status ≡ WriteFault) → IsOfDevices (status_of refusal) → IsOfDevices status
device_too status refusal (inl is) device = subst IsOfDevices (sym is) device
device_too status refusal (inr is) device = inr (inl is)

pub ends_refused : (words : List (List ℕ)) (before after : FilesState) (refusal : Refusal) (status : Status) (out err err_after : SinkState) → IsKnown words before
    → Explains words before after refusal → status ≡ status_of refusal → Takes err err_after (refusal_text refusal) → ¬ IsOfDevices status
    → Ends words before.given status out out err err_after
ends_refused words before after refusal status out err err_after told why is takes devices = elim (refusal_or_device words before after refusal told why) [
  | inl cause ↦ record {
    text = [];
    message = refusal_text refusal;
    outcome = turned_down refusal cause is refl refl;
    written = takes-nothing out;
    told = takes;
  }
  | inr device ↦ absurd (devices (subst IsOfDevices (sym is) device))
]

-- what is asked for is refused for want of memory or by a device alone
pub job_by_devices : SaysOneThing → SoundOrRefused → (words : List (List ℕ)) (before after : FilesState) (refusal : Refusal) (status : Status) (job : Job) → IsKnown words before
    → Explains words before after refusal → IsJobOf words before.given job → (status ≡ status_of refusal) ⊎ (status ≡ WriteFault) → IsOfDevices status
job_by_devices one law words before after refusal status job told why asked is = elim (refusal_or_device words before after refusal told why) [
  | inl cause ↦ absurd (job_not_refused one law words before.given job refusal asked cause)
  | inr device ↦ device_too status refusal is device
]

pub case_by_devices : SaysOneThing → SoundOrRefused → (words : List (List ℕ)) (before after : FilesState) (refusal : Refusal) (status : Status) (job : Job) (program : List ℕ)
    → IsTrue before.tells → Explains words before after refusal → IsCaseOf words before.given job program → (status ≡ status_of refusal) ⊎ (status ≡ WriteFault)
    → IsOfDevices status
case_by_devices one law words before after refusal status job program told why asked is = elim (refusal_or_device words before after refusal (inl told) why) [
  | inl cause ↦ absurd (case_not_refused one law words before.given job program refusal asked cause)
  | inr device ↦ device_too status refusal is device
]

pub make_by_devices : SaysOneThing → (words : List (List ℕ)) (before after : FilesState) (refusal : Refusal) (status : Status) → Explains words before after refusal
    → AsksFor words Make → (status ≡ status_of refusal) ⊎ (status ≡ WriteFault) → IsOfDevices status
make_by_devices one words before after refusal status why asked is = elim (refusal_or_device words before after refusal (inr (make_alone words asked)) why) [
  | inl cause ↦
      absurd (make_not_refused one words before.given asked.options.seed refusal
      (record { options = asked.options; accepted = asked.accepted; makes = asked.asks; seed_is = refl }) cause)
  | inr device ↦ device_too status refusal is device
]

-- Completeness.

memory_or_not : (status : Status) → (status ≡ Memory) ⊎ (status ≢ Memory)
memory_or_not Memory = inl refl
memory_or_not status = inr (λ e. absurd (cc))

left_over : {P : Type 0} (status : Status) → status ≢ ReadFault → status ≢ WriteFault → P ⊎ IsOfDevices status → P ⊎ (status ≡ Memory)
left_over status no_read no_write (inl holds) = inl holds
left_over status no_read no_write (inr (inl is)) = absurd (no_read is)
left_over status no_read no_write (inr (inr (inl is))) = absurd (no_write is)
left_over status no_read no_write (inr (inr (inr is))) = inr is

no_device : (status : Status) → status ≢ ReadFault → status ≢ WriteFault → status ≢ Memory → ¬ IsOfDevices status
no_device status no_read no_write no_memory (inl is) = no_read is
no_device status no_read no_write no_memory (inr (inl is)) = no_write is
no_device status no_read no_write no_memory (inr (inr is)) = no_memory is

-- where neither a reading nor a writing failed
pub complete : (words : List (List ℕ)) (files : FilesState) (status : Status) (out out_after err err_after : SinkState) → status ≢ ReadFault → status ≢ WriteFault
    → (IsKnown words files → (job : Job) → IsJobOf words files.given job → (status ≡ Done) ⊎ IsOfDevices status)
    → (IsTrue files.tells → (job : Job) (program : List ℕ) → IsCaseOf words files.given job program → ((status ≡ Done) ⊎ (status ≡ No)) ⊎ IsOfDevices status)
    → (AsksFor words Make → (status ≡ Done) ⊎ IsOfDevices status)
    → (IsKnown words files → ¬ IsOfDevices status → Ends words files.given status out out_after err err_after)
    → IsComplete words files status out out_after err err_after
complete words files status out out_after err err_after no_read no_write plans judges makes ends = record {
  no_read_fault = no_read;
  no_write_fault = no_write;
  plans = λ known job asked. left_over status no_read no_write (plans known job asked);
  judges = λ tells job program asked. left_over status no_read no_write (judges tells job program asked);
  generates = λ asked. left_over status no_read no_write (makes asked);
  outcome = λ known. elim (memory_or_not status) [
    | inl memory ↦ inl memory
    | inr other ↦ inr (ends known (no_device status no_read no_write other))
  ];
}

pub answer_no_read : (status last : Status) (answer : Answer) → last ≡ answer_status answer → (status ≡ last) ⊎ (status ≡ WriteFault) → status ≢ ReadFault
answer_no_read status last answer same (inl is) fault = elim (as_answered status (answer_status answer) (is ∙ same) (either_status answer)) [
  | inl done ↦ let e : Done ≡ ReadFault = sym done ∙ fault in absurd (cc)
  | inr refuses ↦ let e : No ≡ ReadFault = sym refuses ∙ fault in absurd (cc)
]
answer_no_read status last answer same (inr is) fault = let e : WriteFault ≡ ReadFault = sym is ∙ fault in absurd (cc)

other_refusal : (refusal : Refusal) → refusal ≢ refused.NotRead → status_of refusal ≢ ReadFault
other_refusal refused.NotRead other e = other refl
other_refusal refusal other e = absurd (cc)

pub refusal_no_read : (words : List (List ℕ)) (before after : FilesState) (refusal : Refusal) (status : Status) → Explains words before after refusal
    → (status ≡ status_of refusal) ⊎ (status ≡ WriteFault) → ¬ Rises before.faults after.faults → status ≢ ReadFault
refusal_no_read words before after refusal status why (inr is) none fault = let e : WriteFault ≡ ReadFault = sym is ∙ fault in absurd (cc)
refusal_no_read words before after refused.NotRead status why (inl is) none fault = none why.2
refusal_no_read words before after refusal status why (inl is) none fault = other_refusal refusal (λ e. cc) (sym is ∙ fault)

-- Once a second file was opened.

pub answer_of_program : (status last : Status) (answer : Answer) → last ≡ answer_status answer → (status ≡ last) ⊎ (status ≡ WriteFault) → IsOfProgram status
answer_of_program status last answer same (inl is) = inl (as_answered status (answer_status answer) (is ∙ same) (either_status answer))
answer_of_program status last answer same (inr is) = inr (inr (inr is))

one_opened : (before after : ℕ) → before + 1 < after → after ≤ before + 1 → ⊥
one_opened before after two one = omega (arith, two, one)

none_opened : (before after : FilesState) → before.opens + 1 < after.opens → after ≡ before → ⊥
none_opened before after two same = let e : after.opens ≡ before.opens = ap (λ (s : FilesState). s.opens) same in omega (arith, two, e)

pub refusal_of_program : (words : List (List ℕ)) (before after : FilesState) (refusal : Refusal) (status : Status) → Explains words before after refusal
    → before.opens + 1 < after.opens → (status ≡ status_of refusal) ⊎ (status ≡ WriteFault) → IsOfProgram status
refusal_of_program words before after refusal status why two (inr is) = inr (inr (inr is))
refusal_of_program words before after (refused.Word place) status why two (inl is) = absurd (none_opened before after two why.1)
refusal_of_program words before after refused.NotRead status why two (inl is) = inr (inr (inl is))
refusal_of_program words before after refused.NoMemory status (inl why) two (inl is) = absurd (one_opened before.opens after.opens two why.1)
refusal_of_program words before after refused.NoMemory status (inr same) two (inl is) = absurd (none_opened before after two same)
refusal_of_program words before after refused.TooLong status why two (inl is) = inr (inl is)
refusal_of_program words before after (refused.Uncovered feature cell) status why two (inl is) = absurd (one_opened before.opens after.opens two why.1.1)
refusal_of_program words before after refusal status why two (inl is) = absurd (one_opened before.opens after.opens two why.1)

not_memory : (status : Status) → IsOfProgram status → status ≢ Memory
not_memory status (inl (inl is)) memory = let e : Done ≡ Memory = sym is ∙ memory in absurd (cc)
not_memory status (inl (inr is)) memory = let e : No ≡ Memory = sym is ∙ memory in absurd (cc)
not_memory status (inr (inl is)) memory = let e : TooLong ≡ Memory = sym is ∙ memory in absurd (cc)
not_memory status (inr (inr (inl is))) memory = let e : ReadFault ≡ Memory = sym is ∙ memory in absurd (cc)
not_memory status (inr (inr (inr is))) memory = let e : WriteFault ≡ Memory = sym is ∙ memory in absurd (cc)

pub without_memory : (status : Status) → IsOfProgram status → ((status ≡ Done) ⊎ (status ≡ No)) ⊎ IsOfDevices status
    → ((status ≡ Done) ⊎ (status ≡ No)) ⊎ ((status ≡ ReadFault) ⊎ (status ≡ WriteFault))
without_memory status of (inl is) = inl is
without_memory status of (inr (inl is)) = inr (inl is)
without_memory status of (inr (inr (inl is))) = inr (inr is)
without_memory status of (inr (inr (inr is))) = absurd (not_memory status of is)
