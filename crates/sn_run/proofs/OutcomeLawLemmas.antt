-- Words and files have one outcome.
use Rattle.std.proofs.Common.{ℕ, ◌≡◌, ◌≢◌, ◌⊎◌, inl, inr, ◌<◌, length, List, refl, sym, ap, subst, ◌∙◌, arith}
use Rattle.sn_io.specs.Files.{FilesState}
use Rattle.sn_model.specs.Built.{OneModel}
use Rattle.sn_open.specs.VerdictLaws.{ProgramsHaveOneVerdict}
use Rattle.sn_open.specs.Verdict.{IsVerdict}
use Rattle.sn_open.specs.declared.verdict.Verdict.{Verdict}
use Rattle.sn_p21.specs.FirstFault.{OneFault}
use Rattle.sn_p21.specs.PartText.{OneFile}
use Rattle.sn_refs.specs.Sound.{OneVerdict as OneCheck}
use Rattle.sn_link.specs.Plan.{IsPlan}
use Rattle.sn_link.specs.PlanLaws.{OnePlan}
use Rattle.sn_outline.specs.Job.{Job}
use Rattle.sn_words.proofs.Departures.{one_place}
use Rattle.sn_words.specs.Command.{IsAccepted, DepartsAt}
use Rattle.sn_words.specs.CommandLaws.{SaysOneThing}
use Rattle.sn_report.specs.JobCounts.{AreCountsOf}
use Rattle.sn_report.specs.JobCountsLaws.{OneCount}
use Rattle.sn_report.specs.Report.{report_text}
use Rattle.sn_words.specs.Options.{Options}
use Rattle.sn_message.specs.declared.refusal.Refusal.{Refusal}
use Rattle.sn_message.specs.declared.refusal.Refusal.TheVariants as refused
use Rattle.sn_run.specs.declared.reading.TheConstants.{LONGEST_PROGRAM}
use Rattle.sn_run.specs.declared.status.Status.TheVariants.{BadWords, Memory}
use Rattle.sn_run.specs.Answer.{Answer, Planned, Judged, Counted, Made, answer_status, answer_text, generated_text}
use Rattle.sn_words.specs.declared.options.Command.TheVariants.{Compile, Verify, Make}
use Rattle.sn_run.specs.Part.{IsCompiledPart, IsRefusedPart, IsSoundPart, IsUnjudged, SoundOrRefused}
use Rattle.sn_message.specs.RefusalText.{refusal_text}
use Rattle.sn_run.specs.Outcome.{Explains, IsAnswer, IsRefusal, status_of}
use Rattle.sn_run.specs.Outcome.IsOutcome.{answered, turned_down}
use Rattle.sn_run.specs.Outcome.IsRefusal.{turned_away, uncompiled, unjudged}
use Rattle.sn_run.specs.OutcomeLaws.{OneCase, OneJob, OneRefusal, OneOutcome, OneVerdict, BadWordsAreNoCommand}
use Rattle.sn_program.specs.Text.{program_text}
use Rattle.sn_run.proofs.JudgedLemmas.{one_sound_job, one_uncompiled, one_refusal as one_part_refusal}
use Rattle.sn_run.proofs.CommandLemmas.{IsNumbered, answer_sort, asks_make, asks_verify, counts_sort, one_number, one_request, same_seed, sort_of}
use Rattle.sn_run.proofs.OutcomeLemmas.{one_part, one_pair, part_accepted, part_or_case, stays, of_one_part, of_one_pair, job_not_refused, case_not_refused, make_not_refused}

-- A command has one refusal.

-- the part is refused, or it is sound and the program is too long
abbrev IsLongCase : List ℕ → List ℕ → Options → Type 0
IsLongCase bytes program o = (job : Job) × IsSoundPart bytes o job × (LONGEST_PROGRAM < length program)

part_or_program : (bytes program : List ℕ) (o : Options) (refusal : Refusal) → IsUnjudged bytes program o refusal
    → IsRefusedPart bytes o refusal ⊎ ((refusal ≡ refused.TooLong) × IsLongCase bytes program o)
part_or_program bytes program o refused.TooLong (inl why) = inl why
part_or_program bytes program o refused.TooLong (inr why) = inr (refl, why)
part_or_program bytes program o refusal why = inl why

one_unjudged : OneFile → OneFault → OneModel → OneCheck → SoundOrRefused → (bytes program : List ℕ) (o : Options) (some other : Refusal)
    → IsUnjudged bytes program o some → IsUnjudged bytes program o other → some ≡ other
one_unjudged file fault model check law bytes program o some other why again = elim (part_or_program bytes program o some why) [
  | inl part ↦ elim (part_or_program bytes program o other again) [
    | inl same ↦ one_part_refusal file fault model check bytes o some other part same
    | inr long ↦ let (job, sound, more) = long.1 in absurd ((law bytes o job some).0 sound part)
  ]
  | inr long ↦ elim (part_or_program bytes program o other again) [
    | inl part ↦ let (job, sound, more) = long.1 in absurd ((law bytes o job other).0 sound part)
    | inr same ↦ long.0 ∙ sym same.0
  ]
]

pub one_refusal : SaysOneThing → OneFile → OneFault → OneModel → OneCheck → SoundOrRefused → OneRefusal
one_refusal one file fault model check law words given some other (turned_away j away is) (turned_away k again same) =
    is ∙ ap refused.Word (one_place IsAccepted words j k away again) ∙ sym same
one_refusal one file fault model check law words given some other (turned_away j away is) (uncompiled bytes o part why) =
    absurd (stays words j (o, part_accepted words given bytes o part) away)
one_refusal one file fault model check law words given some other (turned_away j away is) (unjudged part program o command why) =
    absurd (stays words j (o, command.accepted) away)
one_refusal one file fault model check law words given some other (uncompiled bytes o part why) (turned_away k again same) =
    absurd (stays words k (o, part_accepted words given bytes o part) again)
one_refusal one file fault model check law words given some other (uncompiled bytes o part why) (uncompiled text p again also) =
    one_uncompiled file fault model check bytes o some other why (of_one_part one words given bytes text o p other part again also)
one_refusal one file fault model check law words given some other (uncompiled bytes o part why) (unjudged name program p again also) =
    absurd (part_or_case one words given bytes name program o p part again)
one_refusal one file fault model check law words given some other (unjudged part program o command why) (turned_away k again same) =
    absurd (stays words k (o, command.accepted) again)
one_refusal one file fault model check law words given some other (unjudged part program o command why) (uncompiled bytes p again also) =
    absurd (part_or_case one words given bytes part program p o again command)
one_refusal one file fault model check law words given some other (unjudged part program o command why) (unjudged name another p again also) =
    one_unjudged file fault model check law (given part 0) (given program 1) o some other why
    (of_one_pair one words given part name program another o p other command again also)

-- A command has one job, one case and one verdict.

compiled_is_sound : (bytes : List ℕ) (o : Options) (job : Job) → IsCompiledPart bytes o job → IsSoundPart bytes o job
compiled_is_sound bytes o job part = part.sound

pub one_job : SaysOneThing → OneFile → OneFault → OneModel → OneCheck → OneJob
one_job one file fault model check words given some other first second =
    let same = one_part one words given first.bytes second.bytes first.options second.options first.part second.part in
    one_sound_job file fault model check first.bytes first.options some other (compiled_is_sound _ _ _ first.compiled)
    (subst (λ o. IsSoundPart first.bytes o other) same.1 (subst (λ b. IsSoundPart b second.options other) same.0 (compiled_is_sound _ _ _ second.compiled)))

pub one_case : SaysOneThing → OneFile → OneFault → OneModel → OneCheck → OneCase
one_case one file fault model check words given some other program another first second =
    let names =
    one_pair one words first.part_name second.part_name first.name second.name first.options second.options first.command second.command
    in
    let options = one_request one words first.options second.options first.command.accepted second.command.accepted in (
      one_sound_job file fault model check (given first.part_name 0) first.options some other first.part
          (subst (λ o. IsSoundPart (given first.part_name 0) o other) options
          (subst (λ w. IsSoundPart (given w 0) second.options other) names.0 second.part)),
      first.program_is ∙ ap (λ name. given name 1) (sym names.1) ∙ sym second.program_is,
    )

same_verdict : ProgramsHaveOneVerdict → (job other : Job) (program another : List ℕ) (verdict last : Verdict) → job ≡ other → program ≡ another
    → IsVerdict job program verdict → IsVerdict other another last → verdict ≡ last
same_verdict law job other program another verdict last same alike is also =
    law other another verdict last (subst (λ text. IsVerdict other text verdict) alike (subst (λ j. IsVerdict j program verdict) same is)) also

pub one_verdict : OneCase → ProgramsHaveOneVerdict → OneVerdict
one_verdict case law words given some other program another verdict last (asked, is) (again, also) =
    let (job, text) = case words given some other program another asked again in
    (job, text, same_verdict law some other program another verdict last job text is also)

-- A command has one outcome.

-- it asks for an answer of one sort
sorted : (words : List (List ℕ)) (given : List ℕ → ℕ → List ℕ) (answer : Answer) → IsAnswer words given answer → IsNumbered sort_of words (answer_sort answer)
sorted words given (Planned job plan) (asked, _, _) = (Compile, asked, refl)
sorted words given (Judged job program verdict) (asked, _) = (Verify, asks_verify words asked.part_name asked.name asked.options asked.command, refl)
sorted words given (Counted job counts) (asked, _, _) = counts_sort words asked
sorted words given (Made seed) asked = (Make, asks_make words seed asked, refl)

one_sort : SaysOneThing → (words : List (List ℕ)) (given : List ℕ → ℕ → List ℕ) (answer other : Answer) → IsAnswer words given answer → IsAnswer words given other
    → answer_sort answer ≡ answer_sort other
one_sort says words given answer other first second =
    one_number says sort_of words (answer_sort answer) (answer_sort other) (sorted words given answer first) (sorted words given other second)

abbrev AreAlike : Answer → Answer → Type 0
AreAlike answer other = (answer_status answer ≡ answer_status other) × (answer_text answer ≡ answer_text other)

apart : (n m : ℕ) → n ≡ m → n ≢ m → ⊥
apart n m same other = other same

-- and for one answer
one_answer : SaysOneThing → OnePlan → OneCount → OneJob → OneVerdict → (words : List (List ℕ)) (given : List ℕ → ℕ → List ℕ) (answer other : Answer)
    → IsAnswer words given answer → IsAnswer words given other → AreAlike answer other
one_answer says one count job verdict words given (Planned j p) (Planned k q) (_, asked, planned) (_, asked', planned') =
    let same = job words given j k asked asked' in
    let plan = one k p q (subst (λ i. IsPlan i p) same planned) planned' in
    (refl, ap (λ i. program_text i p) same ∙ ap (program_text k) plan)
one_answer says one count job verdict words given (Judged j s v) (Judged k t w) first second =
    let same = (verdict words given j k s t v w first second).2 in
    (ap (λ u. answer_status (Judged j s u)) same, ap (λ u. answer_text (Judged j s u)) same)
one_answer says one count job verdict words given (Counted j c) (Counted k d) (_, asked, counted) (_, asked', counted') =
    let same = job words given j k asked asked' in
    (refl, ap report_text (count k c d (subst (λ i. AreCountsOf i c) same counted) counted'))
one_answer says one count job verdict words given (Made m) (Made n) first second =
    (refl, ap generated_text (same_seed says words m n first second))
one_answer says one count job verdict words given (Planned j p) (Judged k t v) first second =
    absurd (apart 0 1 (one_sort says words given (Planned j p) (Judged k t v) first second) (λ e. omega (arith, e)))
one_answer says one count job verdict words given (Planned j p) (Counted k d) first second =
    absurd (apart 0 2 (one_sort says words given (Planned j p) (Counted k d) first second) (λ e. omega (arith, e)))
one_answer says one count job verdict words given (Planned j p) (Made n) first second =
    absurd (apart 0 3 (one_sort says words given (Planned j p) (Made n) first second) (λ e. omega (arith, e)))
one_answer says one count job verdict words given (Judged j s v) (Planned k q) first second =
    absurd (apart 1 0 (one_sort says words given (Judged j s v) (Planned k q) first second) (λ e. omega (arith, e)))
one_answer says one count job verdict words given (Judged j s v) (Counted k d) first second =
    absurd (apart 1 2 (one_sort says words given (Judged j s v) (Counted k d) first second) (λ e. omega (arith, e)))
one_answer says one count job verdict words given (Judged j s v) (Made n) first second =
    absurd (apart 1 3 (one_sort says words given (Judged j s v) (Made n) first second) (λ e. omega (arith, e)))
one_answer says one count job verdict words given (Counted j c) (Planned k q) first second =
    absurd (apart 2 0 (one_sort says words given (Counted j c) (Planned k q) first second) (λ e. omega (arith, e)))
one_answer says one count job verdict words given (Counted j c) (Judged k t v) first second =
    absurd (apart 2 1 (one_sort says words given (Counted j c) (Judged k t v) first second) (λ e. omega (arith, e)))
one_answer says one count job verdict words given (Counted j c) (Made n) first second =
    absurd (apart 2 3 (one_sort says words given (Counted j c) (Made n) first second) (λ e. omega (arith, e)))
one_answer says one count job verdict words given (Made m) (Planned k q) first second =
    absurd (apart 3 0 (one_sort says words given (Made m) (Planned k q) first second) (λ e. omega (arith, e)))
one_answer says one count job verdict words given (Made m) (Judged k t v) first second =
    absurd (apart 3 1 (one_sort says words given (Made m) (Judged k t v) first second) (λ e. omega (arith, e)))
one_answer says one count job verdict words given (Made m) (Counted k d) first second =
    absurd (apart 3 2 (one_sort says words given (Made m) (Counted k d) first second) (λ e. omega (arith, e)))

-- an answer is not refused
pub answer_not_refused : SaysOneThing → SoundOrRefused → (words : List (List ℕ)) (given : List ℕ → ℕ → List ℕ) (answer : Answer) (refusal : Refusal)
    → IsAnswer words given answer → IsRefusal words given refusal → ⊥
answer_not_refused says law words given (Planned job plan) refusal (_, asked, _) why = job_not_refused says law words given job refusal asked why
answer_not_refused says law words given (Judged job program verdict) refusal (asked, _) why =
    case_not_refused says law words given job program refusal asked why
answer_not_refused says law words given (Counted job counts) refusal (_, asked, _) why = job_not_refused says law words given job refusal asked why
answer_not_refused says law words given (Made seed) refusal asked why = make_not_refused says words given seed refusal asked why

pub one_outcome : SaysOneThing → SoundOrRefused → OnePlan → OneCount → OneJob → OneVerdict → OneRefusal → OneOutcome
one_outcome says law one count job verdict one_r words given s t text other message told (answered a asked status is none) (answered b asked' status' is' none') =
    let (same, alike) = one_answer says one count job verdict words given a b asked asked' in
    (status ∙ same ∙ sym status', is ∙ alike ∙ sym is', none ∙ sym none')
one_outcome says law one count job verdict one_r words given s t text other message told (answered a asked status is none) (turned_down r why status' empty tells) =
    absurd (answer_not_refused says law words given a r asked why)
one_outcome says law one count job verdict one_r words given s t text other message told (turned_down r why status empty tells) (answered a asked status' is none) =
    absurd (answer_not_refused says law words given a r asked why)
one_outcome says law one count job verdict one_r words given s t text other message told (turned_down r why status empty tells) (turned_down q why' status' empty' tells') =
    let same = one_r words given r q why why' in
    (status ∙ ap status_of same ∙ sym status', empty ∙ sym empty', tells ∙ ap refusal_text same ∙ sym tells')

-- BadWords is of words that are not accepted.

-- words depart from the grammar, or are accepted and the status is another one, or memory was wanting
word_or_other : (words : List (List ℕ)) (before after : FilesState) (refusal : Refusal) → Explains words before after refusal
    → ((place : ℕ) × (status_of refusal ≡ BadWords) × DepartsAt words place)
    ⊎ ((status_of refusal ≢ BadWords) × (IsAccepted words ⊎ (status_of refusal ≡ Memory)))
word_or_other words before after (refused.Word place) why = inl (place, refl, why.0)
word_or_other words before after refused.NoMemory why = inr ((λ e. cc), inr refl)
word_or_other words before after (refused.Uncovered feature cell) why = inr ((λ e. cc), inl why.1.0)
word_or_other words before after refusal why = inr ((λ e. cc), inl why.0)

pub bad_words_are_no_command : BadWordsAreNoCommand
bad_words_are_no_command words before after status out out_after err err_after was = elim (word_or_other words before after was.refusal was.cause) [
  | inl word ↦ ((λ bad command. stays words word.0 command word.2), (λ not. inl (was.status_is ∙ word.1)))
  | inr other ↦ (
    (λ bad. absurd (other.0 (sym was.status_is ∙ bad))),
    (λ not. elim other.1 [ inl command ↦ absurd (not command) | inr memory ↦ inr (was.status_is ∙ memory) ]),
  )
]
