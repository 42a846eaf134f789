-- What words ask for of the files, and how a command ends.
use Rattle.std.proofs.Common.{ℕ, ◌≡◌, ◌≤◌, ◌⊎◌, inl, inr, List, ◌∷◌, length, sym, ap, subst, ◌∙◌, refl, arith, IsTrue}
use Rattle.sn_io.specs.Files.{FilesState}
use Rattle.sn_outline.specs.Job.{Job}
use Rattle.sn_words.proofs.Departures.{no_place}
use Rattle.sn_words.specs.Command.{IsAccepted, IsCommand, DepartsAt}
use Rattle.sn_words.specs.CommandLaws.{SaysOneThing}
use Rattle.sn_words.specs.Options.{Options}
use Rattle.sn_message.specs.declared.refusal.Refusal.{Refusal}
use Rattle.sn_message.specs.declared.refusal.Refusal.TheVariants as refused
use Rattle.sn_run.specs.declared.reading.TheConstants.{LONGEST_PROGRAM}
use Rattle.sn_run.specs.Answer.{generated_text}
use Rattle.sn_run.specs.Command.{IsMake, IsOfFile, IsVerify}
use Rattle.sn_run.specs.Part.{IsSoundPart, IsUncompiledPart, IsUnjudged, SoundOrRefused}
use Rattle.sn_run.specs.Outcome.{IsJobOf, IsCaseOf, IsKnown, IsPartOf, IsRefusal, IsOfDevices, Explains, status_of}
use Rattle.sn_run.specs.Outcome.IsPartOf.{of_file, of_seed}
use Rattle.sn_run.specs.Outcome.IsRefusal.{turned_away, uncompiled, unjudged}
use Rattle.sn_run.proofs.CommandLemmas.{plans, one_number, file_number, seed_number, verify_number, make_number, one_request, files_of, names_some}

-- The part that words ask about.

pub part_accepted : (words : List (List ℕ)) (given : List ℕ → ℕ → List ℕ) (bytes : List ℕ) (o : Options) → IsPartOf words given bytes o → IsCommand words o
part_accepted words given bytes o (of_file name command is) = command.accepted
part_accepted words given bytes o (of_seed command is) = command.accepted

same_name : SaysOneThing → (words : List (List ℕ)) (a b : List ℕ) (o p : Options) → IsOfFile words a o → IsOfFile words b p → b ≡ a
same_name law words a b o p first second =
    let e = first.file in
    let f = second.file in
    let same = files_of o p (one_request law words o p first.accepted second.accepted) in
    cc

-- there is one
pub one_part : SaysOneThing → (words : List (List ℕ)) (given : List ℕ → ℕ → List ℕ) (a b : List ℕ) (o p : Options) → IsPartOf words given a o
    → IsPartOf words given b p → (b ≡ a) × (p ≡ o)
one_part law words given a b o p (of_file name first is) (of_file other second also) = (
  also ∙ ap (λ n. given n 0) (same_name law words name other o p first second) ∙ sym is,
  one_request law words o p first.accepted second.accepted,
)
one_part law words given a b o p (of_file name first is) (of_seed second also) =
    let e : 0 ≡ 1 = one_number law plans words 0 1 (file_number words name o first) (seed_number words p second) in absurd (omega (arith, e))
one_part law words given a b o p (of_seed first is) (of_file other second also) =
    let e : 1 ≡ 0 = one_number law plans words 1 0 (seed_number words o first) (file_number words other p second) in absurd (omega (arith, e))
one_part law words given a b o p (of_seed first is) (of_seed second also) =
    let same = one_request law words o p first.accepted second.accepted in
    (also ∙ ap (λ (q : Options). generated_text q.seed) same ∙ sym is, same)

-- or one part and one program
pub one_pair : SaysOneThing → (words : List (List ℕ)) (a b m n : List ℕ) (o p : Options) → IsVerify words a m o → IsVerify words b n p → (b ≡ a) × (n ≡ m)
one_pair law words a b m n o p first second =
    let e = first.file in
    let f = second.file in
    let same = files_of o p (one_request law words o p first.accepted second.accepted) in
    (cc, cc)

-- and not both
pub part_or_case : SaysOneThing → (words : List (List ℕ)) (given : List ℕ → ℕ → List ℕ) (bytes part name : List ℕ) (o p : Options) → IsPartOf words given bytes o
    → IsVerify words part name p → ⊥
part_or_case law words given bytes part name o p (of_file file command is) verify =
    let e : 0 ≡ 2 = one_number law plans words 0 2 (file_number words file o command) (verify_number words part name p verify) in absurd (omega (arith, e))
part_or_case law words given bytes part name o p (of_seed command is) verify =
    let e : 1 ≡ 2 = one_number law plans words 1 2 (seed_number words o command) (verify_number words part name p verify) in absurd (omega (arith, e))

part_or_make : SaysOneThing → (words : List (List ℕ)) (given : List ℕ → ℕ → List ℕ) (bytes : List ℕ) (o : Options) (seed : ℕ) → IsPartOf words given bytes o → IsMake words seed → ⊥
part_or_make law words given bytes o seed (of_file file command is) make =
    let e : 0 ≡ 3 = one_number law plans words 0 3 (file_number words file o command) (make_number words seed make) in absurd (omega (arith, e))
part_or_make law words given bytes o seed (of_seed command is) make =
    let e : 1 ≡ 3 = one_number law plans words 1 3 (seed_number words o command) (make_number words seed make) in absurd (omega (arith, e))

case_or_make : SaysOneThing → (words : List (List ℕ)) (part name : List ℕ) (o : Options) (seed : ℕ) → IsVerify words part name o → IsMake words seed → ⊥
case_or_make law words part name o seed verify make =
    let e : 2 ≡ 3 = one_number law plans words 2 3 (verify_number words part name o verify) (make_number words seed make) in absurd (omega (arith, e))

-- Refusals.

-- accepted words depart nowhere
pub stays : (words : List (List ℕ)) (place : ℕ) → IsAccepted words → DepartsAt words place → ⊥
stays words place command away = no_place IsAccepted words place command away

-- a refusal of a part is one of the part that the words ask about
pub of_one_part : SaysOneThing → (words : List (List ℕ)) (given : List ℕ → ℕ → List ℕ) (bytes other : List ℕ) (o p : Options) (refusal : Refusal)
    → IsPartOf words given bytes o → IsPartOf words given other p → IsUncompiledPart other p refusal → IsUncompiledPart bytes o refusal
of_one_part law words given bytes other o p refusal part again why =
    let same = one_part law words given bytes other o p part again in
    subst (λ q. IsUncompiledPart bytes q refusal) same.1 (subst (λ b. IsUncompiledPart b p refusal) same.0 why)

pub of_one_pair : SaysOneThing → (words : List (List ℕ)) (given : List ℕ → ℕ → List ℕ) (name other program another : List ℕ) (o p : Options) (refusal : Refusal)
    → IsVerify words name program o → IsVerify words other another p → IsUnjudged (given other 0) (given another 1) p refusal
    → IsUnjudged (given name 0) (given program 1) o refusal
of_one_pair law words given name other program another o p refusal command again why =
    let same = one_pair law words name other program another o p command again in
    subst (λ q. IsUnjudged (given name 0) (given program 1) q refusal) (one_request law words o p command.accepted again.accepted)
    (subst (λ w. IsUnjudged (given name 0) (given w 1) p refusal) same.1 (subst (λ w. IsUnjudged (given w 0) (given another 1) p refusal) same.0 why))

-- what is compiled is not refused
pub job_not_refused : SaysOneThing → SoundOrRefused → (words : List (List ℕ)) (given : List ℕ → ℕ → List ℕ) (job : Job) (refusal : Refusal)
    → IsJobOf words given job → IsRefusal words given refusal → ⊥
job_not_refused one law words given job refusal asked (turned_away place away is) =
    stays words place (asked.options, part_accepted words given asked.bytes asked.options asked.part) away
job_not_refused one law words given job refusal asked (uncompiled bytes o part why) =
    (law asked.bytes asked.options job refusal).1 asked.compiled (of_one_part one words given asked.bytes bytes asked.options o refusal asked.part part why)
job_not_refused one law words given job refusal asked (unjudged part program o command why) =
    part_or_case one words given asked.bytes part program asked.options o asked.part command

-- a sound part with a program that is not too long is judged
judged_or_refused : SoundOrRefused → (bytes program : List ℕ) (o : Options) (job : Job) (refusal : Refusal) → IsSoundPart bytes o job → length program ≤ LONGEST_PROGRAM
    → IsUnjudged bytes program o refusal → ⊥
judged_or_refused law bytes program o job refused.TooLong sound short (inl why) = (law bytes o job refused.TooLong).0 sound why
judged_or_refused law bytes program o job refused.TooLong sound short (inr (other, again, long)) = omega (arith, short, long)
judged_or_refused law bytes program o job refusal sound short why = (law bytes o job refusal).0 sound why

pub case_not_refused : SaysOneThing → SoundOrRefused → (words : List (List ℕ)) (given : List ℕ → ℕ → List ℕ) (job : Job) (program : List ℕ) (refusal : Refusal)
    → IsCaseOf words given job program → IsRefusal words given refusal → ⊥
case_not_refused one law words given job program refusal asked (turned_away place away is) = stays words place (asked.options, asked.command.accepted) away
case_not_refused one law words given job program refusal asked (uncompiled bytes o part why) =
    part_or_case one words given bytes asked.part_name asked.name o asked.options part asked.command
case_not_refused one law words given job program refusal asked (unjudged part other o command why) =
    judged_or_refused law (given asked.part_name 0) (given asked.name 1) asked.options job refusal asked.part
    (subst (λ text. length text ≤ LONGEST_PROGRAM) asked.program_is asked.short)
    (of_one_pair one words given asked.part_name part asked.name other asked.options o refusal asked.command command why)

-- a part is generated from each seed
pub make_not_refused : SaysOneThing → (words : List (List ℕ)) (given : List ℕ → ℕ → List ℕ) (seed : ℕ) (refusal : Refusal) → IsMake words seed
    → IsRefusal words given refusal → ⊥
make_not_refused one words given seed refusal make (turned_away place away is) = stays words place (make.options, make.accepted) away
make_not_refused one words given seed refusal make (uncompiled bytes o part why) = part_or_make one words given bytes o seed part make
make_not_refused one words given seed refusal make (unjudged part other o command why) = case_or_make one words part other o seed command make

-- How a command ends.

-- what words that name a file ask for is known where the files tell their content
pub tells_of : SaysOneThing → (words : List (List ℕ)) (name : List ℕ) (more : List (List ℕ)) (o : Options) (files : FilesState) → IsCommand words o → o.files ≡ name ∷ more
    → IsKnown words files → IsTrue files.tells
tells_of law words name more o files accepted some (inl tells) = tells
tells_of law words name more o files accepted some (inr none) = absurd (names_some law words name more o accepted some none)

-- the cause of a refusal is one in the words and the files, or of memory or a device
pub refusal_or_device : (words : List (List ℕ)) (before after : FilesState) (refusal : Refusal)
    → IsKnown words before → Explains words before after refusal → IsRefusal words before.given refusal ⊎ IsOfDevices (status_of refusal)
refusal_or_device words before after (refused.Word place) known why = inl (turned_away place why.0 refl)
refusal_or_device words before after refused.NotRead known why = inr (inl refl)
refusal_or_device words before after refused.NoMemory known why = inr (inr (inr refl))
refusal_or_device words before after refused.TooLong known why = inl (why.2 known)
refusal_or_device words before after (refused.Uncovered feature cell) known why = inl (why.1.2 known)
refusal_or_device words before after refusal known why = inl (why.2 known)
