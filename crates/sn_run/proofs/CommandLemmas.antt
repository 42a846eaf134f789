-- What words ask for.
use Rattle.std.proofs.Common.{ℕ, ◌≡◌, ◌⊎◌, inl, inr, List, [], ◌∷◌, length, refl, sym, ap, subst, ◌∙◌, arith}
use Rattle.sn_words.specs.Command.{IsAccepted, IsCommand, TakesFiles, TakesSeed}
use Rattle.sn_words.specs.CommandLaws.{SaysOneThing}
use Rattle.sn_words.specs.Options.{Options}
use Rattle.sn_words.specs.declared.options.Command.{Command}
use Rattle.sn_words.specs.declared.options.Command.TheVariants.{Compile, Verify, Report, Make, Trial}
use Rattle.sn_run.specs.Answer.{Answer, Planned, Judged, Counted, Made}
use Rattle.sn_run.specs.Command.{AsksFor, AsksForCounts, IsMake, IsOfFile, IsOfSeed, IsVerify, NamesNoFile}
use Rattle.sn_run.specs.CommandLaws.{AcceptedWordsAsk, OneCommand, TrialsHaveNoOptions}

-- The files that a command names.

one_file : (files : List (List ℕ)) → length files ≡ 1 → (part : List ℕ) × (files ≡ part ∷ [])
one_file [] e = absurd (omega arith)
one_file (part ∷ []) e = (part, refl)
one_file (part ∷ other ∷ more) e = absurd (omega arith)

two_files : (files : List (List ℕ)) → length files ≡ 2 → (part : List ℕ) × (program : List ℕ) × (files ≡ part ∷ program ∷ [])
two_files [] e = absurd (omega arith)
two_files (part ∷ []) e = absurd (omega arith)
two_files (part ∷ program ∷ []) e = (part, program, refl)
two_files (part ∷ program ∷ other ∷ more) e = absurd (omega arith)

-- Accepted words ask for one thing.

abbrev pub AsksSome : List (List ℕ) → Options → Type 0
AsksSome words o =
    ((part : List ℕ) × IsOfFile words part o) ⊎ (IsOfSeed words o ⊎ (((part : List ℕ) × (program : List ℕ) × IsVerify words part program o) ⊎ IsMake words o.seed))

asks_by_file : (words : List (List ℕ)) (o : Options) (command : Command) (files : List (List ℕ)) → IsCommand words o → TakesFiles command (length files)
    → o.command ≡ command → o.files ≡ files → AsksSome words o
asks_by_file words o Compile files accepted takes is same =
    let (part, one) = one_file files takes in inl (part, record { accepted = accepted; plans = inl is; file = same ∙ one })
asks_by_file words o Report files accepted takes is same =
    let (part, one) = one_file files takes in inl (part, record { accepted = accepted; plans = inr is; file = same ∙ one })
asks_by_file words o Verify files accepted takes is same =
    let (part, program, two) = two_files files takes in inr (inr (inl (part, program, record { accepted = accepted; verifies = is; file = same ∙ two })))
asks_by_file words o Make files accepted takes is same = absurd takes
asks_by_file words o Trial files accepted takes is same = absurd takes

asks_by_seed : (words : List (List ℕ)) (o : Options) (command : Command) → IsCommand words o → TakesSeed command → o.command ≡ command → AsksSome words o
asks_by_seed words o Compile accepted takes is = absurd takes
asks_by_seed words o Report accepted takes is = absurd takes
asks_by_seed words o Verify accepted takes is = absurd takes
asks_by_seed words o Make accepted takes is = inr (inr (inr (record { options = o; accepted = accepted; makes = is; seed_is = refl })))
asks_by_seed words o Trial accepted takes is = inr (inl (record { accepted = accepted; tries = is }))

pub accepted_words_ask : AcceptedWordsAsk
accepted_words_ask words o (inl h) =
    asks_by_file words o h.command h.files (inl h) h.takes (ap (λ (q : Options). q.command) h.says) (ap (λ (q : Options). q.files) h.says)
accepted_words_ask words o (inr h) = asks_by_seed words o h.command (inr h) h.takes (ap (λ (q : Options). q.command) h.says)

-- Words ask for what one command gives.

-- words say one thing
pub one_request : SaysOneThing → (words : List (List ℕ)) (o p : Options) → IsCommand words o → IsCommand words p → p ≡ o
one_request law words o p first second = law words p o second first

pub files_of : (o p : Options) → p ≡ o → p.files ≡ o.files
files_of o p same = ap (λ (q : Options). q.files) same

pub command_of : (o p : Options) → p ≡ o → p.command ≡ o.command
command_of o p same = ap (λ (q : Options). q.command) same

pub one_command : SaysOneThing → OneCommand
one_command law words some other first second =
    sym first.asks ∙ sym (command_of first.options second.options (one_request law words first.options second.options first.accepted second.accepted)) ∙ second.asks

-- Words that name no file.

no_file : (words : List (List ℕ)) (o : Options) (c : Command) → ((n : ℕ) → ¬ TakesFiles c n) → IsCommand words o → o.command ≡ c → o.files ≡ []
no_file words o c none (inl h) is =
    absurd (none (length h.files) (subst (λ (d : Command). TakesFiles d (length h.files)) (sym (ap (λ (q : Options). q.command) h.says) ∙ is) h.takes))
no_file words o c none (inr h) is = ap (λ (q : Options). q.files) h.says

pub make_alone : (words : List (List ℕ)) → AsksFor words Make → NamesNoFile words
make_alone words asked =
    record { options = asked.options; accepted = asked.accepted; none = no_file words asked.options Make (λ _ takes. takes) asked.accepted asked.asks }

pub trial_alone : (words : List (List ℕ)) (o : Options) → IsOfSeed words o → NamesNoFile words
trial_alone words o asked = record { options = o; accepted = asked.accepted; none = no_file words o Trial (λ _ takes. takes) asked.accepted asked.tries }

-- Trials.

trial_takes_no_file : (c : Command) (n : ℕ) → TakesFiles c n → c ≡ Trial → ⊥
trial_takes_no_file c n takes is = subst (λ (d : Command). TakesFiles d n) is takes

pub trials_have_no_options : TrialsHaveNoOptions
trials_have_no_options words o asked = elim asked.accepted [
  | inl h ↦ absurd (trial_takes_no_file h.command (length h.files) h.takes (sym (ap (λ (q : Options). q.command) h.says) ∙ asked.tries))
  | inr h ↦ (
    ap (λ (q : Options). q.pitch) h.says,
    ap (λ (q : Options). q.raw) h.says,
    ap (λ (q : Options). q.sets) h.says,
    trial_alone words o asked,
  )
]

-- Which commands ask for what.

pub file_accepted : (words : List (List ℕ)) (name : List ℕ) (o : Options) → IsOfFile words name o → IsAccepted words
file_accepted words name o command = (o, command.accepted)

-- of what sort the answer of a command is
abbrev pub sort_of : Command → ℕ
sort_of Compile = 0
sort_of Verify = 1
sort_of Report = 2
sort_of Trial = 2
sort_of Make = 3

-- whether the command plans a part, or does something else
abbrev pub plans : Command → ℕ
plans Compile = 0
plans Report = 0
plans Trial = 1
plans Verify = 2
plans Make = 3

-- the words ask for a command of this number
abbrev pub IsNumbered : (Command → ℕ) → List (List ℕ) → ℕ → Type 0
IsNumbered number words n = (c : Command) × AsksFor words c × (number c ≡ n)

pub one_number : SaysOneThing → (number : Command → ℕ) (words : List (List ℕ)) (n m : ℕ) → IsNumbered number words n → IsNumbered number words m → n ≡ m
one_number law number words n m (c, asks, is) (d, asks_too, is_too) = sym is ∙ ap number (one_command law words c d asks asks_too) ∙ is_too

pub file_number : (words : List (List ℕ)) (name : List ℕ) (o : Options) → IsOfFile words name o → IsNumbered plans words 0
file_number words name o command = elim command.plans [
  | inl is ↦ (Compile, record { options = o; accepted = command.accepted; asks = is }, refl)
  | inr is ↦ (Report, record { options = o; accepted = command.accepted; asks = is }, refl)
]

pub seed_number : (words : List (List ℕ)) (o : Options) → IsOfSeed words o → IsNumbered plans words 1
seed_number words o command = (Trial, record { options = o; accepted = command.accepted; asks = command.tries }, refl)

pub asks_verify : (words : List (List ℕ)) (part name : List ℕ) (o : Options) → IsVerify words part name o → AsksFor words Verify
asks_verify words part name o command = record { options = o; accepted = command.accepted; asks = command.verifies }

pub verify_number : (words : List (List ℕ)) (part name : List ℕ) (o : Options) → IsVerify words part name o → IsNumbered plans words 2
verify_number words part name o command = (Verify, asks_verify words part name o command, refl)

pub asks_make : (words : List (List ℕ)) (seed : ℕ) → IsMake words seed → AsksFor words Make
asks_make words seed command = record { options = command.options; accepted = command.accepted; asks = command.makes }

pub make_number : (words : List (List ℕ)) (seed : ℕ) → IsMake words seed → IsNumbered plans words 3
make_number words seed command = (Make, asks_make words seed command, refl)

-- words that name a file do not name none
pub names_some : SaysOneThing → (words : List (List ℕ)) (name : List ℕ) (more : List (List ℕ)) (o : Options) → IsCommand words o → o.files ≡ name ∷ more
    → ¬ NamesNoFile words
names_some law words name more o accepted files none =
    let same = files_of o none.options (one_request law words o none.options accepted none.accepted) in
    let e : 0 ≡ length (name ∷ more) = ap length (sym none.none ∙ same ∙ files) in
    absurd (omega (arith, e))

-- Answers.

-- of what sort an answer is
abbrev pub answer_sort : Answer → ℕ
answer_sort (Planned job plan) = 0
answer_sort (Judged job program verdict) = 1
answer_sort (Counted job counts) = 2
answer_sort (Made seed) = 3

pub counts_sort : (words : List (List ℕ)) → AsksForCounts words → IsNumbered sort_of words 2
counts_sort words (inl report) = (Report, report, refl)
counts_sort words (inr trial) = (Trial, trial, refl)

-- words ask for the part of one seed
pub same_seed : SaysOneThing → (words : List (List ℕ)) (m n : ℕ) → IsMake words m → IsMake words n → m ≡ n
same_seed law words m n first second =
    let same = one_request law words first.options second.options first.accepted second.accepted in
    sym first.seed_is ∙ sym (ap (λ (o : Options). o.seed) same) ∙ second.seed_is
