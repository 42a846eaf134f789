-- What is found for the words of a command, why nothing is, and what is read for it.
use Rattle.std.proofs.Common.{ℕ, ◌≡◌, ◌≢◌, ◌+◌, ◌≤◌, ◌<◌, ◌⊎◌, inl, inr, List, [], ◌∷◌, length, Some, IsTrue, refl, sym, ap, subst, ◌∙◌, arith}
use Rattle.std.specs.Prelude.{slice_get}
use Rattle.std.specs.List.{All}
use Rattle.std.proofs.lemmas.List.Elements.{All-head, All-tail}
use Rattle.sn_io.specs.Count.{count_after}
use Rattle.sn_io.specs.Files.{FilesState}
use Rattle.sn_open.specs.declared.verdict.Verdict.{Verdict}
use Rattle.sn_words.specs.Command.{IsCommand}
use Rattle.sn_words.specs.CommandLaws.{SaysOneThing}
use Rattle.sn_words.specs.Options.{Options}
use Rattle.sn_words.specs.declared.options.Command.{Command}
use Rattle.sn_words.specs.declared.options.Command.TheVariants.{Compile, Verify, Report, Make, Trial}
use Rattle.sn_report.specs.declared.counts.Counts.{Counts}
use Rattle.sn_run.specs.Answer.{generated_text}
use Rattle.sn_run.specs.declared.compile.Planned.{Planned}
use Rattle.sn_message.specs.declared.refusal.Refusal.{Refusal}
use Rattle.sn_message.specs.declared.refusal.Refusal.TheVariants as refused
use Rattle.sn_run.specs.declared.reading.TheConstants.{LONGEST}
use Rattle.sn_run.specs.Command.{AsksForPlan, IsOfFile, IsOfSeed, IsVerify}
use Rattle.sn_run.specs.Found.{AreCountsWith, IsGoodPlan, IsMemoryOr, IsVerdictOf, IsRefusedCase, ReadsBoth, plan_of}
use Rattle.sn_run.specs.Outcome.{Explains, IsJudged, IsPrepared, IsReadOf, IsRefusedFile, IsReported, ReadsOnce, most_bytes, most_reads}
use Rattle.sn_run.specs.Outcome.IsPartOf.{of_file, of_seed}
use Rattle.sn_run.specs.Outcome.IsPartWith.{of_file_read, of_seed_made}
use Rattle.sn_run.specs.Outcome.IsRefusal.{uncompiled, unjudged}
use Rattle.sn_run.specs.Part.{IsCompiledPart, IsUncompiledPart}
use Rattle.sn_run.specs.Reading.{ReadsFile}
use Rattle.sn_run.proofs.CommandLemmas.{accepted_words_ask, command_of, files_of, names_some, one_request}
use Rattle.sn_run.proofs.LoadLemmas.{as_told}
use Rattle.sn_run.proofs.OutcomeLemmas.{part_or_case, tells_of}

-- What the words ask for.

other_command : (o : Options) (c : Command) → (o.command ≡ Compile) ⊎ (o.command ≡ Report) → o.command ≡ c → Compile ≢ c → Report ≢ c → ⊥
other_command o c (inl is) other not_first not_second = not_first (sym is ∙ other)
other_command o c (inr is) other not_first not_second = not_second (sym is ∙ other)

-- by its command
pub asks_file : SaysOneThing → (words : List (List ℕ)) (o : Options) → IsCommand words o → (o.command ≡ Compile) ⊎ (o.command ≡ Report) → (part : List ℕ) × IsOfFile words part o
asks_file law words o accepted is = elim (accepted_words_ask words o accepted) [
  | inl file ↦ file
  | inr (inl seed) ↦ absurd (other_command o Trial is seed.tries (λ e. cc) (λ e. cc))
  | inr (inr (inl (part, program, verify))) ↦ absurd (other_command o Verify is verify.verifies (λ e. cc) (λ e. cc))
  | inr (inr (inr make)) ↦ absurd (other_command o Make is (command_of make.options o (law words o make.options accepted make.accepted) ∙ make.makes) (λ e. cc) (λ e. cc))
]

pub asks_case : SaysOneThing → (words : List (List ℕ)) (o : Options) → IsCommand words o → o.command ≡ Verify → (part : List ℕ) × (program : List ℕ) × IsVerify words part program o
asks_case law words o accepted is = elim (accepted_words_ask words o accepted) [
  | inl (part, file) ↦ absurd (other_command o Verify file.plans is (λ e. cc) (λ e. cc))
  | inr (inl seed) ↦ let e : Trial ≡ Verify = sym seed.tries ∙ is in absurd (cc)
  | inr (inr (inl verify)) ↦ verify
  | inr (inr (inr make)) ↦
      let e : Make ≡ Verify = sym make.makes ∙ sym (command_of make.options o (law words o make.options accepted make.accepted)) ∙ is in absurd (cc)
]

-- a command has a first file, and the one that is verified a second one
pub some_file : SaysOneThing → (words : List (List ℕ)) (files : List (List ℕ)) (o : Options) → IsCommand words o → (o.command ≡ Compile) ⊎ (o.command ≡ Report) → files ≡ o.files
    → 0 < length files
some_file law words files o accepted is same = let (part, file) = asks_file law words o accepted is in omega (arith, ap length (same ∙ file.file))

pub two_files : SaysOneThing → (words : List (List ℕ)) (files : List (List ℕ)) (o : Options) → IsCommand words o → o.command ≡ Verify → files ≡ o.files → 1 < length files
two_files law words files o accepted is same = let (part, program, verify) = asks_case law words o accepted is in omega (arith, ap length (same ∙ verify.file))

first_of : (files : List (List ℕ)) (first name : List ℕ) (more : List (List ℕ)) → files ≡ first ∷ more → slice_get files 0 ≡ Some name → first ≡ name
first_of [] first name more e f = absurd (cc)
first_of (other ∷ later) first name more e f = cc

second_of : (files : List (List ℕ)) (first second name : List ℕ) → files ≡ first ∷ second ∷ [] → slice_get files 1 ≡ Some name → second ≡ name
second_of [] first second name e f = absurd (cc)
second_of (other ∷ []) first second name e f = absurd (cc)
second_of (other ∷ another ∷ later) first second name e f = cc

pub file_named : SaysOneThing → (words : List (List ℕ)) (files : List (List ℕ)) (name : List ℕ) (o : Options) → IsCommand words o
    → (o.command ≡ Compile) ⊎ (o.command ≡ Report) → files ≡ o.files → slice_get files 0 ≡ Some name → IsOfFile words name o
file_named law words files name o accepted is same has =
    let (part, file) = asks_file law words o accepted is in
    subst (λ n. IsOfFile words n o) (first_of files part name [] (same ∙ file.file) has) file

pub verify_named : SaysOneThing → (words : List (List ℕ)) (files : List (List ℕ)) (name other : List ℕ) (o : Options) → IsCommand words o → o.command ≡ Verify → files ≡ o.files
    → slice_get files 0 ≡ Some name → slice_get files 1 ≡ Some other → IsVerify words name other o
verify_named law words files name other o accepted is same has has_too =
    let (part, program, verify) = asks_case law words o accepted is in
    subst (λ n. IsVerify words n other o) (first_of files part name (program ∷ []) (same ∙ verify.file) has)
    (subst (λ n. IsVerify words part n o) (second_of files part program other (same ∙ verify.file) has_too) verify)

-- What was found.

pub prepared : (words : List (List ℕ)) (files : FilesState) (name : List ℕ) (o : Options) (planned : Planned) → IsOfFile words name o → o.command ≡ Compile
    → IsReadOf files name (λ bytes. IsCompiledPart bytes o planned.job) → IsGoodPlan planned → IsPrepared words files planned.job (plan_of planned)
prepared words files name o planned command is read good = record {
  asked = record { options = o; accepted = command.accepted; asks = is };
  loaded = record { options = o; part = of_file_read name command read; rule = good.rule };
  planned = good.plan;
  good = good.good;
}

pub reported : (words : List (List ℕ)) (files : FilesState) (name : List ℕ) (o : Options) (counts : Counts) → IsOfFile words name o → o.command ≡ Report
    → (is : AreCountsWith (λ job. IsReadOf files name (λ bytes. IsCompiledPart bytes o job)) counts) → IsReported words files is.0 counts
reported words files name o counts command is (job, read, rule, counted) = record {
  asked = inl (record { options = o; accepted = command.accepted; asks = is });
  loaded = record { options = o; part = of_file_read name command read; rule = rule };
  counted = counted;
}

pub tried : (words : List (List ℕ)) (files : FilesState) (o : Options) (counts : Counts) → IsOfSeed words o → (is : AreCountsWith (IsCompiledPart (generated_text o.seed) o) counts)
    → IsReported words files is.0 counts
tried words files o counts command (job, compiled, rule, counted) = record {
  asked = inr (record { options = o; accepted = command.accepted; asks = command.tries });
  loaded = record { options = o; part = of_seed_made command compiled; rule = rule };
  counted = counted;
}

pub judged : (words : List (List ℕ)) (files : FilesState) (part name : List ℕ) (o : Options) (verdict : Verdict) → IsVerify words part name o
    → (is : IsVerdictOf files part name o verdict) → IsJudged words files is.job is.program verdict
judged words files part name o verdict command is = record {
  part_name = part;
  name = name;
  options = o;
  command = command;
  read = is.read;
  rule = is.rule;
  content = is.content;
  short = is.short;
  judged = is.judged;
}

-- Why nothing was found.

more : (count n : ℕ) → count ≤ count + n
more count n = omega arith

plan_of_file : (words : List (List ℕ)) (name : List ℕ) (o : Options) → IsOfFile words name o → AsksForPlan words
plan_of_file words name o command = elim command.plans [
  | inl is ↦ inl (record { options = o; accepted = command.accepted; asks = is })
  | inr is ↦ inr (inl (record { options = o; accepted = command.accepted; asks = is }))
]

plan_of_seed : (words : List (List ℕ)) (o : Options) → IsOfSeed words o → AsksForPlan words
plan_of_seed words o command = inr (inr (record { options = o; accepted = command.accepted; asks = command.tries }))

pub explains_file : SaysOneThing → (words : List (List ℕ)) (before after : FilesState) (name : List ℕ) (o : Options) (refusal : Refusal) → IsOfFile words name o
    → after.opens ≡ count_after before.opens 1 → IsRefusedFile before after name (λ bytes. IsUncompiledPart bytes o) refusal → Explains words before after refusal
explains_file law words before after name o (refused.Word place) command opens why = absurd why
explains_file law words before after name o refused.NotRead command opens why =
    ((o, command.accepted), names_some law words name [] o command.accepted command.file, why)
explains_file law words before after name o refused.NoMemory command opens why = inl ((o, command.accepted), omega (arith, opens))
explains_file law words before after name o refused.TooLong command opens why = (
  (o, command.accepted),
  (λ part program p verify. absurd (part_or_case law words before.given (before.given name 0) part program o p (of_file name command refl) verify)),
  (λ known.
      uncompiled (before.given name 0) o (of_file name command refl) (why (tells_of law words name [] o before command.accepted command.file known))),
)
explains_file law words before after name o (refused.Uncovered feature cell) command opens why = (
  plan_of_file words name o command,
  (
    (o, command.accepted),
    omega (arith, opens),
    (λ known.
        uncompiled (before.given name 0) o (of_file name command refl)
        (as_told before name (λ bytes. IsUncompiledPart bytes o (refused.Uncovered feature cell))
        (tells_of law words name [] o before command.accepted command.file known) why)),
  ),
)
explains_file law words before after name o refusal command opens why = (
  (o, command.accepted),
  omega (arith, opens),
  (λ known.
      uncompiled (before.given name 0) o (of_file name command refl) (why (tells_of law words name [] o before command.accepted command.file known))),
)

pub explains_verify : SaysOneThing → (words : List (List ℕ)) (before after : FilesState) (part name : List ℕ) (o : Options) (refusal : Refusal) → IsVerify words part name o
    → IsRefusedCase before after part name o refusal → Explains words before after refusal
explains_verify law words before after part name o (refused.Word place) command why = absurd why
explains_verify law words before after part name o refused.NotRead command why =
    ((o, command.accepted), names_some law words part (name ∷ []) o command.accepted command.file, why)
explains_verify law words before after part name o refused.NoMemory command why = inl ((o, command.accepted), why)
explains_verify law words before after part name o refused.TooLong command why = (
  (o, command.accepted),
  (λ _ _ _ _. why.0),
  (λ known. unjudged part name o command (why.1 (tells_of law words part (name ∷ []) o before command.accepted command.file known))),
)
explains_verify law words before after part name o (refused.Uncovered feature cell) command why = absurd why
explains_verify law words before after part name o refusal command why = (
  (o, command.accepted),
  why.0,
  (λ known. unjudged part name o command (why.1 (tells_of law words part (name ∷ []) o before command.accepted command.file known))),
)

uncounted : SaysOneThing → (words : List (List ℕ)) (files : FilesState) (o : Options) (refusal : Refusal) → IsOfSeed words o → IsUncompiledPart (generated_text o.seed) o refusal
    → Explains words files files refusal
uncounted law words files o (refused.Word place) command why = absurd why
uncounted law words files o refused.NotRead command why = absurd why
uncounted law words files o refused.NoMemory command why = absurd why
uncounted law words files o refused.TooLong command why = (
  (o, command.accepted),
  (λ part program p verify. absurd (part_or_case law words files.given (generated_text o.seed) part program o p (of_seed command refl) verify)),
  (λ _. uncompiled (generated_text o.seed) o (of_seed command refl) why),
)
uncounted law words files o (refused.Uncovered feature cell) command why =
    (plan_of_seed words o command, ((o, command.accepted), more files.opens 1, (λ _. uncompiled (generated_text o.seed) o (of_seed command refl) why)))
uncounted law words files o refusal command why =
    ((o, command.accepted), more files.opens 1, (λ _. uncompiled (generated_text o.seed) o (of_seed command refl) why))

pub explains_trial : SaysOneThing → (words : List (List ℕ)) (files : FilesState) (o : Options) (refusal : Refusal) → IsOfSeed words o
    → IsMemoryOr (IsUncompiledPart (generated_text o.seed) o) refusal → Explains words files files refusal
explains_trial law words files o refusal command (inl memory) = subst (Explains words files files) (sym memory) (inr refl)
explains_trial law words files o refusal command (inr why) = uncounted law words files o refusal command why

-- What was read.

stays : (count n : ℕ) → count ≤ count_after count n
stays count n = omega arith

pub reads_nothing : (words : List (List ℕ)) (files : FilesState) → ReadsOnce words files files
reads_nothing words files = record {
  refused = λ _. refl;
  quiet = λ _. refl;
  opens = λ o _. more files.opens (length o.files);
  reads = λ o _. more files.reads (most_reads o.command);
  bytes = λ o _. stays files.bytes (most_bytes o.command);
  part_reads = λ _ _. more files.reads (LONGEST + 2);
  part_bytes = λ _ _. stays files.bytes (LONGEST + 1);
  no_strange = λ _ o _ _. refl;
}

-- of a part, whether its program is asked for or its counts
part_reads : (c : Command) → (c ≡ Compile) ⊎ (c ≡ Report) → most_reads c ≡ LONGEST + 2
part_reads c (inl is) = ap most_reads is
part_reads c (inr is) = ap most_reads is

part_bytes : (c : Command) → (c ≡ Compile) ⊎ (c ≡ Report) → most_bytes c ≡ LONGEST + 1
part_bytes c (inl is) = ap most_bytes is
part_bytes c (inr is) = ap most_bytes is

pub reads_once_file : SaysOneThing → (words : List (List ℕ)) (before after : FilesState) (name : List ℕ) (o : Options) → IsOfFile words name o
    → ReadsFile before after name (LONGEST + 1) → ReadsOnce words before after
reads_once_file law words before after name o command reads = record {
  refused = λ not. absurd (not (o, command.accepted));
  quiet = λ none. absurd (names_some law words name [] o command.accepted command.file none);
  opens = λ p asked. omega (arith, reads.opens, ap length (files_of o p (one_request law words o p command.accepted asked) ∙ command.file));
  reads = λ p asked.
      subst (λ n. after.reads ≤ before.reads + n)
      (sym (part_reads o.command command.plans) ∙ ap most_reads (sym (command_of o p (one_request law words o p command.accepted asked))))
      (omega (arith, reads.reads));
  bytes = λ p asked.
      subst (λ n. after.bytes ≤ count_after before.bytes n)
      (sym (part_bytes o.command command.plans) ∙ ap most_bytes (sym (command_of o p (one_request law words o p command.accepted asked))))
      reads.bytes.within;
  part_reads = λ _ _. omega (arith, reads.reads);
  part_bytes = λ _ _. reads.bytes.within;
  no_strange = λ told p asked all.
      reads.no_strange told
      (All-head (λ n. IsTrue (before.has_file n)) name []
      (subst (All (λ n. IsTrue (before.has_file n))) (files_of o p (one_request law words o p command.accepted asked) ∙ command.file) all));
}

pub reads_once_verify : SaysOneThing → (words : List (List ℕ)) (before after : FilesState) (part name : List ℕ) (o : Options) → IsVerify words part name o
    → ReadsBoth before after part name → ReadsOnce words before after
reads_once_verify law words before after part name o command reads = record {
  refused = λ not. absurd (not (o, command.accepted));
  quiet = λ none. absurd (names_some law words part (name ∷ []) o command.accepted command.file none);
  opens = λ p asked. omega (arith, reads.opens, ap length (files_of o p (one_request law words o p command.accepted asked) ∙ command.file));
  reads = λ p asked.
      subst (λ c. after.reads ≤ before.reads + most_reads c) (sym (command_of o p (one_request law words o p command.accepted asked) ∙ command.verifies))
      reads.reads;
  bytes = λ p asked.
      subst (λ c. after.bytes ≤ count_after before.bytes (most_bytes c)) (sym (command_of o p (one_request law words o p command.accepted asked) ∙ command.verifies))
      reads.bytes;
  part_reads = reads.part_reads;
  part_bytes = reads.part_bytes;
  no_strange = λ told p asked all.
      let both = subst (All (λ n. IsTrue (before.has_file n))) (files_of o p (one_request law words o p command.accepted asked) ∙ command.file) all in
      reads.no_strange told (All-head (λ n. IsTrue (before.has_file n)) part (name ∷ []) both)
      (All-head (λ n. IsTrue (before.has_file n)) name [] (All-tail (λ n. IsTrue (before.has_file n)) part (name ∷ []) both));
}
