-- What was read of a part, and what follows of the whole of it.
use Rattle.std.proofs.Common.{ℕ, ◌≡◌, ◌≢◌, ◌+◌, ◌≤◌, ◌<◌, ◌⊎◌, inl, inr, min, List, length, take, sym, ap, subst, ◌∙◌, refl, arith, IsTrue, Result, Ok, Err, IfOk, IfErr}
use Rattle.std.proofs.lemmas.List.{take_all, length-take}
use Rattle.sn_io.specs.Count.{count_after}
use Rattle.sn_io.specs.Files.{FilesState}
use Rattle.sn_open.specs.Reach.{IsReachable}
use Rattle.sn_outline.specs.Job.{Job}
use Rattle.sn_outline.specs.declared.job.StepJob.{StepJob}
use Rattle.sn_link.specs.declared.moves.Move.{Move}
use Rattle.sn_link.specs.Plan.{IsPlan}
use Rattle.sn_link.specs.PlanLaws.{OnePlan}
use Rattle.sn_words.specs.Options.{Options}
use Rattle.sn_message.specs.declared.refusal.Refusal.{Refusal}
use Rattle.sn_message.specs.declared.refusal.Refusal.TheVariants as refused
use Rattle.sn_run.specs.declared.reading.TheConstants.{LONGEST}
use Rattle.sn_run.specs.Part.{HasShortProgram, IsCompiledPart, IsRefusedPart, IsSoundPart, IsUncompiledPart}
use Rattle.sn_program.specs.Text.{program_text}
use Rattle.sn_run.specs.Outcome.{HasRisenBy, IsRefusedFile, IsReadOf}
use Rattle.sn_run.specs.Reading.{IsUnread}
use Rattle.sn_run.specs.declared.compile.Planned.{Planned}
use Rattle.sn_run.specs.Found.{IsMemoryOr, IsPlannedFor, LeavesUncompiled}
use Rattle.sn_raster.specs.Grid.{FitsGrid}

-- What was read, and the whole.

-- a text that is not cut short by the limit is the whole
whole : (n : ℕ) (bytes given : List ℕ) → bytes ≡ take (n + 1) given → length bytes ≤ n → given ≡ bytes
whole n bytes given read short =
    let size : length bytes ≡ min (n + 1) (length given) = ap length read ∙ length-take (n + 1) given in
    sym (read ∙ take_all (n + 1) given (omega arith))

longer : (n : ℕ) (bytes given : List ℕ) → bytes ≡ take (n + 1) given → n < length bytes → n < length given
longer n bytes given read long =
    let size : length bytes ≡ min (n + 1) (length given) = ap length read ∙ length-take (n + 1) given in
    omega arith

-- what holds of short bytes that were read is so of the whole
pub if_read : {A : Type 0} (files : FilesState) (name bytes : List ℕ) (P : A → List ℕ → Type 0) (r : Result A Refusal)
    → (IsTrue files.tells → bytes ≡ take (LONGEST + 1) (files.given name 0)) → ((x : A) → P x bytes → length bytes ≤ LONGEST)
    → IfOk r (λ x. P x bytes) → IfOk r (λ x. IsReadOf files name (P x))
if_read files name bytes P (Ok x) read short holds = record {
  bytes = bytes;
  content = λ told. sym (whole LONGEST bytes (files.given name 0) (read told) (short x holds));
  holds = holds;
}
if_read files name bytes P (Err refusal) read short holds = tt

-- the bytes of a part that is refused for another reason are not too long
short_unless_long : (bytes : List ℕ) (o : Options) (refusal : Refusal) → refusal ≢ refused.TooLong → IsRefusedPart bytes o refusal → length bytes ≤ LONGEST
short_unless_long bytes o refused.TooLong other why = absurd (other refl)
short_unless_long bytes o (refused.Text fault) other why = why.0
short_unless_long bytes o (refused.Model fault) other why = why.1.short
short_unless_long bytes o (refused.Reference fault) other why = why.1.file_is.short
short_unless_long bytes o (refused.Job fault) other why = why.1.model.file_is.short
short_unless_long bytes o refusal other why = absurd why

-- a refusal of what was read that is of another reason is one of the whole
of_whole : (bytes given : List ℕ) (o : Options) (refusal : Refusal) → bytes ≡ take (LONGEST + 1) given → refusal ≢ refused.TooLong
    → IsRefusedPart bytes o refusal → IsRefusedPart given o refusal
of_whole bytes given o refusal read other why =
    subst (λ text. IsRefusedPart text o refusal) (sym (whole LONGEST bytes given read (short_unless_long bytes o refusal other why))) why

refused_part_whole : (before after : FilesState) (name bytes : List ℕ) (o : Options) (refusal : Refusal)
    → (IsTrue before.tells → bytes ≡ take (LONGEST + 1) (before.given name 0)) → IsRefusedPart bytes o refusal
    → IsRefusedFile before after name (λ text. IsRefusedPart text o) refusal
refused_part_whole before after name bytes o (refused.Word place) read why = why
refused_part_whole before after name bytes o refused.NotRead read why = absurd why
refused_part_whole before after name bytes o refused.NoMemory read why = tt
refused_part_whole before after name bytes o (refused.Uncovered feature cell) read why = absurd why
refused_part_whole before after name bytes o refused.TooLong read why = λ told. longer LONGEST bytes (before.given name 0) (read told) why
refused_part_whole before after name bytes o refusal read why = λ told. of_whole bytes (before.given name 0) o refusal (read told) (λ e. cc) why

refused_whole : (before after : FilesState) (name bytes : List ℕ) (o : Options) (refusal : Refusal)
    → (IsTrue before.tells → bytes ≡ take (LONGEST + 1) (before.given name 0)) → (refusal ≡ refused.NoMemory) ⊎ IsRefusedPart bytes o refusal
    → IsRefusedFile before after name (λ text. IsRefusedPart text o) refusal
refused_whole before after name bytes o refusal read (inl e) = subst (IsRefusedFile before after name (λ text. IsRefusedPart text o)) (sym e) tt
refused_whole before after name bytes o refusal read (inr why) = refused_part_whole before after name bytes o refusal read why

pub refused_if_read : {A : Type 0} (before after : FilesState) (name bytes : List ℕ) (o : Options) (r : Result A Refusal)
    → (IsTrue before.tells → bytes ≡ take (LONGEST + 1) (before.given name 0)) → IfErr r (λ refusal. (refusal ≡ refused.NoMemory) ⊎ IsRefusedPart bytes o refusal)
    → IfErr r (IsRefusedFile before after name (λ text. IsRefusedPart text o))
refused_if_read before after name bytes o (Ok x) read why = tt
refused_if_read before after name bytes o (Err refusal) read why = refused_whole before after name bytes o refusal read why

-- a file that was not read
pub unread_file : (before after : FilesState) (name : List ℕ) (P : List ℕ → Refusal → Type 0) (refusal : Refusal) → IsUnread before after refusal
    → IsRefusedFile before after name P refusal
unread_file before after name P refused.NotRead why = why
unread_file before after name P refused.NoMemory why = tt
unread_file before after name P refusal why = absurd why

-- more was read than a part may have
pub long_read : (before after n : ℕ) → after ≡ count_after before n → LONGEST < n → HasRisenBy before after (LONGEST + 1)
long_read before after n is long = omega arith

long_if_refused : (before after n : ℕ) (bytes : List ℕ) (o : Options) → n ≡ length bytes → after ≡ count_after before n
    → (refused.TooLong ≡ refused.NoMemory) ⊎ IsRefusedPart bytes o refused.TooLong → HasRisenBy before after (LONGEST + 1)
long_if_refused before after n bytes o same is (inl memory) = absurd (cc)
long_if_refused before after n bytes o same is (inr why) = long_read before after n is (omega (arith, same, why))

pub long_if_read : {A : Type 0} (before after n : ℕ) (bytes : List ℕ) (o : Options) (r : Result A Refusal) → n ≡ length bytes → after ≡ count_after before n
    → IfErr r (λ refusal. (refusal ≡ refused.NoMemory) ⊎ IsRefusedPart bytes o refusal) → r ≡ Err refused.TooLong → HasRisenBy before after (LONGEST + 1)
long_if_read before after n bytes o r same is why long =
    long_if_refused before after n bytes o same is
    (subst (λ q. IfErr q (λ refusal. (refusal ≡ refused.NoMemory) ⊎ IsRefusedPart bytes o refusal)) long why)

-- A part that was loaded.

-- a part that was read of files that tell their content is the part that they give
pub as_told : (files : FilesState) (name : List ℕ) (P : List ℕ → Type 0) → IsTrue files.tells → IsReadOf files name P → P (files.given name 0)
as_told files name P told read = subst P (read.content told) read.holds

pub read_as : (files : FilesState) (name : List ℕ) (P Q : List ℕ → Type 0) → ((bytes : List ℕ) → P bytes → Q bytes) → IsReadOf files name P → IsReadOf files name Q
read_as files name P Q weaker read = record { bytes = read.bytes; content = read.content; holds = weaker read.bytes read.holds }

-- A part that is compiled, or is not.

-- a refusal of the part leaves it uncompiled
refused_too : (bytes : List ℕ) (o : Options) (refusal : Refusal) → IsRefusedPart bytes o refusal → IsUncompiledPart bytes o refusal
refused_too bytes o (refused.Uncovered feature cell) why = absurd why
refused_too bytes o refused.TooLong why = inl why
refused_too bytes o refusal why = why

pub file_uncompiled : (before after : FilesState) (name : List ℕ) (o : Options) (refusal : Refusal) → IsRefusedFile before after name (λ bytes. IsRefusedPart bytes o) refusal
    → IsRefusedFile before after name (λ bytes. IsUncompiledPart bytes o) refusal
file_uncompiled before after name o (refused.Word place) why = why
file_uncompiled before after name o refused.NotRead why = why
file_uncompiled before after name o refused.NoMemory why = why
file_uncompiled before after name o refused.TooLong why = λ told. inl (why told)
file_uncompiled before after name o (refused.Uncovered feature cell) why = absurd why.holds
file_uncompiled before after name o refusal why = λ told. refused_too (before.given name 0) o refusal (why told)

of_job : (before after : FilesState) (name : List ℕ) (o : Options) (job : Job) (refusal : Refusal) → IsReadOf before name (λ bytes. IsSoundPart bytes o job)
    → ((bytes : List ℕ) (p : Options) → IsSoundPart bytes p job → IsUncompiledPart bytes p refusal) → IsRefusedFile before after name (λ bytes. IsUncompiledPart bytes o) refusal
of_job before after name o job (refused.Word place) read why = why read.bytes o read.holds
of_job before after name o job refused.NotRead read why = absurd (why read.bytes o read.holds)
of_job before after name o job refused.NoMemory read why = tt
of_job before after name o job (refused.Uncovered feature cell) read why =
    read_as before name (λ bytes. IsSoundPart bytes o job) (λ bytes. IsUncompiledPart bytes o (refused.Uncovered feature cell)) (λ bytes sound. why bytes o sound) read
of_job before after name o job refusal read why = λ told. why (before.given name 0) o (as_told before name (λ bytes. IsSoundPart bytes o job) told read)

pub job_uncompiled : (before after : FilesState) (name : List ℕ) (o : Options) (job : Job) (refusal : Refusal) → IsReadOf before name (λ bytes. IsSoundPart bytes o job)
    → IsMemoryOr (LeavesUncompiled job) refusal → IsRefusedFile before after name (λ bytes. IsUncompiledPart bytes o) refusal
job_uncompiled before after name o job refusal read (inl e) = subst (IsRefusedFile before after name (λ bytes. IsUncompiledPart bytes o)) (sym e) tt
job_uncompiled before after name o job refusal read (inr why) = of_job before after name o job refusal read why

pub if_uncompiled : {A : Type 0} (before after : FilesState) (name : List ℕ) (o : Options) (job : Job) (r : Result A Refusal) → IsReadOf before name (λ bytes. IsSoundPart bytes o job)
    → IfErr r (IsMemoryOr (LeavesUncompiled job)) → IfErr r (IsRefusedFile before after name (λ bytes. IsUncompiledPart bytes o))
if_uncompiled before after name o job (Ok x) read why = tt
if_uncompiled before after name o job (Err refusal) read why = job_uncompiled before after name o job refusal read why

pub if_left : {A : Type 0} (bytes : List ℕ) (o : Options) (job : Job) (r : Result A Refusal) → IsSoundPart bytes o job
    → IfErr r (IsMemoryOr (LeavesUncompiled job)) → IfErr r (IsMemoryOr (IsUncompiledPart bytes o))
if_left bytes o job (Ok x) sound why = tt
if_left bytes o job (Err refusal) sound (inl memory) = inl memory
if_left bytes o job (Err refusal) sound (inr why) = inr (why bytes o sound)

-- a part that is refused is left uncompiled
refused_text : (bytes : List ℕ) (o : Options) (refusal : Refusal) → IsMemoryOr (IsRefusedPart bytes o) refusal → IsMemoryOr (IsUncompiledPart bytes o) refusal
refused_text bytes o refusal (inl memory) = inl memory
refused_text bytes o refusal (inr why) = inr (refused_too bytes o refusal why)

-- the plan of the job has a program that is too long
pub long_uncompiled : (job known : Job) (plan : List (StepJob × List Move)) → IsReachable job → known ≡ job → IsPlan known plan → LONGEST < length (program_text known plan)
    → LeavesUncompiled job refused.TooLong
long_uncompiled job known plan reachable same is long bytes o sound = inr (
  job,
  sound,
  reachable,
  (plan, subst (λ j. IsPlan j plan) same is, subst (λ j. LONGEST < length (program_text j plan)) same long),
)

-- one plan whose program is short stands for all
short_program : OnePlan → (job : Job) (plan : List (StepJob × List Move)) → IsPlan job plan → ¬ (LONGEST < length (program_text job plan)) → HasShortProgram job
short_program one job plan is short other again = subst (λ p. length (program_text job p) ≤ LONGEST) (one job plan other is again) (omega (arith, short))

pub planned_for : OnePlan → (job : Job) (planned : Planned) (plan : List (StepJob × List Move)) → IsReachable job → planned.job ≡ job → IsPlan planned.job plan
    → ¬ (LONGEST < length (program_text planned.job plan)) → IsPlannedFor job planned
planned_for one job planned plan reachable same is short = record {
  same = same;
  reachable = reachable;
  short = subst HasShortProgram same (short_program one planned.job plan is short);
}

compiled_part : (bytes : List ℕ) (o : Options) (job : Job) (planned : Planned) → IsSoundPart bytes o job → IsPlannedFor job planned → IsCompiledPart bytes o planned.job
compiled_part bytes o job planned sound is = record {
  sound = subst (IsSoundPart bytes o) (sym is.same) sound;
  reachable = subst IsReachable (sym is.same) is.reachable;
  short = subst HasShortProgram (sym is.same) is.short;
}

pub if_compiled : (files : FilesState) (name : List ℕ) (o : Options) (job : Job) (r : Result Planned Refusal) → IsReadOf files name (λ bytes. IsSoundPart bytes o job)
    → IfOk r (IsPlannedFor job) → IfOk r (λ planned. IsReadOf files name (λ bytes. IsCompiledPart bytes o planned.job))
if_compiled files name o job (Ok planned) read is =
    read_as files name (λ bytes. IsSoundPart bytes o job) (λ bytes. IsCompiledPart bytes o planned.job) (λ bytes sound. compiled_part bytes o job planned sound is) read
if_compiled files name o job (Err refusal) read is = tt

pub if_compiled_text : (bytes : List ℕ) (o : Options) (job : Job) (r : Result Planned Refusal) → IsSoundPart bytes o job
    → IfOk r (IsPlannedFor job) → IfOk r (λ planned. IsCompiledPart bytes o planned.job)
if_compiled_text bytes o job (Ok planned) sound is = compiled_part bytes o job planned sound is
if_compiled_text bytes o job (Err refusal) sound is = tt

pub sound_fits : (bytes : List ℕ) (o : Options) (job : Job) → IsSoundPart bytes o job → FitsGrid job
sound_fits bytes o job (m, have) = have.prepared.fits

-- a text that is another one
pub text_refused : (bytes text : List ℕ) (o : Options) (refusal : Refusal) → bytes ≡ text → IsMemoryOr (IsRefusedPart bytes o) refusal
    → IsMemoryOr (IsUncompiledPart text o) refusal
text_refused bytes text o refusal same why = subst (λ b. IsMemoryOr (IsUncompiledPart b o) refusal) same (refused_text bytes o refusal why)

pub sound_text : (bytes text : List ℕ) (o : Options) (job : Job) → bytes ≡ text → IsSoundPart bytes o job → IsSoundPart text o job
sound_text bytes text o job same sound = subst (λ b. IsSoundPart b o job) same sound
