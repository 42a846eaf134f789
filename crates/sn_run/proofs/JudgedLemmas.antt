-- What the bytes of a part give, stage by stage: at each one a refusal, or what the next one goes by. So they give one answer.
use Rattle.std.proofs.Common.{ℕ, ◌≡◌, ◌≤◌, ◌<◌, List, length, Result, Ok, Err, inl, inr, refl, sym, ap, subst, ◌∙◌, arith}
use Rattle.sn_geom.specs.declared.units.Cell.{Cell}
use Rattle.sn_p21.specs.Content.{Content}
use Rattle.sn_p21.specs.FirstFault.{IsFirstFault, OneFault}
use Rattle.sn_p21.specs.PartText.{IsPartText, OneFile}
use Rattle.sn_model.specs.Built.{IsModelOf, IsModelFault, OneModel}
use Rattle.sn_model.specs.ModelContent.{ModelContent}
use Rattle.sn_model.specs.declared.fault.ModelFault.{ModelFault}
use Rattle.sn_refs.specs.Sound.{IsSound, IsRefFault, OneVerdict}
use Rattle.sn_refs.specs.declared.fault.RefFault.{RefFault}
use Rattle.sn_outline.specs.Job.{Job}
use Rattle.sn_raster.specs.Grid.{FitsGrid}
use Rattle.sn_open.specs.Reach.{IsExecuted, HasRequired, IsFirstSmall, IsReachable, IsFirstUnreached}
use Rattle.sn_words.specs.Options.{Options}
use Rattle.sn_flow.specs.declared.fault.JobFault.{JobFault}
use Rattle.sn_flow.specs.declared.fault.JobFault.TheVariants.{GridTooBig, TooSmall}
use Rattle.sn_flow.specs.JobOf.{job_of}
use Rattle.sn_run.specs.declared.reading.TheConstants.{LONGEST}
use Rattle.sn_message.specs.declared.refusal.Refusal.{Refusal}
use Rattle.sn_message.specs.declared.refusal.Refusal.TheVariants as refused
use Rattle.sn_message.specs.declared.refusal.TextFault.{TextFault}
use Rattle.sn_message.specs.declared.refusal.TextFault.TheVariants.{Lex, Unexpected, Twice, TooDeep}
use Rattle.sn_message.specs.FaultText.{p21_fault, refusal_of}
use Rattle.sn_run.specs.Part.{HasLongProgram, HasShortProgram, HaveJob, IsCompiledPart, IsRefusedJob, IsRefusedPart, IsSoundPart, IsUncompiledPart, SoundOrRefused}
use Rattle.sn_run.proofs.ReachLawLemmas.{one_small, seen_or_small, one_unreached, reached_or_not}

-- Stages.

abbrev Answer : Type 0
Answer = Result Job Refusal

-- A stage stops with a fault and its refusal, or goes on with a thing, by which the next stages answer.
data Stage (X F : Type 0) (Goes : X → Type 0) (Stops : F → Type 0) (refusal : F → Refusal) (Next : X → Answer → Type 0) (answer : Answer) : Type 0 where
  stops : (fault : F) → Stops fault → answer ≡ Err (refusal fault) → Stage X F Goes Stops refusal Next answer
  goes : (thing : X) → Goes thing → Next thing answer → Stage X F Goes Stops refusal Next answer

-- it does not do both, and either in one way
record IsDecided (X F : Type 0) (Goes : X → Type 0) (Stops : F → Type 0) : Type 0 where
  one_fault : (fault other : F) → Stops fault → Stops other → fault ≡ other
  one_thing : (thing other : X) → Goes thing → Goes other → thing ≡ other
  not_both : (thing : X) (fault : F) → Goes thing → ¬ Stops fault

-- there is one answer
abbrev HasOneAnswer : (Answer → Type 0) → Type 0
HasOneAnswer Gives = (answer other : Answer) → Gives answer → Gives other → answer ≡ other

one_answer_of : (X F : Type 0) (Goes : X → Type 0) (Stops : F → Type 0) (refusal : F → Refusal) (Next : X → Answer → Type 0)
    → IsDecided X F Goes Stops → ((thing : X) → HasOneAnswer (Next thing)) → HasOneAnswer (Stage X F Goes Stops refusal Next)
one_answer_of X F Goes Stops refusal Next decided next answer other (stops fault why is) (stops again why' is') =
    is ∙ ap (λ f. Err (refusal f)) (decided.one_fault fault again why why') ∙ sym is'
one_answer_of X F Goes Stops refusal Next decided next answer other (stops fault why is) (goes thing so later) = absurd (decided.not_both thing fault so why)
one_answer_of X F Goes Stops refusal Next decided next answer other (goes thing so later) (stops fault why is) = absurd (decided.not_both thing fault so why)
one_answer_of X F Goes Stops refusal Next decided next answer other (goes thing so later) (goes again so' later') =
    next again answer other (subst (λ (t : X). Next t answer) (decided.one_thing thing again so so') later) later'

-- The last stages: those of a part that is sound, and of one that is compiled.

abbrev Nothing : Type 0
Nothing = Unit {0}

one_nothing : (a b : Nothing) → a ≡ b
one_nothing a b = refl

abbrev Last : Type 1
Last = ModelContent → Job → Answer → Type 0

abbrev Answered : Last
Answered m job answer = answer ≡ Ok job

abbrev Measured : Last
Measured m job = Stage Nothing Nothing (λ _. HasShortProgram job) (λ _. HasLongProgram job) (λ _. refused.TooLong) (λ _. Answered m job)

abbrev Reaching : Last
Reaching m job =
    Stage Nothing (ℕ × Cell) (λ _. IsReachable job) (λ found. IsFirstUnreached job found.0 found.1) (λ found. refused.Uncovered found.0 found.1) (λ _. Measured m job)

abbrev HasOneLast : Last → Type 0
HasOneLast L = (m : ModelContent) (job : Job) → HasOneAnswer (L m job)

one_answered : HasOneLast Answered
one_answered m job answer other is is' = is ∙ sym is'

not_both_lengths : (job : Job) → HasShortProgram job → ¬ HasLongProgram job
not_both_lengths job short (plan, is, long) = let within = short plan is in absurd (omega (arith, within, long))

one_by_length : HasOneLast Measured
one_by_length m job =
    one_answer_of Nothing Nothing (λ _. HasShortProgram job) (λ _. HasLongProgram job) (λ _. refused.TooLong) (λ _. Answered m job)
    (record { one_fault = λ f g _ _. one_nothing f g; one_thing = λ x y _ _. one_nothing x y; not_both = λ _ _ short long. not_both_lengths job short long })
    (λ _. one_answered m job)

one_pair : (a b : ℕ × Cell) → (a.0 ≡ b.0) × (a.1 ≡ b.1) → a ≡ b
one_pair a b (first, second) = λ k. (first k, second k)

one_by_reach : HasOneLast Reaching
one_by_reach m job =
    one_answer_of Nothing (ℕ × Cell) (λ _. IsReachable job) (λ found. IsFirstUnreached job found.0 found.1) (λ found. refused.Uncovered found.0 found.1) (λ _. Measured m job)
    (record {
      one_fault = λ f g first again. one_pair f g (one_unreached job f.0 g.0 f.1 g.1 first again);
      one_thing = λ x y _ _. one_nothing x y;
      not_both = λ _ found reachable. reached_or_not job found.0 found.1 reachable;
    }) (λ _. one_by_length m job)

-- The stages from a job on, before the last ones.

abbrev AllSeen : Job → Type 0
AllSeen job = (feature : ℕ) → IsExecuted job feature → HasRequired job feature

abbrev Seen : Last → ModelContent → Job → Answer → Type 0
Seen L m job = Stage Nothing ℕ (λ _. AllSeen job) (IsFirstSmall job) (λ feature. refused.Job (TooSmall feature)) (λ _. L m job)

abbrev Gridded : Last → ModelContent → Job → Answer → Type 0
Gridded L m job = Stage Nothing Nothing (λ _. FitsGrid job) (λ _. ¬ FitsGrid job) (λ _. refused.Job GridTooBig) (λ _. Seen L m job)

one_by_sight : (L : Last) → HasOneLast L → (m : ModelContent) (job : Job) → HasOneAnswer (Seen L m job)
one_by_sight L last m job =
    one_answer_of Nothing ℕ (λ _. AllSeen job) (IsFirstSmall job) (λ feature. refused.Job (TooSmall feature)) (λ _. L m job)
    (record { one_fault = one_small job; one_thing = λ x y _ _. one_nothing x y; not_both = λ _ feature seen. seen_or_small job feature seen })
    (λ _. last m job)

one_by_grid : (L : Last) → HasOneLast L → (m : ModelContent) (job : Job) → HasOneAnswer (Gridded L m job)
one_by_grid L last m job =
    one_answer_of Nothing Nothing (λ _. FitsGrid job) (λ _. ¬ FitsGrid job) (λ _. refused.Job GridTooBig) (λ _. Seen L m job)
    (record { one_fault = λ f g _ _. one_nothing f g; one_thing = λ x y _ _. one_nothing x y; not_both = λ _ _ fits big. big fits })
    (λ _. one_by_sight L last m job)

-- The stages from a model on.

abbrev Jobbed : Last → ModelContent → Options → Answer → Type 0
Jobbed L m o = Stage Job JobFault (λ job. job_of m o ≡ Ok job) (λ fault. job_of m o ≡ Err fault) refused.Job (Gridded L m)

abbrev Checked : Last → ModelContent → Options → Answer → Type 0
Checked L m o = Stage Nothing RefFault (λ _. IsSound m) (IsRefFault m) refused.Reference (λ _. Jobbed L m o)

-- what a result is
one_ok : {A E : Type 0} (r : Result A E) (x y : A) → r ≡ Ok x → r ≡ Ok y → x ≡ y
one_ok r x y is is' = cc

one_err : {A E : Type 0} (r : Result A E) (e f : E) → r ≡ Err e → r ≡ Err f → e ≡ f
one_err r e f is is' = cc

ok_or_err : {A E : Type 0} (r : Result A E) (x : A) (e : E) → r ≡ Ok x → ¬ (r ≡ Err e)
ok_or_err r x e is is' = cc

one_by_job : (L : Last) → HasOneLast L → (m : ModelContent) (o : Options) → HasOneAnswer (Jobbed L m o)
one_by_job L last m o =
    one_answer_of Job JobFault (λ job. job_of m o ≡ Ok job) (λ fault. job_of m o ≡ Err fault) refused.Job (Gridded L m)
    (record { one_fault = one_err (job_of m o); one_thing = one_ok (job_of m o); not_both = ok_or_err (job_of m o) }) (one_by_grid L last m)

one_by_check : (L : Last) → HasOneLast L → OneVerdict → (m : ModelContent) (o : Options) → HasOneAnswer (Checked L m o)
one_by_check L last verdict m o =
    one_answer_of Nothing RefFault (λ _. IsSound m) (IsRefFault m) refused.Reference (λ _. Jobbed L m o)
    (record { one_fault = verdict.0 m; one_thing = λ x y _ _. one_nothing x y; not_both = λ _ fault. verdict.1 m fault }) (λ _. one_by_job L last m o)

-- The stages from the bytes on.

abbrev Modelled : Last → Options → Content → Answer → Type 0
Modelled L o file = Stage ModelContent ModelFault (IsModelOf file.instances) (IsModelFault file.instances) refused.Model (λ m. Checked L m o)

abbrev Parsed : Last → List ℕ → Options → Answer → Type 0
Parsed L bytes o = Stage Content TextFault (IsPartText bytes) (λ fault. IsFirstFault bytes (p21_fault fault)) refused.Text (Modelled L o)

abbrev Judged : Last → List ℕ → Options → Answer → Type 0
Judged L bytes o = Stage Nothing Nothing (λ _. length bytes ≤ LONGEST) (λ _. LONGEST < length bytes) (λ _. refused.TooLong) (λ _. Parsed L bytes o)

one_by_model : (L : Last) → HasOneLast L → OneModel → OneVerdict → (o : Options) (file : Content) → HasOneAnswer (Modelled L o file)
one_by_model L last model verdict o file =
    one_answer_of ModelContent ModelFault (IsModelOf file.instances) (IsModelFault file.instances) refused.Model (λ m. Checked L m o)
    (record { one_fault = model.1 file.instances; one_thing = model.0 file.instances; not_both = model.2 file.instances })
    (λ m. one_by_check L last verdict m o)

as_text : (fault : TextFault) → refusal_of (p21_fault fault) ≡ refused.Text fault
as_text (Lex fault) = refl
as_text (Unexpected at) = refl
as_text (Twice number at) = refl
as_text (TooDeep at) = refl

one_text_fault : (fault other : TextFault) → p21_fault fault ≡ p21_fault other → fault ≡ other
one_text_fault fault other same =
    let refusal : refused.Text fault ≡ refused.Text other = sym (as_text fault) ∙ ap refusal_of same ∙ as_text other in cc

one_by_text : (L : Last) → HasOneLast L → OneFile → OneFault → OneModel → OneVerdict → (bytes : List ℕ) (o : Options) → HasOneAnswer (Parsed L bytes o)
one_by_text L last file fault model verdict bytes o =
    one_answer_of Content TextFault (IsPartText bytes) (λ f. IsFirstFault bytes (p21_fault f)) refused.Text (Modelled L o)
    (record {
      one_fault = λ f g first again. one_text_fault f g (fault.0 bytes (p21_fault f) (p21_fault g) first again);
      one_thing = file bytes;
      not_both = λ content f. fault.1 bytes content (p21_fault f);
    }) (one_by_model L last model verdict o)

one_answer : (L : Last) → HasOneLast L → OneFile → OneFault → OneModel → OneVerdict → (bytes : List ℕ) (o : Options) → HasOneAnswer (Judged L bytes o)
one_answer L last file fault model verdict bytes o =
    one_answer_of Nothing Nothing (λ _. length bytes ≤ LONGEST) (λ _. LONGEST < length bytes) (λ _. refused.TooLong) (λ _. Parsed L bytes o)
    (record { one_fault = λ f g _ _. one_nothing f g; one_thing = λ x y _ _. one_nothing x y; not_both = λ _ _ short long. omega arith })
    (λ _. one_by_text L last file fault model verdict bytes o)

-- The answers of a part.

-- one that has a job answers by the last stages
job_answer : (L : Last) (bytes : List ℕ) (o : Options) (m : ModelContent) (job : Job) (answer : Answer) → HaveJob bytes o m job → L m job answer → Judged L bytes o answer
job_answer L bytes o m job answer have last =
    let model = have.model.model in
    goes tt model.file_is.short
    (goes model.file model.file_is.text
    (goes m model.built
    (goes tt have.model.sound
    (goes job have.prepared.job_is (goes tt have.prepared.fits (goes tt have.prepared.seen last))))))

fault_answer : (L : Last) (m : ModelContent) (o : Options) (fault : JobFault) → IsRefusedJob m o fault → Jobbed L m o (Err (refused.Job fault))
fault_answer L m o GridTooBig (job, is, big) = goes job is (stops tt big refl)
fault_answer L m o (TooSmall feature) (job, is, fits, small) = goes job is (goes tt fits (stops feature small refl))
fault_answer L m o fault is = stops fault is refl

refused_answer : (L : Last) (bytes : List ℕ) (o : Options) (refusal : Refusal) → IsRefusedPart bytes o refusal → Judged L bytes o (Err refusal)
refused_answer L bytes o refused.TooLong why = stops tt why refl
refused_answer L bytes o (refused.Text fault) (short, first) = goes tt short (stops fault first refl)
refused_answer L bytes o (refused.Model fault) (file, is, why) = goes tt is.short (goes file is.text (stops fault why refl))
refused_answer L bytes o (refused.Reference fault) (m, have, why) =
    goes tt have.file_is.short (goes have.file have.file_is.text (goes m have.built (stops fault why refl)))
refused_answer L bytes o (refused.Job fault) (m, have, why) =
    goes tt have.model.file_is.short (goes have.model.file have.model.file_is.text (goes m have.model.built (goes tt have.sound (fault_answer L m o fault why))))
refused_answer L bytes o refusal why = absurd why

compiled_answer : (bytes : List ℕ) (o : Options) (job : Job) → IsCompiledPart bytes o job → Judged Reaching bytes o (Ok job)
compiled_answer bytes o job part =
    job_answer Reaching bytes o part.sound.0 job (Ok job) part.sound.1 (goes tt part.reachable (goes tt part.short refl))

uncompiled_answer : (bytes : List ℕ) (o : Options) (refusal : Refusal) → IsUncompiledPart bytes o refusal → Judged Reaching bytes o (Err refusal)
uncompiled_answer bytes o (refused.Uncovered feature cell) (job, (m, have), why) =
    job_answer Reaching bytes o m job (Err (refused.Uncovered feature cell)) have (stops (feature, cell) why refl)
uncompiled_answer bytes o refused.TooLong (inl long) = refused_answer Reaching bytes o refused.TooLong long
uncompiled_answer bytes o refused.TooLong (inr (job, (m, have), reachable, long)) =
    job_answer Reaching bytes o m job (Err refused.TooLong) have (goes tt reachable (stops tt long refl))
uncompiled_answer bytes o refusal why = refused_answer Reaching bytes o refusal why

-- A part has one job or one refusal.

pub one_sound_job : OneFile → OneFault → OneModel → OneVerdict → (bytes : List ℕ) (o : Options) (some other : Job) → IsSoundPart bytes o some
    → IsSoundPart bytes o other → some ≡ other
one_sound_job file fault model verdict bytes o some other (m, first) (n, again) =
    one_ok (Ok some) some other refl
    (one_answer Answered one_answered file fault model verdict bytes o (Ok some) (Ok other)
    (job_answer Answered bytes o m some (Ok some) first refl) (job_answer Answered bytes o n other (Ok other) again refl))

pub one_refusal : OneFile → OneFault → OneModel → OneVerdict → (bytes : List ℕ) (o : Options) (some other : Refusal) → IsRefusedPart bytes o some
    → IsRefusedPart bytes o other → some ≡ other
one_refusal file fault model verdict bytes o some other why again =
    one_err (Err some) some other refl
    (one_answer Answered one_answered file fault model verdict bytes o (Err some) (Err other)
    (refused_answer Answered bytes o some why) (refused_answer Answered bytes o other again))

pub one_uncompiled : OneFile → OneFault → OneModel → OneVerdict → (bytes : List ℕ) (o : Options) (some other : Refusal) → IsUncompiledPart bytes o some
    → IsUncompiledPart bytes o other → some ≡ other
one_uncompiled file fault model verdict bytes o some other why again =
    one_err (Err some) some other refl
    (one_answer Reaching one_by_reach file fault model verdict bytes o (Err some) (Err other)
    (uncompiled_answer bytes o some why) (uncompiled_answer bytes o other again))

pub sound_or_refused : OneFile → OneFault → OneModel → OneVerdict → SoundOrRefused
sound_or_refused file fault model verdict bytes o job refusal = (
  (λ (m, have) why.
      ok_or_err (Ok job) job refusal refl
      (one_answer Answered one_answered file fault model verdict bytes o (Ok job) (Err refusal)
      (job_answer Answered bytes o m job (Ok job) have refl) (refused_answer Answered bytes o refusal why))),
  (λ part why.
      ok_or_err (Ok job) job refusal refl
      (one_answer Reaching one_by_reach file fault model verdict bytes o (Ok job) (Err refusal)
      (compiled_answer bytes o job part) (uncompiled_answer bytes o refusal why))),
)
