-- Why a part is refused, by what each of its readers tells.
use Rattle.std.proofs.Common.{ℕ, ◌≡◌, ◌≢◌, ◌≤◌, ◌⊎◌, inl, inr, List, length, Result, Ok, Err, MatchResult, refl, sym}
use Rattle.sn_p21.specs.Content.{Content}
use Rattle.sn_p21.specs.FirstFault.{IsFirstFault}
use Rattle.sn_p21.specs.declared.fault.P21Fault.{P21Fault}
use Rattle.sn_p21.specs.declared.fault.P21Fault.TheVariants as p21
use Rattle.sn_model.specs.Built.{IsModelFault}
use Rattle.sn_model.specs.ModelContent.{ModelContent}
use Rattle.sn_model.specs.declared.fault.ModelFault.{ModelFault}
use Rattle.sn_model.specs.declared.fault.ModelFault.TheVariants as model
use Rattle.sn_refs.specs.Sound.{IsRefFault}
use Rattle.sn_refs.specs.declared.fault.RefFault.{RefFault}
use Rattle.sn_refs.specs.declared.fault.RefFault.TheVariants as reference
use Rattle.sn_outline.specs.Job.{Job}
use Rattle.sn_words.specs.Options.{Options}
use Rattle.sn_flow.specs.declared.fault.JobFault.{JobFault}
use Rattle.sn_flow.specs.declared.fault.JobFault.TheVariants as job
use Rattle.sn_flow.specs.JobOf.{job_of}
use Rattle.sn_flow.specs.JobOfLaws.{NoOtherFault}
use Rattle.sn_run.specs.declared.reading.TheConstants.{LONGEST}
use Rattle.sn_message.specs.declared.refusal.Refusal.{Refusal}
use Rattle.sn_message.specs.declared.refusal.Refusal.TheVariants as refused
use Rattle.sn_message.specs.FaultText.{refusal_of, refusal_of_model, refusal_of_references, refusal_of_job}
use Rattle.sn_run.specs.Found.{IsMemoryOr}
use Rattle.sn_run.specs.Part.{IsFileOf, HaveModel, HaveSoundModel, IsRefusedJob, IsRefusedPart}

-- Memory was wanting, or the refusal is one of the part, with these options or with any.

abbrev pub IsRefusedWithAny : List ℕ → Refusal → Type 0
IsRefusedWithAny bytes refusal = (o : Options) → IsRefusedPart bytes o refusal

pub of_text : (bytes : List ℕ) (fault : P21Fault) → length bytes ≤ LONGEST → (fault ≢ p21.Memory → IsFirstFault bytes fault)
    → IsMemoryOr (IsRefusedWithAny bytes) (refusal_of fault)
of_text bytes (p21.Lex fault) short first = inr (λ o. (short, first (λ e. cc)))
of_text bytes (p21.Unexpected at) short first = inr (λ o. (short, first (λ e. cc)))
of_text bytes (p21.Twice number at) short first = inr (λ o. (short, first (λ e. cc)))
of_text bytes (p21.TooDeep at) short first = inr (λ o. (short, first (λ e. cc)))
of_text bytes p21.Memory short first = inl refl

pub of_model : (bytes : List ℕ) (file : Content) (fault : ModelFault) → IsFileOf bytes file → (fault ≢ model.Memory → IsModelFault file.instances fault)
    → IsMemoryOr (IsRefusedWithAny bytes) (refusal_of_model fault)
of_model bytes file model.Memory is why = inl refl
of_model bytes file fault is why = inr (λ o. (file, is, why (λ e. cc)))

pub of_references : (bytes : List ℕ) (m : ModelContent) (fault : RefFault) → HaveModel bytes m → (fault ≢ reference.Memory → IsRefFault m fault)
    → IsMemoryOr (IsRefusedWithAny bytes) (refusal_of_references fault)
of_references bytes m reference.Memory have why = inl refl
of_references bytes m fault have why = inr (λ o. (m, have, why (λ e. cc)))

pub of_job : (bytes : List ℕ) (o : Options) (m : ModelContent) (fault : JobFault) → HaveSoundModel bytes m → (fault ≢ job.Memory → IsRefusedJob m o fault)
    → IsMemoryOr (IsRefusedPart bytes o) (refusal_of_job fault)
of_job bytes o m job.Memory have why = inl refl
of_job bytes o m fault have why = inr (m, have, why (λ e. cc))

-- The job of a model.

-- the faults of the definition are those of the part
own_fault : NoOtherFault → (m : ModelContent) (o : Options) (fault : JobFault) → job_of m o ≡ Err fault → IsRefusedJob m o fault
own_fault none m o job.GridTooBig is = absurd (none.grid m o is)
own_fault none m o (job.TooSmall feature) is = absurd (none.small m o feature is)
own_fault none m o fault is = is

-- memory was wanting, or this is the job of the model or its fault
abbrev IsJobOrMemory : ModelContent → Options → Result Job JobFault → Type 0
IsJobOrMemory m o r = (r ≡ Err job.Memory) ⊎ (r ≡ job_of m o)

pub found_job : (m : ModelContent) (o : Options) (found : Job) → IsJobOrMemory m o (Ok found) → job_of m o ≡ Ok found
found_job m o found (inl memory) = absurd (cc)
found_job m o found (inr is) = sym is

pub refused_job : NoOtherFault → (m : ModelContent) (o : Options) (fault : JobFault) → IsJobOrMemory m o (Err fault) → fault ≢ job.Memory → IsRefusedJob m o fault
refused_job none m o fault (inl memory) other = absurd (other (cc))
refused_job none m o fault (inr is) other = own_fault none m o fault (sym is)

-- what holds where a result is none
pub if_not_ok : {A E : Type 0} (P : A → Type 0) (Q : Type 0) (r : Result A E) → ((x : A) → ¬ (r ≡ Ok x)) → MatchResult r P (λ _. Q) → Q
if_not_ok P Q (Ok x) not holds = absurd (not x refl)
if_not_ok P Q (Err e) not holds = holds

-- faults that are no want of memory
pub other_reference : (fault : RefFault) → ¬ (fault ≡ reference.Memory) → refused.Reference fault ≡ refusal_of_references fault
other_reference reference.Memory other = absurd (other refl)
other_reference fault other = refl

-- The refusals of a part, by those of its stages.

pub with_these : (bytes : List ℕ) (o : Options) (refusal : Refusal) → IsMemoryOr (IsRefusedWithAny bytes) refusal → IsMemoryOr (IsRefusedPart bytes o) refusal
with_these bytes o refusal (inl memory) = inl memory
with_these bytes o refusal (inr why) = inr (why o)
