-- A step of a job by its index.
use Rattle.std.proofs.Common.{ℕ, ◌≡◌, ◌<◌, inl, inr, Some, List, length, get_or, sym, ap, subst, ◌∙◌}
use Rattle.std.specs.Prelude.{slice_get, Contains}
use Rattle.std.proofs.lemmas.Option.{get_or_from_slice_get, slice_get_cases, slice_get_read}
use Rattle.sn_outline.specs.declared.job.StepJob.{StepJob}

pub inside : (steps : List StepJob) (k : ℕ) (step : StepJob) → slice_get steps k ≡ Some step → k < length steps
inside steps k step is =
    elim ((slice_get_cases steps k).1) [
      | inl found ↦ found.1
      | inr past ↦ let both = sym is ∙ past.1 in absurd (cc)
    ]

pub listed : (steps : List StepJob) (k : ℕ) (step : StepJob) → slice_get steps k ≡ Some step → Contains steps step
listed steps k step is = (k, inside steps k step is, get_or_from_slice_get steps k step step is)

pub same_step : (steps : List StepJob) (k : ℕ) (step other : StepJob) → slice_get steps k ≡ Some step → slice_get steps k ≡ Some other → step ≡ other
same_step steps k step other is is' = sym (get_or_from_slice_get steps k step step is) ∙ get_or_from_slice_get steps k other step is'

-- an element that was read
pub read_at : (steps own : List StepJob) (k : ℕ) (step : StepJob) → own ≡ steps → k < length steps → step ≡ get_or own k step → slice_get steps k ≡ Some step
read_at steps own k step same below is =
    subst (λ (ss : List StepJob). slice_get ss k ≡ Some step) same
    (slice_get_read own (length steps) k step (ap (λ (ss : List StepJob). length ss) (sym same)) below is)
