-- Which tool numbers steps use.
use Rattle.std.proofs.Common.{◌≡◌, ℕ, ◌+◌, ◌≤◌, inl, inr, List, get_or, refl, subst, arith}
use Rattle.std.proofs.lemmas.Bool.{cases_lt}
use Rattle.std.proofs.lemmas.List.Elements.{Contains-get_or}
use Rattle.std.specs.List.{All, Any}
use Rattle.sn_outline.specs.declared.job.StepJob.{StepJob}
use Rattle.sn_outline.specs.JobRule.{AreNumbered}

abbrev UsesTool : List StepJob → ℕ → Type 0
UsesTool steps k = Any (λ s. s.tool ≡ k) steps

abbrev HasToolUpTo : ℕ → StepJob → Type 0
HasToolUpTo count s = (1 ≤ s.tool) × (s.tool ≤ count)

pub all_at_most : (steps : List StepJob) (count : ℕ) → AreNumbered steps count → All (HasToolUpTo count) steps
all_at_most steps count numbered k d within =
    let (at, inside, e) = Contains-get_or steps k d within in
    (numbered (get_or steps k d).tool).0 (at, get_or steps k d, inside, e, refl)

pub one_more_used : (steps : List StepJob) (n : ℕ) → ((k : ℕ) → 1 ≤ k → k ≤ n → UsesTool steps k) → UsesTool steps (n + 1) →
    (k : ℕ) → 1 ≤ k → k ≤ n + 1 → UsesTool steps k
one_more_used steps n so_far next k from to =
    elim (cases_lt n k) [
      | inl above ↦ let is : n + 1 ≡ k = omega arith in subst (UsesTool steps) is next
      | inr below ↦ so_far k from below
    ]

pub numbered_from : (steps : List StepJob) (count : ℕ) → All (HasToolUpTo count) steps → ((k : ℕ) → 1 ≤ k → k ≤ count → UsesTool steps k) → AreNumbered steps count
numbered_from steps count within used k = (
  λ (at, s, inside, e, is). subst (λ n. (1 ≤ n) × (n ≤ count)) is (subst (HasToolUpTo count) e (within at s inside)),
  λ (from, to). used k from to,
)
