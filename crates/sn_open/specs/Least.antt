-- PRIVATE: the steps of a feature with the least allowances.
use Rattle.std.specs.Prelude.{◌≡◌, ℕ, ◌≤◌, List, Contains}
use Rattle.sn_outline.specs.declared.job.StepJob.{StepJob}
use Rattle.sn_open.specs.declared.least.Allowance.{Allowance}
use Rattle.sn_open.specs.declared.least.Allowance.TheVariants.{Side, Under}

abbrev pub amount : Allowance → StepJob → ℕ
amount Side step = step.side
amount Under step = step.under

-- where the other is a step of the same feature, the first has not more
abbrev pub IsNotMore : Allowance → StepJob → StepJob → Type 0
IsNotMore allowance step other = other.feature ≡ step.feature → amount allowance step ≤ amount allowance other

-- a step of the feature with the least allowance
pub record IsLeast (steps : List StepJob) (feature : ℕ) (allowance : Allowance) (step : StepJob) : Type 0 where
  pub among : Contains steps step
  pub cuts : step.feature ≡ feature
  pub least : (other : StepJob) → Contains steps other → IsNotMore allowance step other
