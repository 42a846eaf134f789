-- A job has one first feature that the grid does not see, and one first cell that no step reaches.
use Rattle.std.proofs.Common.{ℕ, ◌≡◌, ◌≢◌, ◌⊎◌, inl, inr, List, [], ◌∷◌, ◌++◌, ℤ, ◌<ℤ◌, refl, sym, ap, subst, ◌∙◌, arith}
use Rattle.std.specs.List.{All}
use Rattle.std.proofs.lemmas.Bool.{cases_eq}
use Rattle.std.proofs.lemmas.Int.{ints}
use Rattle.std.proofs.lemmas.List.Elements.{All-cons, All-nil, All-contains}
use Rattle.sn_geom.specs.declared.units.Cell.{Cell}
use Rattle.sn_outline.specs.Job.{Job}
use Rattle.sn_outline.specs.declared.job.StepJob.{StepJob}
use Rattle.sn_raster.specs.Heights.{IsFirst}
use Rattle.sn_open.specs.Region.{IsRequiredCell}
use Rattle.sn_open.specs.Reach.{HasRequired, IsExecuted, IsExecutedBefore, IsFirstSmall, IsFirstUnreached, IsReachable, IsReachedFeature, IsUnreached}

-- Cells.

one_place : (a b : ℤ) → ¬ (a <ℤ b) → ¬ (b <ℤ a) → a ≡ b
one_place a b not_before not_behind = grind (arith, ints)

one_cell : (c d : Cell) → c.i ≡ d.i → c.j ≡ d.j → c.z ≡ d.z → c ≡ d
one_cell c d column row height = λ k. record { i = column k; j = row k; z = height k }

-- there is one first of some cells
one_first : (P : Cell → Type 0) (c d : Cell) → IsFirst P c → IsFirst P d → c ≡ d
one_first P c d first other =
    let row = one_place c.j d.j (λ before. other.first c first.holds (inl before)) (λ before. first.first d other.holds (inl before)) in
    let column = one_place c.i d.i (λ before. other.first c first.holds (inr (row, inl before))) (λ before. first.first d other.holds (inr (sym row, inl before))) in
    let height =
    one_place c.z d.z (λ before. other.first c first.holds (inr (row, inr (column, before))))
    (λ before. first.first d other.holds (inr (sym row, inr (sym column, before)))) in
    one_cell c d column row height

-- Features.

-- a step of the one feature stands before all of the other
abbrev StandsBefore : List StepJob → ℕ → ℕ → Type 0
StandsBefore steps feature other =
    (front : List StepJob) × (step : StepJob) × (back : List StepJob) × (steps ≡ front ++ step ∷ back) × (step.feature ≡ feature)
    × All (λ (s : StepJob). ¬ (s.feature ≡ other)) (front ++ step ∷ [])

at_once : (first : StepJob) (steps : List StepJob) (feature other : ℕ) → first.feature ≡ feature → feature ≢ other → StandsBefore (first ∷ steps) feature other
at_once first steps feature other cuts apart = (
  [],
  first,
  steps,
  refl,
  cuts,
  All-cons (λ (s : StepJob). ¬ (s.feature ≡ other)) first [] (λ same. apart (sym cuts ∙ same)) (All-nil (λ (s : StepJob). ¬ (s.feature ≡ other))),
)

later : (first : StepJob) (steps : List StepJob) (feature other : ℕ) → first.feature ≢ other → StandsBefore steps feature other → StandsBefore (first ∷ steps) feature other
later first steps feature other apart (front, step, back, whole, cuts, none) = (
  first ∷ front,
  step,
  back,
  ap (λ rest. first ∷ rest) whole,
  cuts,
  All-cons (λ (s : StepJob). ¬ (s.feature ≡ other)) first (front ++ step ∷ []) apart none,
)

-- of two features, one of which is executed, one is executed before the other
in_order : (steps : List StepJob) (feature other : ℕ) → feature ≢ other → ¬ All (λ (s : StepJob). s.feature ≢ feature) steps
    → StandsBefore steps feature other ⊎ StandsBefore steps other feature
in_order [] feature other apart executed = absurd (executed (All-nil (λ (s : StepJob). s.feature ≢ feature)))
in_order (first ∷ steps) feature other apart executed = elim (cases_eq first.feature feature) [
  | inl cuts ↦ inl (at_once first steps feature other cuts apart)
  | inr differs ↦ elim (cases_eq first.feature other) [
    | inl cuts ↦ inr (at_once first steps other feature cuts (λ same. apart (sym same)))
    | inr also ↦ elim (in_order steps feature other apart (λ none. executed (All-cons (λ (s : StepJob). s.feature ≢ feature) first steps differs none))) [
      | inl before ↦ inl (later first steps feature other also before)
      | inr behind ↦ inr (later first steps other feature differs behind)
    ]
  ]
]

executed_in_order : (job : Job) (feature other : ℕ) → feature ≢ other → IsExecuted job feature
    → IsExecutedBefore job feature other ⊎ IsExecutedBefore job other feature
executed_in_order job feature other apart (step, of) =
    in_order job.steps feature other apart
    (λ none. All-contains (λ (s : StepJob). s.feature ≢ feature) job.steps step none of.executed of.cuts)

-- The first feature that the grid does not see.

pub one_small : (job : Job) (feature other : ℕ) → IsFirstSmall job feature → IsFirstSmall job other → feature ≡ other
one_small job feature other first again = elim (cases_eq feature other) [
  | inl same ↦ same
  | inr apart ↦ elim (executed_in_order job feature other apart first.executed) [
    | inl before ↦ absurd (first.small (again.earlier feature before))
    | inr behind ↦ absurd (again.small (first.earlier other behind))
  ]
]

-- where the grid sees each executed feature, there is none
pub seen_or_small : (job : Job) (feature : ℕ) → ((seen : ℕ) → IsExecuted job seen → HasRequired job seen) → ¬ IsFirstSmall job feature
seen_or_small job feature all small = small.small (all feature small.executed)

-- The first cell that no step reaches.

not_reached : (job : Job) (feature : ℕ) (c : Cell) → IsReachedFeature job feature → ¬ IsUnreached job feature c
not_reached job feature c reached cell = cell.unreached (reached c cell.required)

-- where each feature is reached, there is none
pub reached_or_not : (job : Job) (feature : ℕ) (c : Cell) → IsReachable job → ¬ IsFirstUnreached job feature c
reached_or_not job feature c reached first = not_reached job feature c (reached feature) first.cell.holds

is_executed : (job : Job) (feature : ℕ) (c : Cell) → IsFirstUnreached job feature c → IsExecuted job feature
is_executed job feature c first =
    let required : IsRequiredCell job feature c = first.cell.holds.required in (required.deepest, required.least.of_feature)

one_feature : (job : Job) (feature other : ℕ) (c d : Cell) → IsFirstUnreached job feature c → IsFirstUnreached job other d → feature ≡ other
one_feature job feature other c d first again = elim (cases_eq feature other) [
  | inl same ↦ same
  | inr apart ↦ elim (executed_in_order job feature other apart (is_executed job feature c first)) [
    | inl before ↦ absurd (not_reached job feature c (again.earlier feature before) first.cell.holds)
    | inr behind ↦ absurd (not_reached job other d (first.earlier other behind) again.cell.holds)
  ]
]

pub one_unreached : (job : Job) (feature other : ℕ) (c d : Cell) → IsFirstUnreached job feature c → IsFirstUnreached job other d → (feature ≡ other) × (c ≡ d)
one_unreached job feature other c d first again =
    let same = one_feature job feature other c d first again in (
      same,
      one_first (IsUnreached job feature) c d first.cell (subst (λ (f : ℕ). IsFirst (IsUnreached job f) d) (sym same) again.cell),
    )
