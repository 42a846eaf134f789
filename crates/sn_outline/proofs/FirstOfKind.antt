-- Whether steps of one kind agree, told by comparing each with the first of its kind.
use Rattle.std.proofs.Common.{◌≡◌, ℕ, ◌==◌, Bool, true, inl, inr, List, [], ◌∷◌, Option, Some, None, IfSome, refl, sym, ap, ◌∙◌, subst, arith, zero, suc, eq-eqb}
use Rattle.std.proofs.lemmas.Bool.{eqb-true, cases_Bool, cond-true, cond-false}
use Rattle.std.specs.List.{All, Contains, find}
use Rattle.sn_outline.specs.declared.job.StepJob.{StepJob}
use Rattle.sn_outline.specs.JobRule.{HaveOneBody, HaveOneFeature, IsSameFeature}

-- ---- a search
contains_here : {X : Type 0} (x : X) (xs : List X) → Contains (x ∷ xs) x
contains_here x xs = (0, omega arith, refl)

contains_there : {X : Type 0} (x y : X) (xs : List X) → Contains xs y → Contains (x ∷ xs) y
contains_there x y xs (k, within, e) = (suc k, omega arith, e)

-- what is found passes the test and is in the list
found_passes : {X : Type 0} (test : X → Bool) (xs : List X) (y : X) → find test xs ≡ Some y → (test y ≡ true) × Contains xs y
found_passes test [] y e = cc
found_passes {X} test (x ∷ xs) y e =
    elim (cases_Bool (test x)) [
      | inl passes ↦
          let is : x ≡ y = let h = cond-true (test x) (Some x) (find test xs) passes in cc in
          (ap test (sym is) ∙ passes, subst (Contains (x ∷ xs)) is (contains_here x xs))
      | inr fails ↦
          let later = found_passes test xs y (sym (cond-false (test x) (Some x) (find test xs) fails) ∙ e) in
          (later.0, contains_there x y xs later.1)
    ]

-- and where an element passes, something is found
abbrev Found : {X : Type 0} → (X → Bool) → List X → Type 0
Found {X} test xs = (y : X) × (find test xs ≡ Some y)

finds : {X : Type 0} (test : X → Bool) (xs : List X) (x : X) → test x ≡ true → Contains xs x → Found test xs
finds test [] x passes (k, within, e) = absurd (omega arith)
finds test (z ∷ xs) x passes (zero, within, e) = (z, cond-true (test z) (Some z) (find test xs) (ap test e ∙ passes))
finds test (z ∷ xs) x passes (suc k, within, e) =
    elim (cases_Bool (test z)) [
      | inl here ↦ (z, cond-true (test z) (Some z) (find test xs) here)
      | inr not_here ↦
          let (y, later) = finds test xs x passes (k, omega arith, e) in
          (y, cond-false (test z) (Some z) (find test xs) not_here ∙ later)
    ]

some_if : {X : Type 0} (P : X → Type 0) (o : Option X) (y : X) → o ≡ Some y → IfSome o P → P y
some_if P o y e h = subst (λ q. IfSome q P) e h

if_some : {X : Type 0} (P : X → Type 0) (o : Option X) → ((y : X) → o ≡ Some y → P y) → IfSome o P
if_some P None h = tt
if_some P (Some y) h = h y refl

-- ---- the first of a kind
module _ (key : StepJob → ℕ) (R : StepJob → StepJob → Type 0) where
  abbrev pub SameAsFirst : List StepJob → StepJob → Type 0
  SameAsFirst steps s = IfSome (find (λ t. key t == key s) steps) (λ t. R t s)

  pub one_kind : ((s t : StepJob) → R s t → R t s) → ((s t u : StepJob) → R s t → R t u → R s u) →
      (steps : List StepJob) → All (SameAsFirst steps) steps → (s t : StepJob) → Contains steps s → Contains steps t → key s ≡ key t → R s t
  one_kind symmetric transitive steps all s t (k, k_in, k_is) (l, l_in, l_is) same =
      let first = finds (λ u. key u == key s) steps s (eq-eqb _ _ refl) (k, k_in, k_is) in
      let to_s = some_if (λ u. R u s) _ first.0 first.1 (subst (SameAsFirst steps) k_is (all k s k_in)) in
      let found_t = subst (λ n. find (λ u. key u == n) steps ≡ Some first.0) same first.1 in
      let to_t = some_if (λ u. R u t) _ first.0 found_t (subst (SameAsFirst steps) l_is (all l t l_in)) in
      transitive s first.0 t (symmetric first.0 s to_s) to_t

  pub same_as_first : (steps : List StepJob) → ((s t : StepJob) → Contains steps s → Contains steps t → key s ≡ key t → R s t) →
      (s : StepJob) → Contains steps s → SameAsFirst steps s
  same_as_first steps one s in_s =
      if_some (λ t. R t s) (find (λ t. key t == key s) steps) (λ t found. let passes = found_passes (λ u. key u == key s) steps t found in one t s passes.1 in_s (eqb-true _ _ passes.0))

-- ---- bodies and features
abbrev pub HasBodyOfFirst : List StepJob → StepJob → Type 0
HasBodyOfFirst = SameAsFirst (λ s. s.tool) (λ s t. s.body ≡ t.body)

abbrev pub IsFeatureOfFirst : List StepJob → StepJob → Type 0
IsFeatureOfFirst = SameAsFirst (λ s. s.feature) IsSameFeature

pub one_body : (steps : List StepJob) → All (HasBodyOfFirst steps) steps → HaveOneBody steps
one_body = one_kind (λ s. s.tool) (λ s t. s.body ≡ t.body) (λ s t e. sym e) (λ s t u e f. e ∙ f)

pub body_of_first : (steps : List StepJob) → HaveOneBody steps → (s : StepJob) → Contains steps s → HasBodyOfFirst steps s
body_of_first = same_as_first (λ s. s.tool) (λ s t. s.body ≡ t.body)

feature_symmetric : (s t : StepJob) → IsSameFeature s t → IsSameFeature t s
feature_symmetric s t h = record { outline = sym h.outline; top = sym h.top; floor = sym h.floor; bottom = sym h.bottom; corner = sym h.corner }

feature_transitive : (s t u : StepJob) → IsSameFeature s t → IsSameFeature t u → IsSameFeature s u
feature_transitive s t u g h = record {
  outline = g.outline ∙ h.outline;
  top = g.top ∙ h.top;
  floor = g.floor ∙ h.floor;
  bottom = g.bottom ∙ h.bottom;
  corner = g.corner ∙ h.corner;
}

pub one_feature : (steps : List StepJob) → All (IsFeatureOfFirst steps) steps → HaveOneFeature steps
one_feature = one_kind (λ s. s.feature) IsSameFeature feature_symmetric feature_transitive

pub feature_of_first : (steps : List StepJob) → HaveOneFeature steps → (s : StepJob) → Contains steps s → IsFeatureOfFirst steps s
feature_of_first = same_as_first (λ s. s.feature) IsSameFeature
