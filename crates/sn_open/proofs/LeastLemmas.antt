-- Of the steps of a feature one has the least allowance.
use Rattle.std.proofs.Common.{ℕ, zero, suc, ◌≡◌, ◌<◌, ◌≤◌, ◌⊎◌, inl, inr, List, [], ◌∷◌, length, get_or, refl, sym, ap, ◌∙◌, subst, ⊎_elim, arith}
use Rattle.std.specs.Prelude.{Contains}
use Rattle.std.specs.List.{All, AllWithin}
use Rattle.std.proofs.lemmas.Bool.{cases_lt}
use Rattle.std.proofs.lemmas.List.{get_or_default}
use Rattle.sn_outline.specs.declared.job.StepJob.{StepJob}
use Rattle.sn_open.specs.declared.least.Allowance.{Allowance}
use Rattle.sn_open.specs.Least.{amount, IsNotMore, IsLeast}

abbrev HasNone : List StepJob → ℕ → Type 0
HasNone steps feature = (s : StepJob) → Contains steps s → ¬ (s.feature ≡ feature)

abbrev HasLeast : List StepJob → ℕ → Allowance → Type 0
HasLeast steps feature allowance = (t : StepJob) × IsLeast steps feature allowance t

later : (x : StepJob) (xs : List StepJob) (s : StepJob) → Contains xs s → Contains (x ∷ xs) s
later x xs s (k, below, is) = (suc k, omega arith, is)

head_or_later : (x : StepJob) (xs : List StepJob) (s : StepJob) → Contains (x ∷ xs) s → (x ≡ s) ⊎ Contains xs s
head_or_later x xs s (zero, below, is) = inl is
head_or_later x xs s (suc k, below, is) = inr (k, omega arith, is)

same_or_not : (a b : ℕ) → (a ≡ b) ⊎ (¬ (a ≡ b))
same_or_not a b =
    ⊎_elim (λ (less : a < b). inr (λ same. absurd (omega arith))) (λ (above : b ≤ a). ⊎_elim (λ (more : b < a). inr (λ same. absurd (omega arith))) (λ (below : a ≤ b). inl (omega arith)) (cases_lt b a)) (cases_lt a b)

-- the first step joins those that have a least one
join : (allowance : Allowance) (feature : ℕ) (x : StepJob) (xs : List StepJob) → x.feature ≡ feature → HasNone xs feature ⊎ HasLeast xs feature allowance → HasLeast (x ∷ xs) feature allowance
join allowance feature x xs cuts (inl none) = (
  x,
  record {
    among = (0, omega arith, refl);
    cuts = cuts;
    least = λ other among same.
        ⊎_elim (λ (is : x ≡ other). let e = ap (λ s. amount allowance s) is in omega arith) (λ (in' : Contains xs other). absurd (none other in' (same ∙ cuts))) (head_or_later x xs other among);
  },
)
join allowance feature x xs cuts (inr (t, is)) =
    ⊎_elim
    (λ (less : amount allowance x < amount allowance t). (
      x,
      record {
        among = (0, omega arith, refl);
        cuts = cuts;
        least = λ other among same.
            ⊎_elim (λ (e : x ≡ other). let v = ap (λ s. amount allowance s) e in omega arith)
            (λ (in' : Contains xs other). let h = is.least other in' (same ∙ cuts ∙ sym is.cuts) in omega arith) (head_or_later x xs other among);
      },
    ))
    (λ (more : amount allowance t ≤ amount allowance x). (
      t,
      record {
        among = later x xs t is.among;
        cuts = is.cuts;
        least = λ other among same.
            ⊎_elim (λ (e : x ≡ other). let v = ap (λ s. amount allowance s) e in omega arith) (λ (in' : Contains xs other). is.least other in' same) (head_or_later x xs other among);
      },
    )) (cases_lt (amount allowance x) (amount allowance t))

-- another feature's step changes nothing
skip : (allowance : Allowance) (feature : ℕ) (x : StepJob) (xs : List StepJob) → ¬ (x.feature ≡ feature) → HasNone xs feature ⊎ HasLeast xs feature allowance
    → HasNone (x ∷ xs) feature ⊎ HasLeast (x ∷ xs) feature allowance
skip allowance feature x xs other (inl none) =
    inl (λ s among. ⊎_elim (λ (is : x ≡ s). λ same. other (ap (λ t. t.feature) is ∙ same)) (λ (in' : Contains xs s). none s in') (head_or_later x xs s among))
skip allowance feature x xs other (inr (t, is)) =
    inr (
      t,
      record {
        among = later x xs t is.among;
        cuts = is.cuts;
        least = λ s among same.
            ⊎_elim (λ (e : x ≡ s). absurd (other (ap (λ t. t.feature) e ∙ same ∙ is.cuts))) (λ (in' : Contains xs s). is.least s in' same) (head_or_later x xs s among);
      },
    )

none_or_least : (allowance : Allowance) (feature : ℕ) (xs : List StepJob) → HasNone xs feature ⊎ HasLeast xs feature allowance
none_or_least allowance feature [] = inl (λ s (k, below, is). absurd (omega arith))
none_or_least allowance feature (x ∷ xs) =
    ⊎_elim (λ (cuts : x.feature ≡ feature). inr (join allowance feature x xs cuts (none_or_least allowance feature xs)))
    (λ (other : ¬ (x.feature ≡ feature)). skip allowance feature x xs other (none_or_least allowance feature xs)) (same_or_not x.feature feature)

-- where no step of the feature has the least allowance, the feature has none
pub none_of_feature : (allowance : Allowance) (feature n : ℕ) (steps : List StepJob) → length steps ≤ n
    → AllWithin (λ s. s.feature ≡ feature → ¬ All (IsNotMore allowance s) steps) steps 0 n → HasNone steps feature
none_of_feature allowance feature n steps end none =
    ⊎_elim (λ (nothing : HasNone steps feature). nothing)
    (λ (t : HasLeast steps feature allowance).
    let (s, is) = t in
    let (k, below, at) = is.among in
    let refused = subst (λ (u : StepJob). u.feature ≡ feature → ¬ All (IsNotMore allowance u) steps) at (none k s (omega arith) (omega arith)) in
    absurd (refused is.cuts (λ i d within. is.least (get_or steps i d) (i, within, same_read steps i d within)))) (none_or_least allowance feature steps)
  where
    same_read : (steps : List StepJob) (i : ℕ) (d : StepJob) → i < length steps → get_or steps i (get_or steps i d) ≡ get_or steps i d
    same_read steps i d within = get_or_default steps i (get_or steps i d) d within
