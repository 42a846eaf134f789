-- The test of a number among instances.
use Rattle.std.proofs.Common.{◌≡◌, ℕ, Bool, true, false, ◌||◌, eqb, ◌⊎◌, inl, inr, ⊎_elim, subst, List, [], ◌∷◌, ◌++◌, refl, sym, ap, ◌∙◌}
use Rattle.std.proofs.lemmas.Bool.{eqb-true, eq-eqb, or_right, false_from_ne_true}
use Rattle.sn_p21.specs.declared.file.Instance.{Instance}
use Rattle.sn_p21.specs.Numbers.{HasNumber, has_number, NumbersDiffer}

or_cases : {P Q : Type 0} (a b : Bool) → (a ≡ true → P) → (b ≡ true → Q) → (a || b) ≡ true → P ⊎ Q
or_cases true b f g h = inl (f refl)
or_cases false b f g h = inr (g h)

pub has_number-true : (n : ℕ) (is : List Instance) → has_number n is ≡ true → HasNumber n is
has_number-true n [] h = let e : false ≡ true = h in cc
has_number-true n (i ∷ is) h = or_cases (eqb n i.number) (has_number n is) (λ e. sym (eqb-true n i.number e)) (has_number-true n is) h

pub has_number-from : (n : ℕ) (is : List Instance) → HasNumber n is → has_number n is ≡ true
has_number-from n [] h = absurd h
has_number-from n (i ∷ is) (inl e) = ap (λ b. b || has_number n is) (eq-eqb n i.number (sym e))
has_number-from n (i ∷ is) (inr h) = or_right (eqb n i.number) (has_number n is) (has_number-from n is h)

pub has_number-false : (n : ℕ) (is : List Instance) → (HasNumber n is → ⊥) → has_number n is ≡ false
has_number-false n is h = false_from_ne_true (has_number n is) (λ e. h (has_number-true n is e))

pub not_has_number : (n : ℕ) (is : List Instance) → has_number n is ≡ false → HasNumber n is → ⊥
not_has_number n is h k = let e : true ≡ false = sym (has_number-from n is k) ∙ h in cc

number_behind : (is : List Instance) (j : Instance) (js : List Instance) → HasNumber j.number (is ++ j ∷ js)
number_behind [] j js = inl refl
number_behind (i ∷ is) j js = inr (number_behind is j js)

-- a number among differing ones is not among those before it
pub new_number : (is : List Instance) (j : Instance) (js : List Instance) → NumbersDiffer (is ++ j ∷ js) → HasNumber j.number is → ⊥
new_number [] j js d h = h
new_number (i ∷ is) j js d (inl e) = d.0 (let P : ℕ → Type 0 = λ n. HasNumber n (is ++ j ∷ js) in subst P (sym e) (number_behind is j js))
new_number (i ∷ is) j js d (inr h) = new_number is j js d.1 h

has_number_append : (n : ℕ) (is js : List Instance) → HasNumber n (is ++ js) → HasNumber n is ⊎ HasNumber n js
has_number_append n [] js h = inr h
has_number_append n (i ∷ is) js (inl e) = inl (inl e)
has_number_append n (i ∷ is) js (inr h) = ⊎_elim (λ a. inl (inr a)) (λ b. inr b) (has_number_append n is js h)

-- one more number, that is not among them
pub differ_push : (is : List Instance) (j : Instance) → NumbersDiffer is → (HasNumber j.number is → ⊥) → NumbersDiffer (is ++ j ∷ [])
differ_push [] j d new = (λ h. h, tt)
differ_push (i ∷ is) j d new = (
  λ h. ⊎_elim d.0 (λ (k : HasNumber i.number (j ∷ [])). ⊎_elim (λ (e : j.number ≡ i.number). new (inl (sym e))) (λ (z : ⊥). z) k) (has_number_append i.number is (j ∷ []) h),
  differ_push is j d.1 (λ h. new (inr h)),
)

number_in_front : (n : ℕ) (is js : List Instance) → HasNumber n is → HasNumber n (is ++ js)
number_in_front n [] js h = absurd h
number_in_front n (i ∷ is) js (inl e) = inl e
number_in_front n (i ∷ is) js (inr h) = inr (number_in_front n is js h)

pub differ_front : (is js : List Instance) → NumbersDiffer (is ++ js) → NumbersDiffer is
differ_front [] js d = tt
differ_front (i ∷ is) js d = (λ h. d.0 (number_in_front i.number is js h), differ_front is js d.1)
