-- What is found under a number is what is kept of an instance of that number.
use Rattle.std.proofs.Common.{◌≡◌, ◌⊎◌, ℕ, Bool, true, false, cond, eqb, List, [], ◌∷◌, ◌++◌, Option, Some, None, subst, refl, ap, ◌∙◌, inl, inr, ⊎_elim}
use Rattle.std.proofs.lemmas.Bool.Decides.{eqb_tells}
use Rattle.sn_p21.specs.declared.file.Instance.{Instance}
use Rattle.sn_p21.specs.Numbers.{HasNumber, NumbersDiffer}
use Rattle.sn_model.specs.declared.model.Kept.{Kept}
use Rattle.sn_model.specs.Built.{IsEntryOf, AreKept}
use Rattle.sn_model.specs.ModelContent.{kept_of}

found_first : (b : Bool) (k found : Kept) (rest : Option Kept) → cond b (Some k) rest ≡ Some found → (k ≡ found) ⊎ (rest ≡ Some found)
found_first true k found rest e = inl cc
found_first false k found rest e = inr e

-- what is found is kept of one of the instances
pub found_is_entry : (is : List Instance) (kept : List (ℕ × Kept)) (n : ℕ) (k : Kept) → AreKept is kept → kept_of n kept ≡ Some k → (i : Instance) × IsEntryOf i k.row k.entry
found_is_entry [] kept n k h e = let none : None ≡ Some k = subst (λ (xs : List (ℕ × Kept)). kept_of n xs ≡ Some k) h e in absurd cc
found_is_entry (i ∷ is) kept n k h e =
    let first : cond (eqb n i.number) (Some h.0) (kept_of n h.1) ≡ Some k = subst (λ (xs : List (ℕ × Kept)). kept_of n xs ≡ Some k) h.4 e in
    ⊎_elim
    (λ same. (i, subst (λ (x : Kept). IsEntryOf i x.row x.entry) same h.2))
    (λ later. found_is_entry is h.1 n k h.3 later)
    (found_first (eqb n i.number) h.0 k (kept_of n h.1) first)

has_number_within : (before : List Instance) (p : Instance) (after : List Instance) → HasNumber p.number (before ++ p ∷ after)
has_number_within [] p after = inl refl
has_number_within (i ∷ before) p after = inr (has_number_within before p after)

-- among instances whose numbers differ each is found under its number
pub found_at : (before : List Instance) (p : Instance) (after : List Instance) (kept : List (ℕ × Kept)) → NumbersDiffer (before ++ p ∷ after) → AreKept (before ++ p ∷ after) kept → (k : Kept) × (kept_of p.number kept ≡ Some k) × IsEntryOf p k.row k.entry
found_at [] p after kept differ h = (
  h.0,
  ⊎_elim
      (λ yes. ap (kept_of p.number) h.4 ∙ ap (λ (b : Bool). cond b (Some h.0) (kept_of p.number h.1)) yes.0)
      (λ no. absurd (no.1 refl))
      (eqb_tells p.number p.number),
  h.2,
)
found_at (i ∷ before) p after kept differ h =
    let later : (k : Kept) × (kept_of p.number h.1 ≡ Some k) × IsEntryOf p k.row k.entry = found_at before p after h.1 differ.1 h.3 in (
      later.0,
      ⊎_elim
          (λ yes. absurd (differ.0 (subst (λ (n : ℕ). HasNumber n (before ++ p ∷ after)) yes.1 (has_number_within before p after))))
          (λ no. ap (kept_of p.number) h.4 ∙ (ap (λ (b : Bool). cond b (Some h.0) (kept_of p.number h.1)) no.0 ∙ later.1))
          (eqb_tells p.number i.number),
      later.2,
    )
