-- What is kept of instances.
use Rattle.std.proofs.Common.{◌≡◌, ℕ, ◌+◌, inl, inr, Bool, true, false, cond, nat_eq, List, [], ◌∷◌, ◌++◌, take, drop, slice_get, Option, Some, None, IsSome, refl, sym, ap, subst, ◌∙◌, eqb-true}
use Rattle.std.specs.Map.{lookup}
use Rattle.sn_p21.specs.declared.file.Instance.{Instance}
use Rattle.sn_p21.specs.Numbers.{HasNumber, NumbersDiffer}
use Rattle.sn_model.specs.declared.model.Kept.{Kept}
use Rattle.sn_model.specs.Built.{IsEntryOf, AreKept}
use Rattle.sn_model.proofs.Places.{take_next, split_at}
use Rattle.indexmap.specs.IndexMap.{IndexMap, insert_entry}
use Rattle.indexmap.proofs.CallerLemmas.{insert_entry-new}

-- Numbers.

has_number_after : (is : List Instance) (i : Instance) (after : List Instance) → HasNumber i.number (is ++ i ∷ after)
has_number_after [] i after = inl refl
has_number_after (j ∷ is) i after = inr (has_number_after is i after)

number_is_fresh : (is : List Instance) (i : Instance) (after : List Instance) → NumbersDiffer (is ++ i ∷ after) → ¬ HasNumber i.number is
number_is_fresh [] i after h k = k
number_is_fresh (j ∷ is) i after h (inl e) = h.0 (subst (λ n. HasNumber n (is ++ i ∷ after)) (sym e) (has_number_after is i after))
number_is_fresh (j ∷ is) i after h (inr k) = number_is_fresh is i after h.1 k

not_kept : (n : ℕ) (is : List Instance) (ks : List (ℕ × Kept)) → AreKept is ks → ¬ HasNumber n is → lookup (nat_eq n) ks ≡ None
not_kept n [] ks h fresh = ap (lookup (nat_eq n)) h
not_kept n (i ∷ is) ks h fresh =
    ap (lookup (nat_eq n)) h.4 ∙ by_test (nat_eq n i.number) refl (not_kept n is h.1 h.3 (λ k. fresh (inr k)))
  where
    by_test : (b : Bool) → nat_eq n i.number ≡ b → lookup (nat_eq n) h.1 ≡ None → lookup (nat_eq n) ((i.number, h.0) ∷ h.1) ≡ None
    by_test true e rest = absurd (fresh (inl (sym (eqb-true n i.number e))))
    by_test false e rest = ap (λ b. cond b (Some h.0) (lookup (nat_eq n) h.1)) e ∙ rest

-- One instance more.

pub kept_more : (is : List Instance) (i : Instance) (ks : List (ℕ × Kept)) (k : Kept) → AreKept is ks → IsEntryOf i k.row k.entry → AreKept (is ++ i ∷ []) (ks ++ (i.number, k) ∷ [])
kept_more [] i ks k h e = (k, [], e, refl, ap (λ js. js ++ (i.number, k) ∷ []) h)
kept_more (j ∷ is) i ks k h e = (h.0, h.1 ++ (i.number, k) ∷ [], h.2, kept_more is i h.1 k h.3 e, ap (λ js. js ++ (i.number, k) ∷ []) h.4)

-- The instance at a place.

fresh_at : (is : List Instance) (at : ℕ) (i : Instance) (ks : List (ℕ × Kept)) → NumbersDiffer is → slice_get is at ≡ Some i → AreKept (take at is) ks → lookup (nat_eq i.number) ks ≡ None
fresh_at is at i ks differ e h =
    let fresh = number_is_fresh (take at is) i (drop (at + 1) is) (subst NumbersDiffer (split_at is at i e) differ) in
    not_kept i.number (take at is) ks h fresh

kept_at : (is : List Instance) (at : ℕ) (i : Instance) (ks : List (ℕ × Kept)) (k : Kept) → slice_get is at ≡ Some i → AreKept (take at is) ks → IsEntryOf i k.row k.entry → AreKept (take (at + 1) is) (ks ++ (i.number, k) ∷ [])
kept_at is at i ks k e h entry = subst (λ js. AreKept js (ks ++ (i.number, k) ∷ [])) (sym (take_next is at i e)) (kept_more (take at is) i ks k h entry)

-- a map of what is kept takes one more instance
pub map_at : {S : Type 0} (is : List Instance) (at : ℕ) (m : IndexMap ℕ Kept S) (es : List (ℕ × Kept)) → NumbersDiffer is → AreKept (take at is) m.entries → (i : Instance) (k : Kept) → slice_get is at ≡ Some i → IsEntryOf i k.row k.entry → es ≡ insert_entry nat_eq m.entries i.number k → AreKept (take (at + 1) is) es
map_at is at m es differ h i k e entry inserted =
    let new = insert_entry-new nat_eq m i.number k (fresh_at is at i m.entries differ e h) in
    subst (AreKept (take (at + 1) is)) (sym (inserted ∙ new)) (kept_at is at i m.entries k e h entry)

pub not_none : {A : Type 0} → (o : Option A) → o ≡ None → ¬ IsSome o
not_none None e h = cc
not_none (Some x) e h = cc
