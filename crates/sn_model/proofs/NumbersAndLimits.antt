-- The numbers of the instances of a model, and the limits of what they show.
use Rattle.std.proofs.Common.{◌≡◌, ℕ, ◌<◌, ℤ, Bool, cond, eqb, List, [], ◌∷◌, ◌++◌, flat_map, Option, Some, None, subst, sym, refl, ap, ◌∙◌, ⊎_elim}
use Rattle.std.proofs.Props.{props}
use Rattle.std.proofs.Math.Logic.{∥∥₁_elim}
use Rattle.std.specs.List.{AllByRecursion}
use Rattle.std.proofs.lemmas.Bool.Decides.{eqb_tells}
use Rattle.sn_p21.specs.declared.file.Instance.{Instance}
use Rattle.sn_p21.specs.Content.{Content}
use Rattle.sn_p21.specs.Grammar.{IsFile, instance_words, parts_words}
use Rattle.sn_p21.specs.PartText.{InstancesAreSpelled}
use Rattle.sn_p21.specs.Word.{Word, IsSpelled}
use Rattle.sn_entity.specs.declared.row.Kind.{Kind}
use Rattle.sn_entity.specs.declared.row.Kind.TheVariants.{L, L0, L1, Dia, Edge, Feed, Speed, N, P, V, T, Z, Z0, R, RL, B}
use Rattle.sn_entity.specs.declared.row.RowId.{RowId}
use Rattle.sn_entity.specs.declared.value.Fields.{Fields}
use Rattle.sn_entity.specs.Limits.{IsWithinKind, KeepLimits, ShowsWithinLimits}
use Rattle.sn_entity.specs.Table.{reads_of}
use Rattle.sn_model.specs.declared.model.Entry.{Entry}
use Rattle.sn_model.specs.declared.model.Entry.TheVariants.{Typed, Bad, Stranger}
use Rattle.sn_model.specs.declared.model.Kept.{Kept}
use Rattle.sn_model.specs.Built.{IsEntryOf, AreKept, HaveNumbers}
use Rattle.sn_model.specs.BuiltLaws.{KeptWithinLimits, RowsHaveNumbers}
use Rattle.sn_model.specs.ModelContent.{kept_of, entry_from, row_from}
use Rattle.sn_model.proofs.FoundLemmas.{found_is_entry}

-- Numbers.

front_all : {A : Type 0} (Claim : A → Type 0) (xs ys : List A) → AllByRecursion Claim (xs ++ ys) → AllByRecursion Claim xs
front_all Claim [] ys h = tt
front_all Claim (x ∷ xs) ys h = (h.0, front_all Claim xs ys h.1)

back_all : {A : Type 0} (Claim : A → Type 0) (xs ys : List A) → AllByRecursion Claim (xs ++ ys) → AllByRecursion Claim ys
back_all Claim [] ys h = h
back_all Claim (x ∷ xs) ys h = back_all Claim xs ys h.1

words_of : Instance → List Word
words_of i = instance_words i.number (parts_words i.parts)

numbers_from : (is : List Instance) → AllByRecursion IsSpelled (flat_map (λ i. instance_words i.number (parts_words i.parts)) is) → HaveNumbers is
numbers_from [] h = tt
numbers_from (i ∷ is) h =
    let first = front_all IsSpelled (instance_words i.number (parts_words i.parts)) (flat_map (λ j. instance_words j.number (parts_words j.parts)) is) h in
    let rest = back_all IsSpelled (instance_words i.number (parts_words i.parts)) (flat_map (λ j. instance_words j.number (parts_words j.parts)) is) h in
    (first.0.1.0.0.0, numbers_from is rest)

-- the instances of a file have numbers
pub file_numbers : InstancesAreSpelled → (f : Content) → IsFile f → HaveNumbers f.instances
file_numbers law f file = numbers_from f.instances (law f file)

found_number : (is : List Instance) (kept : List (ℕ × Kept)) (n : ℕ) (k : Kept) → AreKept is kept → HaveNumbers is → kept_of n kept ≡ Some k → 0 < n
found_number [] kept n k h numbers e = let none : None ≡ Some k = subst (λ (xs : List (ℕ × Kept)). kept_of n xs ≡ Some k) h e in absurd cc
found_number (i ∷ is) kept n k h numbers e =
    let first : cond (eqb n i.number) (Some h.0) (kept_of n h.1) ≡ Some k = subst (λ (xs : List (ℕ × Kept)). kept_of n xs ≡ Some k) h.4 e in
    ⊎_elim
    (λ same. subst (λ (j : ℕ). 0 < j) (sym same.1) numbers.0)
    (λ other. found_number is h.1 n k h.3 numbers.1 (let later : kept_of n h.1 ≡ Some k = sym (ap (λ (b : Bool). cond b (Some h.0) (kept_of n h.1)) other.0) ∙ first in later))
    (eqb_tells n i.number)

row_number : (is : List Instance) (kept : List (ℕ × Kept)) (n : ℕ) (o : Option Kept) (id : RowId) → AreKept is kept → HaveNumbers is → kept_of n kept ≡ o → row_from o ≡ Some id → 0 < n
row_number is kept n None id h numbers e row = absurd cc
row_number is kept n (Some k) id h numbers e row = found_number is kept n k h numbers e

pub rows_have_numbers : RowsHaveNumbers
rows_have_numbers m n id model row =
    ∥∥₁_elim model (hlevel props) (λ h. row_number h.0 m.kept n (kept_of n m.kept) id h.3.kept h.2 refl row)

-- Limits.

within_prop : (k : Kind) (z : ℤ) → IsProp (IsWithinKind k z)
within_prop L z = hlevel props
within_prop L0 z = hlevel props
within_prop L1 z = hlevel props
within_prop Dia z = hlevel props
within_prop Edge z = hlevel props
within_prop Feed z = hlevel props
within_prop Speed z = hlevel props
within_prop N z = hlevel props
within_prop P z = hlevel props
within_prop V z = hlevel props
within_prop T z = hlevel props
within_prop Z z = hlevel props
within_prop Z0 z = hlevel props
within_prop (R group) z = hlevel props
within_prop (RL group) z = hlevel props
within_prop B z = hlevel props

entry_limits : ShowsWithinLimits → (i : Instance) (r : Option RowId) (e : Entry) (f : Fields) → IsEntryOf i r e → e ≡ Typed f → KeepLimits (reads_of f.row) f.values
entry_limits law i (Some id) (Typed g) f h e = subst (λ (x : Fields). KeepLimits (reads_of x.row) x.values) (let same : g ≡ f = cc in same) (law i g h.1)
entry_limits law i (Some id) (Bad why) f h e = absurd cc
entry_limits law i (Some id) Stranger f h e = absurd cc
entry_limits law i None (Typed g) f h e = absurd h
entry_limits law i None (Bad why) f h e = absurd cc
entry_limits law i None Stranger f h e = absurd cc

found_limits : ShowsWithinLimits → (is : List Instance) (kept : List (ℕ × Kept)) (n : ℕ) (o : Option Kept) (f : Fields) → AreKept is kept → kept_of n kept ≡ o → entry_from o ≡ Some (Typed f) → KeepLimits (reads_of f.row) f.values
found_limits law is kept n None f h e entry = absurd cc
found_limits law is kept n (Some k) f h e entry =
    let found = found_is_entry is kept n k h e in
    entry_limits law found.0 k.row k.entry f found.1 (let same : k.entry ≡ Typed f = cc in same)

pub kept_within_limits : ShowsWithinLimits → KeptWithinLimits
kept_within_limits law m n f model entry = record {
  number = λ k r z is at. ∥∥₁_elim model (within_prop r.kind z) (λ h. (found_limits law h.0 m.kept n (kept_of n m.kept) f h.3.kept refl entry).number k r z is at);
  triple = λ k r t is at. (
    ∥∥₁_elim model (within_prop r.kind t.x) (λ h. ((found_limits law h.0 m.kept n (kept_of n m.kept) f h.3.kept refl entry).triple k r t is at).0),
    ∥∥₁_elim model (within_prop r.kind t.y) (λ h. ((found_limits law h.0 m.kept n (kept_of n m.kept) f h.3.kept refl entry).triple k r t is at).1),
    ∥∥₁_elim model (within_prop r.kind t.z) (λ h. ((found_limits law h.0 m.kept n (kept_of n m.kept) f h.3.kept refl entry).triple k r t is at).2),
  );
}
