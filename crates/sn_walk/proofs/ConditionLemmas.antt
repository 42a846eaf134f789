-- What conditions and assignments are in other words.
use Rattle.std.proofs.Common.{◌≡◌, ◌≢◌, ◌⊎◌, ◌↔◌, ℕ, ℤ, Bool, true, false, not, ◌||◌, cond, List, [], ◌∷◌, ◌++◌, Option, Some, inl, inr, refl, sym, ap, ◌∙◌, ⊎_elim, arith}
use Rattle.std.proofs.lemmas.Bool.{and_parts, and_from, false_from_ne_true}
use Rattle.std.proofs.lemmas.List.{append-nil}
use Rattle.std.proofs.lemmas.List.Elements.{Contains-append_right, All-contains, recursion_from_All, All-from_recursion}
use Rattle.std.proofs.lemmas.Slice.Eq.{bytes_eq-Decides}
use Rattle.std.specs.List.{AllByRecursion, Contains, list_all, list_any, find}
use Rattle.std.specs.Prelude.{bytes_eq, option_map}
use Rattle.sn_words.specs.declared.options.Assign.{Assign}
use Rattle.sn_walk.specs.Condition.{assigned, compares_given, differ}
use Rattle.sn_walk.specs.ConditionLaws.{ConditionsTell, AssignmentsTell}

all_told : (truth : ℕ → Bool) (ns : List ℕ) → list_all truth ns ≡ true → AllByRecursion (λ n. truth n ≡ true) ns
all_told truth [] h = tt
all_told truth (n ∷ ns) h = let parts : (truth n ≡ true) × (list_all truth ns ≡ true) = and_parts (truth n) (list_all truth ns) h in (parts.0, all_told truth ns parts.1)

all_from_each : (truth : ℕ → Bool) (ns : List ℕ) → ((n : ℕ) → Contains ns n → truth n ≡ true) → list_all truth ns ≡ true
all_from_each truth [] h = refl
all_from_each truth (n ∷ ns) h = and_from (truth n) (list_all truth ns) (h n (0, omega arith, refl)) (all_from_each truth ns (λ k c. h k (Contains-append_right (n ∷ []) ns k c)))

one_told : (truth : ℕ → Bool) (ns : List ℕ) → list_any truth ns ≡ true → (n : ℕ) × Contains ns n × (truth n ≡ true)
one_told truth [] h = absurd (cc)
one_told truth (k ∷ ns) h = by_test (one_told truth ns) (truth k) refl h
  where
    by_test : (list_any truth ns ≡ true → (n : ℕ) × Contains ns n × (truth n ≡ true)) → (b : Bool) → truth k ≡ b → (b || list_any truth ns) ≡ true → (n : ℕ) × Contains (k ∷ ns) n × (truth n ≡ true)
    by_test below true is h = (k, (0, omega arith, refl), is)
    by_test below false is h = let later : (n : ℕ) × Contains ns n × (truth n ≡ true) = below h in (later.0, Contains-append_right (k ∷ []) ns later.0 later.1, later.2)

none_told : (truth : ℕ → Bool) (ns : List ℕ) → list_any truth ns ≡ false → AllByRecursion (λ n. truth n ≡ false) ns
none_told truth [] h = tt
none_told truth (n ∷ ns) h = by_test (none_told truth ns) (truth n) refl h
  where
    by_test : (list_any truth ns ≡ false → AllByRecursion (λ k. truth k ≡ false) ns) → (b : Bool) → truth n ≡ b → (b || list_any truth ns) ≡ false → AllByRecursion (λ k. truth k ≡ false) (n ∷ ns)
    by_test below true is h = absurd (cc)
    by_test below false is h = (is, below h)

any_from_one : (truth : ℕ → Bool) (ns : List ℕ) (n : ℕ) → Contains ns n → truth n ≡ true → list_any truth ns ≡ true
any_from_one truth ns n held is = by_test (list_any truth ns) refl
  where
    by_test : (b : Bool) → list_any truth ns ≡ b → b ≡ true
    by_test true e = refl
    by_test false e = absurd (let no : truth n ≡ false = All-contains (λ k. truth k ≡ false) ns n (All-from_recursion (λ k. truth k ≡ false) ns (none_told truth ns e)) held in cc)

differ_tells : (a b : Bool) → (differ a b ≡ true) ↔ (((a ≡ true) × (b ≡ false)) ⊎ ((a ≡ false) × (b ≡ true)))
differ_tells true true = (λ e. absurd (cc), λ h. ⊎_elim (λ x. absurd (let no : true ≡ false = x.1 in cc)) (λ x. absurd (let no : true ≡ false = x.0 in cc)) h)
differ_tells true false = (λ e. inl (refl, refl), λ h. refl)
differ_tells false true = (λ e. inr (refl, refl), λ h. refl)
differ_tells false false = (λ e. absurd (cc), λ h. ⊎_elim (λ x. absurd (let no : false ≡ true = x.0 in cc)) (λ x. absurd (let no : false ≡ true = x.1 in cc)) h)

not_tells : (a : Bool) → (not a ≡ true) ↔ (a ≡ false)
not_tells true = (λ e. absurd (cc), λ e. absurd (cc))
not_tells false = (λ e. refl, λ e. refl)

pub conditions_tell : ConditionsTell
conditions_tell = record {
  all_of = λ value truth ns. (λ h n held. All-contains (λ k. truth k ≡ true) ns n (All-from_recursion (λ k. truth k ≡ true) ns (all_told truth ns h)) held, all_from_each truth ns);
  any_of = λ value truth ns. (one_told truth ns, λ h. any_from_one truth ns h.0 h.1 h.2);
  one_of = λ value truth ns a b. differ_tells (truth a) (truth b);
  opposite = λ value truth ns a. not_tells (truth a);
  compared = λ value truth ns by a b x y left right. ap (λ (o : Option ℤ). compares_given by o (value b)) left ∙ ap (λ (o : Option ℤ). compares_given by (Some x) o) right;
}

other_name : (name : List ℕ) (b : Assign) → b.name ≢ name → bytes_eq b.name name ≡ false
other_name name b other = false_from_ne_true (bytes_eq b.name name) (λ e. other ((bytes_eq-Decides b.name name).0 e))

found_behind : (name : List ℕ) (before rest : List Assign) → AllByRecursion (λ b. b.name ≢ name) before → assigned (before ++ rest) name ≡ assigned rest name
found_behind name [] rest h = refl
found_behind name (b ∷ before) rest h = ap (λ (x : Bool). option_map (λ (a : Assign). a.value) (cond x (Some b) (find (λ a. bytes_eq a.name name) (before ++ rest)))) (other_name name b h.0) ∙ found_behind name before rest h.1

pub assignments_tell : AssignmentsTell
assignments_tell = record {
  given = λ before after a name same none.
      found_behind name before (a ∷ after) (recursion_from_All (λ b. b.name ≢ name) before none)
      ∙ ap (λ (x : Bool). option_map (λ (b : Assign). b.value) (cond x (Some a) (find (λ b. bytes_eq b.name name) after))) ((bytes_eq-Decides a.name name).1 same);
  none = λ sets name none. ap (λ (all : List Assign). assigned all name) (sym (append-nil sets)) ∙ found_behind name sets [] (recursion_from_All (λ b. b.name ≢ name) sets none);
}
