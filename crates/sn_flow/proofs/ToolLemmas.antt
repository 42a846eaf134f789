-- First uses of numbers, and the places of numbers in a list.
use Rattle.std.proofs.Common.{◌≡◌, ◌↔◌, refl, subst, sym, ◌∙◌, ap, ℕ, zero, suc, ◌+◌, ◌-◌, ◌<◌, ◌≤◌, Bool, true, false, not, cond, List, [], ◌∷◌, ◌++◌, length, get_or, take, arith}
use Rattle.std.proofs.lemmas.Bool.{false≢true}
use Rattle.std.specs.Prelude.{nat_eq}
use Rattle.std.specs.List.{filter, list_any, Contains, position_or_len}
use Rattle.std.proofs.lemmas.List.Elements.{filter-append, Contains-get_or}
use Rattle.std.proofs.lemmas.List.Folds.{list_any_at, Any-from_list_any}
use Rattle.std.proofs.lemmas.Grind.{common_steps}
use Rattle.sn_flow.specs.Tools.{first_uses, number_in}
use Rattle.sn_flow.specs.Gathered.{used_then}

-- whether the number is among these
abbrev pub has : List ℕ → ℕ → Bool
has ns n = list_any (λ k. nat_eq k n) ns

-- these without the number
abbrev pub without : ℕ → List ℕ → List ℕ
without n ns = filter (λ k. not (nat_eq k n)) ns

pub has_without_step : (m n k : ℕ) (ns : List ℕ) → nat_eq m n ≡ false → has (without m ns) n ≡ has ns n → has (without m (k ∷ ns)) n ≡ has (k ∷ ns) n
has_without_step m n k ns d h = grind (arith, common_steps)

pub has-without : (m n : ℕ) → nat_eq m n ≡ false → (ns : List ℕ) → has (without m ns) n ≡ has ns n
has-without m n d [] = refl
has-without m n d (k ∷ ns) = has_without_step m n k ns d (has-without m n d ns)

has_first_uses_step : (m n : ℕ) (ns : List ℕ) → (nat_eq m n ≡ false → has (without m (first_uses ns)) n ≡ has (first_uses ns) n) → has (first_uses ns) n ≡ has ns n → has (first_uses (m ∷ ns)) n ≡ has (m ∷ ns) n
has_first_uses_step m n ns h e = grind (arith, common_steps)

-- what is used first is what is used
pub has-first_uses : (ns : List ℕ) (n : ℕ) → has (first_uses ns) n ≡ has ns n
has-first_uses [] n = refl
has-first_uses (m ∷ ns) n = has_first_uses_step m n ns (λ d. has-without m n d (first_uses ns)) (has-first_uses ns n)

grow_step : (m n : ℕ) (ns : List ℕ) → (nat_eq m n ≡ false → has (without m (first_uses ns)) n ≡ has (first_uses ns) n) → without m (first_uses ns ++ n ∷ []) ≡ without m (first_uses ns) ++ without m (n ∷ []) → first_uses (ns ++ n ∷ []) ≡ used_then (first_uses ns) n → first_uses (m ∷ ns ++ n ∷ []) ≡ used_then (first_uses (m ∷ ns)) n
grow_step m n ns h a e = grind (arith, common_steps)

pub first_uses-push : (ns : List ℕ) (n : ℕ) → first_uses (ns ++ n ∷ []) ≡ used_then (first_uses ns) n
first_uses-push [] n = refl
first_uses-push (m ∷ ns) n = grow_step m n ns (λ d. has-without m n d (first_uses ns)) (filter-append (λ k. not (nat_eq k m)) (first_uses ns) (n ∷ [])) (first_uses-push ns n)

-- Places.

-- the place from 0
abbrev pub place : List ℕ → ℕ → ℕ
place ns n = position_or_len (λ k. nat_eq k n) ns

same : (m n : ℕ) → nat_eq m n ≡ true → m ≡ n
same m n h = grind (arith, common_steps)

itself : (n : ℕ) → nat_eq n n ≡ true
itself n = grind (arith, common_steps)

pub contains_has : (ns : List ℕ) (n : ℕ) → Contains ns n → has ns n ≡ true
contains_has ns n (i, within, is) = list_any_at (λ k. nat_eq k n) ns i n within (ap (λ k. nat_eq k n) is ∙ itself n)

pub has_contains : (ns : List ℕ) (n : ℕ) → has ns n ≡ true → Contains ns n
has_contains ns n h = let (i, x, within, is, test) = Any-from_list_any (λ k. nat_eq k n) ns h in
    let Stands : ℕ → Type 0 = λ y. get_or ns i y ≡ y in
    (i, within, subst Stands (same x n test) is)

place_below_step : (m n : ℕ) (ns : List ℕ) → (has ns n ≡ true → place ns n < length ns) → has (m ∷ ns) n ≡ true → place (m ∷ ns) n < length (m ∷ ns)
place_below_step m n ns h e = grind (arith, common_steps)

pub place_below : (ns : List ℕ) (n : ℕ) → has ns n ≡ true → place ns n < length ns
place_below [] n h = absurd (cc)
place_below (m ∷ ns) n h = place_below_step m n ns (place_below ns n) h

at_place_step : (m n : ℕ) (ns : List ℕ) → (has ns n ≡ true → get_or ns (place ns n) 0 ≡ n) → has (m ∷ ns) n ≡ true → get_or (m ∷ ns) (place (m ∷ ns) n) 0 ≡ n
at_place_step m n ns h e = grind (arith, common_steps)

-- the number stands at its place
pub at_place : (ns : List ℕ) (n : ℕ) → has ns n ≡ true → get_or ns (place ns n) 0 ≡ n
at_place [] n h = absurd (cc)
at_place (m ∷ ns) n h = at_place_step m n ns (at_place ns n) h

-- none of the numbers comes again
abbrev pub AreApart : List ℕ → Type 0
AreApart [] = Unit {0}
AreApart (n ∷ ns) = (has ns n ≡ false) × AreApart ns

less_step : (m n k : ℕ) (ns : List ℕ) → (has ns n ≡ false → has (without m ns) n ≡ false) → has (k ∷ ns) n ≡ false → has (without m (k ∷ ns)) n ≡ false
less_step m n k ns h e = grind (arith, common_steps)

less : (m n : ℕ) (ns : List ℕ) → has ns n ≡ false → has (without m ns) n ≡ false
less m n [] h = refl
less m n (k ∷ ns) h = less_step m n k ns (less m n ns) h

gone_step : (m k : ℕ) (ns : List ℕ) → has (without m ns) m ≡ false → has (without m (k ∷ ns)) m ≡ false
gone_step m k ns e = grind (arith, common_steps)

gone : (m : ℕ) (ns : List ℕ) → has (without m ns) m ≡ false
gone m [] = refl
gone m (k ∷ ns) = gone_step m k ns (gone m ns)

apart_if : (m k : ℕ) (ns : List ℕ) (b : Bool) → has ns k ≡ false → AreApart (without m ns) → AreApart (cond b (k ∷ without m ns) (without m ns))
apart_if m k ns true h a = (less m k ns h, a)
apart_if m k ns false h a = a

apart_without : (m : ℕ) (ns : List ℕ) → AreApart ns → AreApart (without m ns)
apart_without m [] a = tt
apart_without m (k ∷ ns) (h, a) = apart_if m k ns (not (nat_eq k m)) h (apart_without m ns a)

pub apart-first_uses : (ns : List ℕ) → AreApart (first_uses ns)
apart-first_uses [] = tt
apart-first_uses (n ∷ ns) = (gone n (first_uses ns), apart_without n (first_uses ns) (apart-first_uses ns))

other_than : (ns : List ℕ) (m n : ℕ) → has ns m ≡ false → has ns n ≡ true → nat_eq m n ≡ false
other_than ns m n a h = elim (nat_eq m n) as (λ b. nat_eq m n ≡ b → nat_eq m n ≡ false) [
  | true ↦ λ e. absurd (false≢true (sym a ∙ (ap (has ns) (same m n e) ∙ h)))
  | false ↦ λ e. e
] refl

cond_false : (b : Bool) → b ≡ false → (p k : ℕ) → p ≡ k → cond (not b) (1 + p) 0 ≡ suc k
cond_false b e p k h = rw e (omega arith)

place_again_step : (m n k : ℕ) (ns : List ℕ) → has ns m ≡ false → has ns n ≡ true → place ns n ≡ k → place (m ∷ ns) n ≡ suc k
place_again_step m n k ns a h e = cond_false (nat_eq m n) (other_than ns m n a h) (place ns n) k e

-- of numbers none of which comes again, each has its own place
pub place_again : (ns : List ℕ) (k : ℕ) → AreApart ns → k < length ns → place ns (get_or ns k 0) ≡ k
place_again [] k a lt = absurd (omega arith)
place_again (n ∷ ns) zero a lt = rw (itself n) refl
place_again (n ∷ ns) (suc k) (h, a) lt =
    let within : k < length ns = omega arith in
    let there : has ns (get_or ns k 0) ≡ true = contains_has ns (get_or ns k 0) (Contains-get_or ns k 0 within) in
    place_again_step n (get_or ns k 0) k ns h there (place_again ns k a within)

-- The laws.

pub numbers_filled : (ns : List ℕ) (k : ℕ) → ((n : ℕ) × Contains ns n × (number_in (first_uses ns) n ≡ k)) ↔ ((1 ≤ k) × (k ≤ length (first_uses ns)))
numbers_filled ns k = (
  λ (n, used, is). let there : place (first_uses ns) n < length (first_uses ns) = place_below (first_uses ns) n (has-first_uses ns n ∙ contains_has ns n used) in (omega arith, omega arith),
  λ (least, most).
      let us = first_uses ns in
      let within : k - 1 < length us = omega arith in
      let n = get_or us (k - 1) 0 in
      let there : has us n ≡ true = contains_has us n (Contains-get_or us (k - 1) 0 within) in
      let is : place us n ≡ k - 1 = place_again us (k - 1) (apart-first_uses ns) within in
      (n, has_contains ns n (sym (has-first_uses ns n) ∙ there), omega arith),
)

pub numbers_differ : (ns : List ℕ) (n k : ℕ) → Contains ns n → Contains ns k → number_in (first_uses ns) n ≡ number_in (first_uses ns) k → n ≡ k
numbers_differ ns n k used other same =
    let left = at_place (first_uses ns) n (has-first_uses ns n ∙ contains_has ns n used) in
    let right = at_place (first_uses ns) k (has-first_uses ns k ∙ contains_has ns k other) in
    let places : place (first_uses ns) n ≡ place (first_uses ns) k = omega arith in
    sym left ∙ (ap (λ i. get_or (first_uses ns) i 0) places ∙ right)

first_at_step : (m i n : ℕ) (ns : List ℕ) → (place (take i ns) n ≡ i → get_or ns i 0 ≡ n → i < length ns → place ns n ≡ i) → place (take (suc i) (m ∷ ns)) n ≡ suc i → get_or (m ∷ ns) (suc i) 0 ≡ n → suc i < length (m ∷ ns) → place (m ∷ ns) n ≡ suc i
first_at_step m i n ns h p e lt = grind (arith, common_steps)

-- the first place at which a number stands that none before it is
pub first_at : (ns : List ℕ) (i n : ℕ) → place (take i ns) n ≡ i → get_or ns i 0 ≡ n → i < length ns → place ns n ≡ i
first_at [] i n p e lt = absurd (omega arith)
first_at (m ∷ ns) zero n p e lt = rw e (rw (itself n) refl)
first_at (m ∷ ns) (suc i) n p e lt = first_at_step m i n ns (first_at ns i n) p e lt

-- Counts.

fewer_if : (b : Bool) (k : ℕ) (ns : List ℕ) → length (cond b (k ∷ ns) ns) ≤ suc (length ns)
fewer_if true k ns = omega arith
fewer_if false k ns = omega arith

fewer_without : (n : ℕ) (ns : List ℕ) → length (without n ns) ≤ length ns
fewer_without n [] = omega arith
fewer_without n (k ∷ ns) = let h = fewer_without n ns in let i = fewer_if (not (nat_eq k n)) k (without n ns) in omega arith

pub few_first_uses : (ns : List ℕ) → length (first_uses ns) ≤ length ns
few_first_uses [] = omega arith
few_first_uses (n ∷ ns) = let h = few_first_uses ns in let i = fewer_without n (first_uses ns) in omega arith
