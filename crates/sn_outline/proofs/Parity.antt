-- Whether an odd number of edges passes a test.
use Rattle.std.proofs.Common.{◌≡◌, ℕ, ◌+◌, ◌%◌, Bool, true, false, not, cond, List, [], ◌∷◌, refl, sym, arith}
use Rattle.std.specs.List.{count_by}
use Rattle.sn_outline.proofs.Counting.{count-cons}

abbrev pub differs : Bool → Bool → Bool
differs true b = not b
differs false b = b

abbrev pub is_odd : {X : Type 0} → (X → Bool) → List X → Bool
is_odd f [] = false
is_odd f (x ∷ xs) = differs (f x) (is_odd f xs)

parity_step : (b odd : Bool) (n m : ℕ) → m ≡ cond b 1 0 + n → n % 2 ≡ cond odd 1 0 → m % 2 ≡ cond (differs b odd) 1 0
parity_step true true n m e h = omega arith
parity_step true false n m e h = omega arith
parity_step false true n m e h = omega arith
parity_step false false n m e h = omega arith

pub parity : {X : Type 0} (f : X → Bool) (xs : List X) → count_by f xs % 2 ≡ cond (is_odd f xs) 1 0
parity f [] = refl
parity f (x ∷ xs) = parity_step (f x) (is_odd f xs) (count_by f xs) _ (count-cons f x xs) (parity f xs)

pub differs-middle : (a b c : Bool) → differs (differs a b) (differs b c) ≡ differs a c
differs-middle true true true = refl
differs-middle true true false = refl
differs-middle true false true = refl
differs-middle true false false = refl
differs-middle false true true = refl
differs-middle false true false = refl
differs-middle false false true = refl
differs-middle false false false = refl

pub differs_same : (a : Bool) → differs a a ≡ false
differs_same true = refl
differs_same false = refl

pub differs_parts : (a b c d : Bool) → differs (differs a b) (differs c d) ≡ differs (differs a c) (differs b d)
differs_parts true true true true = refl
differs_parts true true true false = refl
differs_parts true true false true = refl
differs_parts true true false false = refl
differs_parts true false true true = refl
differs_parts true false true false = refl
differs_parts true false false true = refl
differs_parts true false false false = refl
differs_parts false true true true = refl
differs_parts false true true false = refl
differs_parts false true false true = refl
differs_parts false true false false = refl
differs_parts false false true true = refl
differs_parts false false true false = refl
differs_parts false false false true = refl
differs_parts false false false false = refl

pub same_from_differs : (a b : Bool) → differs a b ≡ false → a ≡ b
same_from_differs true true e = refl
same_from_differs true false e = e
same_from_differs false true e = sym e
same_from_differs false false e = refl
