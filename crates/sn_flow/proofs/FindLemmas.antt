-- The first number that passes a test.
use Rattle.std.proofs.Common.{◌≡◌, refl, sym, ◌∙◌, ℕ, zero, suc, ◌+◌, ◌<◌, Bool, true, false, cond, List, [], ◌∷◌, length, get_or, take, Option, Some, None, arith}
use Rattle.std.specs.List.{find}

some_is_not_none : {A : Type 0} {x : A} → Some x ≡ None → ⊥
some_is_not_none e = cc

cond_true : {A : Type 0} (b : Bool) (x y : A) → b ≡ true → cond b x y ≡ x
cond_true true x y e = refl
cond_true false x y e = absurd (cc)

cond_false : {A : Type 0} (b : Bool) (x y : A) → b ≡ false → cond b x y ≡ y
cond_false false x y e = refl
cond_false true x y e = absurd (cc)

-- the first does not pass, and none of the others
passed_over : (b : Bool) (x : ℕ) (o : Option ℕ) → cond b (Some x) o ≡ None → (b ≡ false) × (o ≡ None)
passed_over false x o e = (refl, e)
passed_over true x o e = absurd (some_is_not_none e)

pub find_here : (p : ℕ → Bool) (xs : List ℕ) (i : ℕ) → i < length xs → find p (take i xs) ≡ None → p (get_or xs i 0) ≡ true → Some (get_or xs i 0) ≡ find p xs
find_here p [] i within none passes = absurd (omega arith)
find_here p (x ∷ xs) zero within none passes = sym (cond_true (p x) (Some x) (find p xs) passes)
find_here p (x ∷ xs) (suc i) within none passes =
    let over = passed_over (p x) x (find p (take i xs)) none in
    find_here p xs i (omega arith) over.1 passes ∙ sym (cond_false (p x) (Some x) (find p xs) over.0)

find_next : (p : ℕ → Bool) (xs : List ℕ) (i : ℕ) → i < length xs → find p (take i xs) ≡ None → p (get_or xs i 0) ≡ false → find p (take (suc i) xs) ≡ None
find_next p [] i within none fails = absurd (omega arith)
find_next p (x ∷ xs) zero within none fails = cond_false (p x) (Some x) None fails
find_next p (x ∷ xs) (suc i) within none fails =
    let over = passed_over (p x) x (find p (take i xs)) none in
    cond_false (p x) (Some x) (find p (take (suc i) xs)) over.0 ∙ find_next p xs i (omega arith) over.1 fails

pub find_more : (p : ℕ → Bool) (xs : List ℕ) (i : ℕ) → i < length xs → find p (take i xs) ≡ None → p (get_or xs i 0) ≡ false → find p (take (i + 1) xs) ≡ None
find_more p xs i within none fails = let next : i + 1 ≡ suc i = omega arith in rw next (find_next p xs i within none fails)
