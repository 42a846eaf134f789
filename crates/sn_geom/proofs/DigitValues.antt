-- The number that digits write, and how many of them are significant.
use Rattle.std.proofs.Common.{◌≡◌, ℕ, ◌+◌, ◌-◌, ◌*◌, ◌^◌, ◌<◌, ◌≤◌, ◌==◌, ◌≢◌, Bool, true, false, cond, List, [], ◌∷◌, ◌++◌, length, get_or, drop, refl, ap, ◌∙◌, subst, arith, one-add, ⊎_elim}
use Rattle.std.proofs.Math.Nat.{pow-suc, pow-le-pow_right, mul-le-mul_right, one-le-pow}
use Rattle.std.proofs.lemmas.Bool.Decides.{nat_tests}
use Rattle.std.proofs.lemmas.Bool.{cases_lt}
use Rattle.std.proofs.lemmas.Int.Digits.{digits_value-lt}
use Rattle.std.proofs.lemmas.List.{at_drop_more}
use Rattle.std.proofs.lemmas.Str.Parse.{digit_at}
use Rattle.std.specs.Char.{digit_value}
use Rattle.std.specs.List.{prefix_len}
use Rattle.std.specs.Str.Parse.{AllDigits, digits_value, digits_value_after}

-- a digit's value
pub digit_value-at : (ds : List ℕ) (i : ℕ) → AllDigits 10 ds → i < length ds → (digit_value (get_or ds i 0) ≡ get_or ds i 0 - 48) × (48 ≤ get_or ds i 0) × (get_or ds i 0 ≤ 57)
digit_value-at ds i each h = let r = digit_at ds i each h in grind (arith, nat_tests)

-- one digit more was read
pub digits_step : (n : ℕ) (ds : List ℕ) (i : ℕ) → AllDigits 10 ds → i < length ds → digits_value_after 10 n (drop i ds) ≡ digits_value_after 10 (n * 10 + (get_or ds i 0 - 48)) (drop (i + 1) ds)
digits_step n ds i each h =
    at_drop_more (digits_value_after 10 n) ds i 0 h ∙ ap (λ d. digits_value_after 10 (n * 10 + d) (drop (i + 1) ds)) (digit_value-at ds i each h).0

times_ten : (n d p v : ℕ) → (n * 10 + d) * p ≤ v → n * (p * 10) ≤ v
times_ten n d p v h = grind arith

-- each digit behind a number makes it ten times as great at least
pub digits_value_after-ge : (n : ℕ) (ds : List ℕ) → n * 10 ^ length ds ≤ digits_value_after 10 n ds
digits_value_after-ge n [] = omega arith
digits_value_after-ge n (d ∷ ds) = rw pow-suc (times_ten n (digit_value d) (10 ^ length ds) (digits_value_after 10 (n * 10 + digit_value d) ds) (digits_value_after-ge (n * 10 + digit_value d) ds))

pub digits_value_after-le : (n : ℕ) (ds : List ℕ) → n ≤ digits_value_after 10 n ds
digits_value_after-le n [] = omega arith
digits_value_after-le n (d ∷ ds) = omega (arith, digits_value_after-le (n * 10 + digit_value d) ds)

-- digits behind digits
pub digits_value_after-append : (n : ℕ) (ds es : List ℕ) → digits_value_after 10 n (ds ++ es) ≡ digits_value_after 10 (digits_value_after 10 n ds) es
digits_value_after-append n [] es = refl
digits_value_after-append n (d ∷ ds) es = digits_value_after-append (n * 10 + digit_value d) ds es

pub digits_value-front : (ds es : List ℕ) → digits_value 10 ds ≤ digits_value 10 (ds ++ es)
digits_value-front ds es = omega (arith, digits_value_after-append 0 ds es, digits_value_after-le (digits_value 10 ds) es)

-- ---- the digits from the first that is not 0 on

abbrev pub significant : List ℕ → List ℕ
significant ds = drop (prefix_len (λ c. c == 48) ds) ds

-- a digit other than 0 makes the number as great as its place
first_counts : (d k : ℕ) (ds : List ℕ) → digit_value d < 10 → d ≢ 48 → digits_value 10 (d ∷ ds) < 10 ^ k → length ds < k
first_counts d k ds low other h =
    let one : 1 ≤ digit_value d = grind (arith, nat_tests) in
    let place : 10 ^ length ds ≤ digits_value 10 (d ∷ ds) = omega (arith, digits_value_after-ge (0 * 10 + digit_value d) ds, mul-le-mul_right (10 ^ length ds) one) in
    ⊎_elim (λ lt. lt) (λ le. absurd (omega (arith, place, h, pow-le-pow_right {n = 10} (omega arith) le))) (cases_lt (length ds) k)

-- a number below 10 ^ k has at most k of them
few_step : (d k : ℕ) (ds : List ℕ) (t : Bool) → (d == 48) ≡ t → digit_value d < 10 → (digits_value 10 ds < 10 ^ k → length (significant ds) ≤ k) → digits_value 10 (d ∷ ds) < 10 ^ k → length (drop (cond t (1 + prefix_len (λ c. c == 48) ds) 0) (d ∷ ds)) ≤ k
few_step d k ds true e low rest h = let zero_byte : d ≡ 48 = grind (arith, nat_tests) in rw one-add (rest (subst (λ c. digits_value 10 (c ∷ ds) < 10 ^ k) zero_byte h))
few_step d k ds false e low rest h = first_counts d k ds low (λ z. grind (arith, nat_tests)) h

pub significant-few : (ds : List ℕ) (k : ℕ) → AllDigits 10 ds → digits_value 10 ds < 10 ^ k → length (significant ds) ≤ k
significant-few [] k each h = omega arith
significant-few (d ∷ ds) k each h = few_step d k ds (d == 48) refl each.0 (significant-few ds k each.1) h

-- at most k of them write a number below 10 ^ k
below_step : (d k : ℕ) (ds : List ℕ) (t : Bool) → (d == 48) ≡ t → AllDigits 10 (d ∷ ds) → (length (significant ds) ≤ k → digits_value 10 ds < 10 ^ k) → length (drop (cond t (1 + prefix_len (λ c. c == 48) ds) 0) (d ∷ ds)) ≤ k → digits_value 10 (d ∷ ds) < 10 ^ k
below_step d k ds true e each rest h = let zero_byte : 48 ≡ d = grind (arith, nat_tests) in subst (λ c. digits_value 10 (c ∷ ds) < 10 ^ k) zero_byte (rest (rw one-add at h))
below_step d k ds false e each rest h = omega (arith, digits_value-lt 10 (d ∷ ds) each, pow-le-pow_right {n = 10} (omega arith) h)

pub significant-below : (ds : List ℕ) (k : ℕ) → AllDigits 10 ds → length (significant ds) ≤ k → digits_value 10 ds < 10 ^ k
significant-below [] k each h = omega (arith, one-le-pow k 10 (omega arith))
significant-below (d ∷ ds) k each h = below_step d k ds (d == 48) refl each (significant-below ds k each.1) h
