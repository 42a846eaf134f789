-- The value of digits, as the code adds it up.
use Rattle.std.proofs.Common.{◌≡◌, ℕ, zero, suc, ◌+◌, ◌-◌, ◌*◌, ◌^◌, ◌<◌, ◌≤◌, true, List, [], ◌∷◌, ◌++◌, length, get_or, take, drop, refl, ap, ◌∙◌, arith}
use Rattle.std.proofs.lemmas.Bool.{and_parts}
use Rattle.std.proofs.lemmas.Bool.Decides.{nat_tests}
use Rattle.std.proofs.lemmas.List.{take-append-drop, take_all}
use Rattle.std.proofs.lemmas.Int.Digits.{digits_value_more}
use Rattle.std.specs.List.{list_all}
use Rattle.std.specs.Char.{is_ascii_digit, digit_value}
use Rattle.std.specs.Str.Parse.{digits_value, digits_value_after}
use Rattle.sn_lex.specs.Form.{IsInstanceNumber}

digit_value_is : (c : ℕ) → is_ascii_digit c ≡ true → digit_value c ≡ c - 48
digit_value_is c digit = grind (arith, nat_tests)

digit_at : (ds : List ℕ) (i : ℕ) → list_all is_ascii_digit ds ≡ true → i < length ds → is_ascii_digit (get_or ds i 0) ≡ true
digit_at [] i all inside = absurd (omega arith)
digit_at (d ∷ ds) zero all inside = (and_parts (is_ascii_digit d) (list_all is_ascii_digit ds) all).0
digit_at (d ∷ ds) (suc i) all inside = digit_at ds i (and_parts (is_ascii_digit d) (list_all is_ascii_digit ds) all).1 (omega arith)

after_ge : (n : ℕ) (ds : List ℕ) → n ≤ digits_value_after 10 n ds
after_ge n [] = omega arith
after_ge n (d ∷ ds) = omega (arith, after_ge (n * 10 + digit_value d) ds)

after_append : (n : ℕ) (xs ys : List ℕ) → digits_value_after 10 n (xs ++ ys) ≡ digits_value_after 10 (digits_value_after 10 n xs) ys
after_append n [] ys = refl
after_append n (x ∷ xs) ys = after_append (n * 10 + digit_value x) xs ys

-- more digits give no smaller number
front_le : (ds : List ℕ) (i : ℕ) → digits_value 10 (take i ds) ≤ digits_value 10 ds
front_le ds i =
    let whole : digits_value 10 (take i ds ++ drop i ds) ≡ digits_value_after 10 (digits_value 10 (take i ds)) (drop i ds) = after_append 0 (take i ds) (drop i ds) in
    let same : digits_value 10 (take i ds ++ drop i ds) ≡ digits_value 10 ds = ap (λ l. digits_value 10 l) (take-append-drop i ds) in
    omega (arith, after_ge (digits_value 10 (take i ds)) (drop i ds), whole, same)

-- one more digit
pub digits_step : (ds : List ℕ) (i n : ℕ) → list_all is_ascii_digit ds ≡ true → i < length ds → n ≡ digits_value 10 (take i ds) → digits_value 10 (take (i + 1) ds) ≡ n * 10 + (get_or ds i 0 - 48)
digits_step ds i n all inside so_far =
    let more = digits_value_more 10 ds i inside in
    let digit = digit_value_is (get_or ds i 0) (digit_at ds i all inside) in
    omega (arith, more, digit, so_far)

-- a number that has left the range is no instance's number, and nor is the whole
pub too_great : (ds : List ℕ) (i n : ℕ) → list_all is_ascii_digit ds ≡ true → i < length ds → n ≡ digits_value 10 (take i ds) → 2 ^ 32 ≤ n * 10 + (get_or ds i 0 - 48) → IsInstanceNumber (digits_value 10 ds) → ⊥
too_great ds i n all inside so_far great range = omega (arith, digits_step ds i n all inside so_far, front_le ds (i + 1), range.1)

pub all_digits : (ds : List ℕ) (i n : ℕ) → length ds ≤ i → n ≡ digits_value 10 (take i ds) → n ≡ digits_value 10 ds
all_digits ds i n done so_far = so_far ∙ ap (λ l. digits_value 10 l) (take_all i ds done)
