-- What the text of a length shows.
use Rattle.std.proofs.Common.{ℕ, eqb, get_or, zero, suc, ◌≡◌, ◌+◌, ◌*◌, ◌/◌, ◌%◌, ◌^◌, ◌<◌, ◌≤◌, List, [], ◌∷◌, ◌++◌, length, decimal, ℤ, pos, negsuc, Bool, true, false, refl, sym, ap, ◌∙◌, arith, append_assoc, append-nil, length-append}
use Rattle.std.proofs.Math.Nat.{pow-suc}
use Rattle.std.proofs.lemmas.Bool.Decides.{nat_tests}
use Rattle.std.proofs.lemmas.Fmt.{decimal_is_IsNumeral}
use Rattle.std.proofs.lemmas.Int.Digits.{digits_push, digits_value_push}
use Rattle.std.proofs.lemmas.List.Elements.{filter-append}
use Rattle.std.proofs.lemmas.Str.Parse.{digit_from_value}
use Rattle.std.specs.Char.{digit_value, is_ascii_digit}
use Rattle.std.specs.Str.Parse.{AllDigits, IsNumeral, digits_value}
use Rattle.std.specs.Int.{IsInRange, is_negative}
use Rattle.std.specs.Prelude.{unsigned_abs, filter, codes}
use Rattle.std.specs.Fmt.{sign_text}
use Rattle.sn_geom.specs.Length.{IsLength}
use Rattle.sn_geom.specs.declared.limits.TheConstants.{DECIMALS, PER_MM}
use Rattle.sn_gwrite.specs.Length.{last_digits, length_text, ShowsLength}

digit_value-digit : (d : ℕ) → d < 10 → digit_value (48 + d) ≡ d
digit_value-digit d small = grind (arith, nat_tests)

last_digits-AllDigits : (places n : ℕ) → AllDigits 10 (last_digits places n)
last_digits-AllDigits zero n = tt
last_digits-AllDigits (suc places) n =
    let below : n % 10 < 10 = omega arith in
    digits_push 10 (last_digits places (n / 10)) (48 + n % 10) (last_digits-AllDigits places (n / 10)) (rw (digit_value-digit (n % 10) below) below)

pub length-last_digits : (places n : ℕ) → length (last_digits places n) ≡ places
length-last_digits zero n = refl
length-last_digits (suc places) n = omega (arith, length-append (last_digits places (n / 10)) ((48 + n % 10) ∷ []), length-last_digits places (n / 10))

moved_up : (front power n : ℕ) → (front * power + n / 10) * 10 + n % 10 ≡ front * (power * 10) + n
moved_up front power n = omega arith

-- so many digits after others move those up by so many places
digits_value-last_digits : (front : List ℕ) (places n : ℕ) → n < 10 ^ places
    → digits_value 10 (front ++ last_digits places n) ≡ digits_value 10 front * 10 ^ places + n
digits_value-last_digits front zero n below = rw append-nil (omega arith)
digits_value-last_digits front (suc places) n below =
    let power : 10 ^ suc places ≡ 10 ^ places * 10 = pow-suc 10 places in
    let lower : n / 10 < 10 ^ places = omega arith in
    let digit : n % 10 < 10 = omega arith in
    rw (
      ← append_assoc front (last_digits places (n / 10)) ((48 + n % 10) ∷ []),
      digits_value_push 10 (front ++ last_digits places (n / 10)) (48 + n % 10),
      digit_value-digit (n % 10) digit,
      digits_value-last_digits front places (n / 10) lower,
      power,
    )
    (moved_up (digits_value 10 front) (10 ^ places) n)

pub length_text-shown : (z : ℤ) → IsLength z → ShowsLength (length_text z) z
unfolding length_text
length_text-shown z short =
    let whole = unsigned_abs z / PER_MM in
    let over = unsigned_abs z % PER_MM in
    let front = decimal_is_IsNumeral whole (omega arith) in
    record {
      whole = decimal whole;
      decimals = last_digits DECIMALS over;
      parts = refl;
      whole_digits = front.0;
      decimal_digits = last_digits-AllDigits DECIMALS over;
      places = length-last_digits DECIMALS over;
      value = rw (digits_value-last_digits (decimal whole) DECIMALS over (omega arith), front.1) (omega arith);
      unit = refl;
    }

is_digit-true : (c : ℕ) → 48 ≤ c → c ≤ 57 → is_ascii_digit c ≡ true
is_digit-true c low high = grind (arith, nat_tests)

digits_alone : (digits : List ℕ) → AllDigits 10 digits → filter is_ascii_digit digits ≡ digits
digits_alone [] all = refl
digits_alone (c ∷ cs) all =
    let range : IsInRange 48 57 c = digit_from_value c all.0 in
    let digit : is_ascii_digit c ≡ true = is_digit-true c range.0 range.1 in
    rw (digit, digits_alone cs all.1) refl

sign_text-no_digits : (negative : Bool) → filter is_ascii_digit (sign_text negative) ≡ []
sign_text-no_digits true = refl
sign_text-no_digits false = refl

-- the digits of a text that shows a length
shown_digits : (text : List ℕ) (z : ℤ) (shows : ShowsLength text z) → filter is_ascii_digit text ≡ shows.whole ++ shows.decimals
shown_digits text z shows =
    rw shows.parts (simp (
      filter-append,
      sign_text-no_digits,
      digits_alone shows.whole shows.whole_digits.1,
      digits_alone shows.decimals shows.decimal_digits,
      append-nil,
    ))

pub is_negative-pos : (n : ℕ) → is_negative (pos n) ≡ false
is_negative-pos n = grind (arith, nat_tests)

same_length : (y z : ℤ) → unsigned_abs y ≡ unsigned_abs z → is_negative y ≡ is_negative z → y ≡ z
same_length (pos m) (pos n) sizes signs = ap pos sizes
same_length (pos m) (negsuc n) sizes signs = let apart : false ≡ true = sym (is_negative-pos m) ∙ signs in cc
same_length (negsuc m) (pos n) sizes signs = let apart : true ≡ false = signs ∙ is_negative-pos n in cc
same_length (negsuc m) (negsuc n) sizes signs = let less : m ≡ n = omega arith in ap negsuc less

not_minus : (c : ℕ) → 48 ≤ c → false ≡ eqb c 45
not_minus c low = grind (arith, nat_tests)

first_byte : (negative : Bool) (whole point decimals : List ℕ) → IsNumeral 10 whole
    → negative ≡ eqb (get_or (sign_text negative ++ whole ++ point ++ decimals) 0 0) 45
first_byte true whole point decimals numeral = refl
first_byte false [] point decimals numeral = absurd (omega arith)
first_byte false (c ∷ cs) point decimals numeral =
    let range : IsInRange 48 57 c = digit_from_value c numeral.1.0 in
    not_minus c range.0

-- a text that shows a length begins with a minus exactly where the length is below zero
shown_sign : (text : List ℕ) (z : ℤ) (shows : ShowsLength text z) → is_negative z ≡ eqb (get_or text 0 0) 45
shown_sign text z shows = rw shows.parts (first_byte (is_negative z) shows.whole (codes ".") shows.decimals shows.whole_digits)

pub shown_lengths-one : (text : List ℕ) (y z : ℤ) → ShowsLength text y → ShowsLength text z → y ≡ z
shown_lengths-one text y z first second =
    same_length y z
    (sym first.value ∙ ap (digits_value 10) (sym (shown_digits text y first) ∙ shown_digits text z second) ∙ second.value)
    (shown_sign text y first ∙ sym (shown_sign text z second))
