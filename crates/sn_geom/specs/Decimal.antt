-- MEANING: numbers as text, their limits and their exact values (this project's own).
-- A number's text has an optional sign and at least one digit; then optionally a point and any digits, which may be none;
-- then optionally E, an optional sign and at least one digit.
use Rattle.std.specs.Prelude.{◌≡◌, ℕ, ◌*◌, ◌^◌, ◌<◌, ◌≤◌, ◌==◌, Bool, true, false, List, [], ◌++◌, length, drop, Option, Some, None, IfSome, unwrap_or, ℤ, pos, negsuc, ◌-ℤ◌, ◌*ℤ◌, neg_ℤ, unsigned_abs, if◌then◌else◌, codes}
use Rattle.std.specs.List.{prefix_len}
use Rattle.std.specs.Str.Parse.{AllDigits, IsNumeral, digits_value}
use Rattle.sn_geom.specs.Rounding.{RoundsTo}

-- ---- the text

-- the sign before digits: none, + or -
pub data Sign : Type 0 where
  unsigned : Sign
  plus : Sign
  minus : Sign

-- a power of ten, as it is written after the E
pub record Exponent : Type 0 where
  pub sign : Sign
  pub digits : List ℕ

-- the parts of a number's text: its digits before the point, those after it where there is a point, and its exponent
pub record NumberParts : Type 0 where
  pub sign : Sign
  pub whole : List ℕ
  pub fraction : Option (List ℕ)
  pub exponent : Option Exponent

abbrev pub sign_text : Sign → List ℕ
sign_text unsigned = []
sign_text plus = codes "+"
sign_text minus = codes "-"

abbrev pub fraction_text : Option (List ℕ) → List ℕ
fraction_text None = []
fraction_text (Some digits) = codes "." ++ digits

abbrev pub exponent_text : Option Exponent → List ℕ
exponent_text None = []
exponent_text (Some e) = codes "E" ++ (sign_text e.sign ++ e.digits)

abbrev pub text_of : NumberParts → List ℕ
text_of p = sign_text p.sign ++ (p.whole ++ (fraction_text p.fraction ++ exponent_text p.exponent))

-- p is the parts of this text: at least one digit stands first and after the E
pub record HasParts (text : List ℕ) (p : NumberParts) : Type 0 where
  pub whole : IsNumeral 10 p.whole
  pub fraction : IfSome p.fraction (AllDigits 10)
  pub exponent : IfSome p.exponent (λ e. IsNumeral 10 e.digits)
  pub spelled : text ≡ text_of p

abbrev pub IsNumberText : List ℕ → Type 0
IsNumberText text = (p : NumberParts) × HasParts text p

-- ---- the value

-- a number in decimal: its size is digits * 10 ^ exponent
pub record Decimal : Type 0 where
  pub negative : Bool
  pub digits : ℕ
  pub exponent : ℤ

abbrev pub is_negative : Sign → Bool
is_negative unsigned = false
is_negative plus = false
is_negative minus = true

abbrev pub with_sign : Bool → ℕ → ℤ
with_sign negative n = if negative then neg_ℤ (pos n) else pos n

-- the digits after the point
abbrev pub decimals : NumberParts → List ℕ
decimals p = unwrap_or p.fraction []

-- the digits before the point and after it
abbrev pub all_digits : NumberParts → List ℕ
all_digits p = p.whole ++ decimals p

abbrev pub exponent_value : Option Exponent → ℤ
exponent_value None = pos 0
exponent_value (Some e) = with_sign (is_negative e.sign) (digits_value 10 e.digits)

-- all digits as one whole number, times ten to the exponent less the count of decimals
abbrev pub decimal_of : NumberParts → Decimal
decimal_of p = record {
  negative = is_negative p.sign;
  digits = digits_value 10 (all_digits p);
  exponent = exponent_value p.exponent -ℤ pos (length (decimals p));
}

-- 10 ^ e, and 1 where e is negative
abbrev pub power_of_ten : ℤ → ℕ
power_of_ten (pos n) = 10 ^ n
power_of_ten (negsuc n) = 1

-- the value of d is the fraction numerator d / denominator d
abbrev pub numerator : Decimal → ℤ
numerator d = with_sign d.negative (d.digits * power_of_ten d.exponent)

abbrev pub denominator : Decimal → ℕ
denominator d = power_of_ten (neg_ℤ d.exponent)

-- z is the value of d times k, rounded
abbrev pub ScalesTo : Decimal → ℕ → ℤ → Type 0
ScalesTo d k z = RoundsTo (numerator d *ℤ pos k) (denominator d) z

-- ---- the limits

-- the digits from the first that is not 0 on
abbrev pub significant_digits : NumberParts → List ℕ
significant_digits p = drop (prefix_len (λ c. c == 48) (all_digits p)) (all_digits p)

pub record IsWithinLimits (p : NumberParts) : Type 0 where
  pub bytes : length (text_of p) ≤ 64
  pub digits : length (significant_digits p) ≤ 30
  pub exponent : unsigned_abs (exponent_value p.exponent) ≤ 99

-- text is a number's text within the limits, and d is the number
abbrev pub IsNumber : List ℕ → Decimal → Type 0
IsNumber text d = (p : NumberParts) × HasParts text p × IsWithinLimits p × (d ≡ decimal_of p)

-- text is a number's text past one of the limits
abbrev pub IsPastLimits : List ℕ → Type 0
IsPastLimits text = (p : NumberParts) × HasParts text p × (IsWithinLimits p → ⊥)

-- d is of the size that a Dec holds, as each number within the limits is
pub record HasDecSize (d : Decimal) : Type 0 where
  pub digits : d.digits < 10 ^ 30
  pub exponent : unsigned_abs d.exponent ≤ 200

-- ---- laws

-- a text has its parts in one way alone
abbrev pub HasOneReading : Type 0
HasOneReading = (text : List ℕ) (p q : NumberParts) → HasParts text p → HasParts text q → p ≡ q

-- so it writes one number alone
abbrev pub HasOneNumber : Type 0
HasOneNumber = (text : List ℕ) (d e : Decimal) → IsNumber text d → IsNumber text e → d ≡ e

-- a number times k is rounded to just one whole number
abbrev pub ScalesToOne : Type 0
ScalesToOne = (d : Decimal) (k : ℕ) → (z : ℤ) × ScalesTo d k z × ((w : ℤ) → ScalesTo d k w → w ≡ z)
