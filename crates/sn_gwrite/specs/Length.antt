-- MEANING: the text of a length: millimetres, as a decimal number (this project's own).
use Rattle.std.specs.Prelude.{ℕ, zero, suc, ◌≡◌, ◌+◌, ◌/◌, ◌%◌, ◌^◌, List, [], ◌∷◌, ◌++◌, length, ℤ, unsigned_abs, codes, decimal}
use Rattle.std.specs.Fmt.{sign_text}
use Rattle.std.specs.Int.{is_negative}
use Rattle.std.specs.Str.Parse.{AllDigits, IsNumeral, digits_value}
use Rattle.sn_geom.specs.Length.{IsLength}
use Rattle.sn_geom.specs.declared.limits.TheConstants.{DECIMALS, PER_MM}

-- the last digits of n at so many places, zeros among them
abbrev pub last_digits : ℕ → ℕ → List ℕ
last_digits zero n = []
last_digits (suc places) n = last_digits places (n / 10) ++ (48 + n % 10) ∷ []

-- a minus for a length below zero; the whole millimetres; a point; and what is over, in DECIMALS digits
unfoldable pub length_text : ℤ → List ℕ
length_text z = sign_text (is_negative z)
    ++ decimal (unsigned_abs z / PER_MM)
    ++ codes "."
    ++ last_digits DECIMALS (unsigned_abs z % PER_MM)

-- the text is a decimal number of millimetres with DECIMALS decimals, and its value is the length z: all its digits
-- together count units of length
pub record ShowsLength (text : List ℕ) (z : ℤ) : Type 0 where
  pub whole : List ℕ
  pub decimals : List ℕ
  pub parts : text ≡ sign_text (is_negative z) ++ whole ++ codes "." ++ decimals
  pub whole_digits : IsNumeral 10 whole
  pub decimal_digits : AllDigits 10 decimals
  pub places : length decimals ≡ DECIMALS
  pub value : digits_value 10 (whole ++ decimals) ≡ unsigned_abs z
  pub unit : 10 ^ DECIMALS ≡ PER_MM

-- the text of each length shows that length
abbrev pub LengthTextShowsLength : Type 0
LengthTextShowsLength = (z : ℤ) → IsLength z → ShowsLength (length_text z) z

-- no text shows two lengths
abbrev pub TextShowsOneLength : Type 0
TextShowsOneLength = (text : List ℕ) (y z : ℤ) → ShowsLength text y → ShowsLength text z → y ≡ z
