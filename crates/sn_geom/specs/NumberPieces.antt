-- PRIVATE: a number's text cut into its pieces, each as long as it can be.
use Rattle.std.specs.Prelude.{◌≡◌, ℕ, ◌<◌, Bool, List, [], ◌∷◌, ◌++◌, Option, Some, None, IfSome, unwrap_or, length, pos, ◌-ℤ◌}
use Rattle.std.specs.Char.{digit_value}
use Rattle.std.specs.Str.Parse.{AllDigits, IsNumeral, digits_value}
use Rattle.sn_geom.specs.Decimal.{Decimal, Sign, unsigned, plus, minus, Exponent, NumberParts, sign_text, fraction_text, exponent_text, HasParts, is_negative, with_sign, decimals, exponent_value}

abbrev pub StartsWith : ℕ → List ℕ → Type 0
StartsWith c [] = ⊥
StartsWith c (b ∷ bs) = b ≡ c

abbrev pub StartsWithDigit : List ℕ → Type 0
StartsWithDigit [] = ⊥
StartsWithDigit (b ∷ bs) = digit_value b < 10

-- where no sign was taken, none stands there
abbrev pub EndsSign : Sign → List ℕ → Type 0
EndsSign unsigned rest = (¬ StartsWith 43 rest) × (¬ StartsWith 45 rest)
EndsSign plus rest = Unit {0}
EndsSign minus rest = Unit {0}

-- where no point was taken, none stands there; behind a point, no digit is left
abbrev pub EndsFraction : Option (List ℕ) → List ℕ → Type 0
EndsFraction None rest = ¬ StartsWith 46 rest
EndsFraction (Some digits) rest = ¬ StartsWithDigit rest

pub record CutsSign (text : List ℕ) (negative : Bool) (rest : List ℕ) : Type 0 where
  pub sign : Sign
  pub told : negative ≡ is_negative sign
  pub joined : text ≡ sign_text sign ++ rest
  pub ends : EndsSign sign rest

pub record CutsDigits (text digits rest : List ℕ) : Type 0 where
  pub each : AllDigits 10 digits
  pub joined : text ≡ digits ++ rest
  pub ends : ¬ StartsWithDigit rest

pub record CutsFraction (text digits rest : List ℕ) : Type 0 where
  pub fraction : Option (List ℕ)
  pub told : digits ≡ unwrap_or fraction []
  pub each : IfSome fraction (AllDigits 10)
  pub joined : text ≡ fraction_text fraction ++ rest
  pub ends : EndsFraction fraction rest

-- text is that of an exponent, or empty
pub record IsExponentText (text : List ℕ) (e : Option Exponent) : Type 0 where
  pub each : IfSome e (λ e. IsNumeral 10 e.digits)
  pub spelled : text ≡ exponent_text e

-- the exponent of text is these digits under this sign
pub record ReadsExponent (text : List ℕ) (negative : Bool) (digits : List ℕ) : Type 0 where
  pub exponent : Option Exponent
  pub text_is : IsExponentText text exponent
  pub each : AllDigits 10 digits
  pub value : exponent_value exponent ≡ with_sign negative (digits_value 10 digits)

-- the number that these signs and digits write
abbrev pub number_of : Bool → List ℕ → List ℕ → Bool → List ℕ → Decimal
number_of negative whole fraction below power = record {
  negative = negative;
  digits = digits_value 10 (whole ++ fraction);
  exponent = with_sign below (digits_value 10 power) -ℤ pos (length fraction);
}

-- the number of text is made of these signs and digits
pub record ReadsParts (text : List ℕ) (negative : Bool) (whole fraction : List ℕ) (below : Bool) (power : List ℕ) : Type 0 where
  pub parts : NumberParts
  pub has : HasParts text parts
  pub negative_is : negative ≡ is_negative parts.sign
  pub whole_is : whole ≡ parts.whole
  pub fraction_is : fraction ≡ decimals parts
  pub power_each : AllDigits 10 power
  pub power_is : exponent_value parts.exponent ≡ with_sign below (digits_value 10 power)
