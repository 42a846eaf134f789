-- The number that was read, and its limits.
use Rattle.std.proofs.Common.{◌≡◌, ℕ, ◌^◌, ◌<◌, ◌≤◌, ◌↔◌, IfOk, Bool, ℤ, pos, ◌-ℤ◌, List, [], ◌∷◌, ◌++◌, length, Option, Some, None, IfSome, Ok, Err, SomeIff, unsigned_abs, unwrap_or, refl, sym, ap, ◌∙◌, subst, arith}
use Rattle.std.specs.Option.{ok_or}
use Rattle.std.specs.Str.Parse.{AllDigits, digits_value}
use Rattle.sn_geom.specs.Decimal.{Decimal, NumberParts, HasParts, is_negative, with_sign, decimals, all_digits, exponent_value, decimal_of, IsWithinLimits, IsNumber, IsPastLimits}
use Rattle.sn_geom.specs.NumberPieces.{ReadsParts, number_of}
use Rattle.sn_geom.specs.declared.decimal.DecFault.TheVariants.{OutOfRange}
use Rattle.sn_geom.proofs.DigitValues.{significant-few, significant-below}
use Rattle.sn_geom.proofs.NumberText.{one_reading}
use Rattle.sn_geom.proofs.Powers.{unsigned_abs-with_sign}

AllDigits-append : (ds es : List ℕ) → AllDigits 10 ds → AllDigits 10 es → AllDigits 10 (ds ++ es)
AllDigits-append [] es p q = q
AllDigits-append (d ∷ ds) es p q = (p.0, AllDigits-append ds es p.1 q)

AllDigits-decimals : (f : Option (List ℕ)) → IfSome f (AllDigits 10) → AllDigits 10 (unwrap_or f [])
AllDigits-decimals None h = tt
AllDigits-decimals (Some ds) h = h

same_decimal : (b c : Bool) (m n : ℕ) (e f : ℤ) → b ≡ c → m ≡ n → e ≡ f → ◌≡◌ {A = Decimal} (record { negative = b; digits = m; exponent = e }) (record { negative = c; digits = n; exponent = f })
same_decimal b c m n e f s p q = cc

module _ (text whole fraction power : List ℕ) (negative below : Bool) (r : ReadsParts text negative whole fraction below power) where
  pub number_is : number_of negative whole fraction below power ≡ decimal_of r.parts
  number_is =
      let digits : digits_value 10 (whole ++ fraction) ≡ digits_value 10 (all_digits r.parts) = rw (r.whole_is, r.fraction_is) refl in
      let exponent : with_sign below (digits_value 10 power) -ℤ pos (length fraction) ≡ exponent_value r.parts.exponent -ℤ pos (length (decimals r.parts)) = rw (r.power_is, r.fraction_is) refl in
      same_decimal negative (is_negative r.parts.sign) _ _ _ _ r.negative_is digits exponent

  each_digit : AllDigits 10 (all_digits r.parts)
  each_digit = AllDigits-append r.parts.whole (decimals r.parts) r.has.whole.1 (AllDigits-decimals r.parts.fraction r.has.fraction)

  power_size : unsigned_abs (exponent_value r.parts.exponent) ≡ digits_value 10 power
  power_size = ap unsigned_abs r.power_is ∙ unsigned_abs-with_sign below (digits_value 10 power)

  same_digits : digits_value 10 (whole ++ fraction) ≡ digits_value 10 (all_digits r.parts)
  same_digits = ap (λ (d : Decimal). d.digits) number_is

  limits_kept : length text ≤ 64 → (digits_value 10 (whole ++ fraction) < 10 ^ 30) × (digits_value 10 power ≤ 99) → IsWithinLimits r.parts
  limits_kept short h = record {
    bytes = subst (λ t. length t ≤ 64) r.has.spelled short;
    digits = significant-few (all_digits r.parts) 30 each_digit (omega (arith, same_digits, h.0));
    exponent = omega (arith, power_size, h.1);
  }

  limits_met : IsWithinLimits r.parts → (digits_value 10 (whole ++ fraction) < 10 ^ 30) × (digits_value 10 power ≤ 99)
  limits_met h = (omega (arith, same_digits, significant-below (all_digits r.parts) 30 each_digit h.digits), omega (arith, power_size, h.exponent))

  same_limits : (p : NumberParts) → HasParts text p → IsWithinLimits p → IsWithinLimits r.parts
  same_limits p h l = subst IsWithinLimits (one_reading text p r.parts h r.has) l

  -- what is found or refused, in the words of the public clauses
  pub read_number : (found : Option Decimal) → length text ≤ 64 → SomeIff found ((digits_value 10 (whole ++ fraction) < 10 ^ 30) × (digits_value 10 power ≤ 99)) (number_of negative whole fraction below power) → IfOk (ok_or found OutOfRange) (IsNumber text)
  read_number None short made = tt
  read_number (Some d) short made = (r.parts, r.has, limits_kept short made.0, made.1 ∙ number_is)

  pub read_every : (found : Option Decimal) → SomeIff found ((digits_value 10 (whole ++ fraction) < 10 ^ 30) × (digits_value 10 power ≤ 99)) (number_of negative whole fraction below power) → (d : Decimal) → IsNumber text d → ok_or found OutOfRange ≡ Ok d
  read_every None made d h = absurd (made (limits_met (same_limits h.0 h.1 h.2)))
  read_every (Some e) made d h = ap Ok (made.1 ∙ number_is ∙ ap decimal_of (one_reading text r.parts h.0 r.has h.1) ∙ sym h.3)

  pub read_past : (found : Option Decimal) → length text ≤ 64 → SomeIff found ((digits_value 10 (whole ++ fraction) < 10 ^ 30) × (digits_value 10 power ≤ 99)) (number_of negative whole fraction below power) → (ok_or found OutOfRange ≡ Err OutOfRange) ↔ IsPastLimits text
  read_past None short made = (λ _. (r.parts, r.has, λ l. made (limits_met l)), λ _. refl)
  read_past (Some d) short made =
      (λ e. cc, λ p. absurd (p.2 (subst IsWithinLimits (one_reading text r.parts p.0 r.has p.1) (limits_kept short made.0))))
