use Rattle.std.proofs.Common.{◌≡◌, ◌++◌, ℕ, Bool, ℤ, w16, to_z, of_z, FitsSigned, sym, ap, ◌∙◌, arith}
use Rattle.std.proofs.lemmas.Int.{to_z-of_z, fits_signed_from_abs}
use Rattle.std.specs.Str.Parse.{digits_value, digits_value_after}
use Rattle.sn_geom.specs.Decimal.{Decimal}
use Rattle.sn_geom.proofs.DigitValues.{digits_value_after-append, digits_value-front}
use Rattle.sn_geom.proofs.decimal.dec_of.Goals as goal
use Rattle.sn_geom.proofs.decimal.dec_of.Goals.{In_ok-whole}

-- the digits of the fraction stand behind the whole ones
joined : (c : In_ok-whole) → digits_value_after 10 c.in_ok-whole.whole c.args.parts.now.fraction.now ≡ digits_value 10 (c.args.parts.now.whole.now ++ c.args.parts.now.fraction.now)
joined c =
    ap (λ n. digits_value_after 10 n c.args.parts.now.fraction.now) c.in_ok-whole.ensures.1 ∙ sym (digits_value_after-append 0 c.args.parts.now.whole.now c.args.parts.now.fraction.now)

same_decimal : (b : Bool) (m n : ℕ) (e f : ℤ) → m ≡ n → e ≡ f → ◌≡◌ {A = Decimal} (record { negative = b; digits = m; exponent = e }) (record { negative = b; digits = n; exponent = f })
same_decimal b m n e f p q = cc

pub returns-in_err-whole : goal.returns-in_err-whole
returns-in_err-whole c = rw c.from_residual.ensures (λ h.
    let least = digits_value-front c.args.parts.now.whole.now c.args.parts.now.fraction.now in
    c.in_err-whole.ensures (omega (arith, least, h.0)))

pub returns-in_err-digits : goal.returns-in_err-digits
returns-in_err-digits c = rw c.from_residual-in_err-digits.ensures (λ h.
    c.in_err-digits.ensures (omega (arith, joined (goal.at.returns-in_err-digits c).In_ok-whole, h.0)))

pub returns : goal.returns
returns c =
    let p = c.args.parts.now in
    let digits = joined (goal.at.returns c).In_ok-whole in
    let fits : FitsSigned w16 c.in_ok-exp.exp = fits_signed_from_abs w16 c.in_ok-exp.exp (omega (arith, c.in_ok-exp.ensures.within)) in
    let exponent = to_z-of_z w16 c.in_ok-exp.exp fits ∙ c.in_ok-exp.ensures.value.1 in (
      (omega (arith, digits, c.in_ok-digits.ensures.0), c.in_ok-exp.ensures.value.0),
      same_decimal p.negative c.in_ok-digits.digits _ (to_z w16 (of_z w16 c.in_ok-exp.exp)) _ (c.in_ok-digits.ensures.1 ∙ digits) exponent,
    )
