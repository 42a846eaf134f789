-- The integers and the reals of a part text are texts of numbers.
use Rattle.std.proofs.Common.{◌≡◌, ℕ, ◌<◌, ◌⊎◌, true, List, [], ◌∷◌, ◌++◌, Some, None, refl, append_assoc, sym, ap, ◌∙◌, ⊎_elim, inl, inr, arith}
use Rattle.std.proofs.lemmas.List.{append-nil}
use Rattle.std.proofs.lemmas.Bool.{and_parts}
use Rattle.std.proofs.lemmas.Bool.Decides.{nat_tests}
use Rattle.std.specs.Char.{is_ascii_digit, digit_value}
use Rattle.std.specs.List.{list_all}
use Rattle.std.specs.Str.Parse.{AllDigits, IsNumeral}
use Rattle.sn_geom.specs.Decimal.{Sign, unsigned, plus, minus, sign_text, IsNumberText}
use Rattle.sn_lex.specs.Character.{is_sign}
use Rattle.sn_lex.specs.Form.{AreDigits, IsInteger, IsPlainReal, IsScaledReal}
use Rattle.sn_p21.specs.NumberText.{NumbersHaveText}

digit : (c : ℕ) → is_ascii_digit c ≡ true → digit_value c < 10
digit c h = grind (arith, nat_tests)

all_digits : (text : List ℕ) → list_all is_ascii_digit text ≡ true → AllDigits 10 text
all_digits [] h = tt
all_digits (c ∷ cs) h = let parts = and_parts (is_ascii_digit c) (list_all is_ascii_digit cs) h in (digit c parts.0, all_digits cs parts.1)

numeral : (text : List ℕ) → AreDigits text → IsNumeral 10 text
numeral text h = (h.0, all_digits text h.1)

signs : (c : ℕ) → is_sign c ≡ true → (c ≡ 43) ⊎ (c ≡ 45)
signs c h = grind (arith, nat_tests)

sign_of : (c : ℕ) → is_sign c ≡ true → (s : Sign) × (c ∷ [] ≡ sign_text s)
sign_of c h = ⊎_elim (λ e. (plus, ap (λ x. x ∷ []) e)) (λ e. (minus, ap (λ x. x ∷ []) e)) (signs c h)

-- a sign or none, and digits
Parts : List ℕ → Type 0
Parts text = (s : Sign) × (digits : List ℕ) × IsNumeral 10 digits × (text ≡ sign_text s ++ digits)

parts_of : (text : List ℕ) → IsInteger text → Parts text
unfolding Parts
parts_of text (inl digits) = (unsigned, text, numeral text digits, refl)
parts_of text (inr h) =
    let sign = sign_of h.0 h.2 in
    (sign.0, h.1, numeral h.1 h.3, h.4 ∙ ap (λ s. s ++ h.1) sign.1)

integer : (text : List ℕ) → IsInteger text → IsNumberText text
unfolding Parts
integer text i =
    let p = parts_of text i in (
      record { sign = p.0; whole = p.1; fraction = None; exponent = None },
      record {
        whole = p.2;
        fraction = tt;
        exponent = tt;
        spelled = p.3 ∙ ap (λ t. sign_text p.0 ++ t) (sym (append-nil p.1));
      },
    )

behind : (w s d f : List ℕ) → w ≡ s ++ d → w ++ f ≡ s ++ (d ++ f)
behind w s d f e = ap (λ t. t ++ f) e ∙ append_assoc s d f

plain : (text : List ℕ) → IsPlainReal text → IsNumberText text
unfolding Parts
plain text r =
    let p = parts_of r.0 r.2 in (
      record { sign = p.0; whole = p.1; fraction = Some r.1; exponent = None },
      record {
        whole = p.2;
        fraction = all_digits r.1 r.3;
        exponent = tt;
        spelled = r.4 ∙ behind r.0 (sign_text p.0) p.1 (46 ∷ r.1) p.3 ∙ ap (λ t. sign_text p.0 ++ (p.1 ++ (46 ∷ t))) (sym (append-nil r.1));
      },
    )

scaled : (text : List ℕ) → IsScaledReal text → IsNumberText text
unfolding Parts
scaled text s =
    let r = s.2 in
    let p = parts_of r.0 r.2 in
    let e = parts_of s.1 s.3 in
    let tail = 69 ∷ (sign_text e.0 ++ e.1) in (
      record { sign = p.0; whole = p.1; fraction = Some r.1; exponent = Some (record { sign = e.0; digits = e.1 }) },
      record {
        whole = p.2;
        fraction = all_digits r.1 r.3;
        exponent = e.2;
        spelled = s.4 ∙ ap (λ t. s.0 ++ (69 ∷ t)) e.3 ∙ behind s.0 r.0 (46 ∷ r.1) tail r.4 ∙ behind r.0 (sign_text p.0) p.1 (46 ∷ (r.1 ++ tail)) p.3;
      },
    )

pub numbers_have_text : NumbersHaveText
numbers_have_text = record {
  integer = integer;
  real = λ text h. ⊎_elim (λ p. plain text p) (λ s. scaled text s) h;
}
