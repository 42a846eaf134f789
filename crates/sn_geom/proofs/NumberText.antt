-- A number's text is cut in one way alone.
use Rattle.std.proofs.Common.{◌≡◌, ℕ, ◌+◌, ◌<◌, Bool, true, false, cond, List, [], ◌∷◌, ◌++◌, length, take, drop, Option, Some, None, IfSome, unwrap_or, refl, sym, ap, ◌∙◌, subst, arith, one-add}
use Rattle.std.proofs.lemmas.Bool.Decides.{nat_tests}
use Rattle.std.proofs.lemmas.List.{append-nil}
use Rattle.std.specs.Char.{digit_value, is_ascii_digit}
use Rattle.std.specs.List.{prefix_len}
use Rattle.std.specs.Str.Parse.{AllDigits, IsNumeral, digits_value}
use Rattle.sn_geom.specs.Decimal.{Sign, unsigned, plus, minus, Exponent, NumberParts, sign_text, fraction_text, exponent_text, HasParts, HasOneReading, with_sign, decimals, HasOneNumber, decimal_of}
use Rattle.sn_geom.specs.NumberPieces.{StartsWith, StartsWithDigit, EndsSign, EndsFraction, CutsSign, CutsDigits, CutsFraction, IsExponentText, ReadsExponent, ReadsParts}

-- a byte is an ASCII digit where its value is below ten
digit_value-digit : (b : ℕ) → is_ascii_digit b ≡ true → digit_value b < 10
digit_value-digit b h = grind (arith, nat_tests)

digit_value-other : (b : ℕ) → is_ascii_digit b ≡ false → digit_value b < 10 → ⊥
digit_value-other b h low = grind (arith, nat_tests)

-- a digit more in front
CutsDigits-cons : (b : ℕ) (bs : List ℕ) (n : ℕ) → digit_value b < 10 → CutsDigits bs (take n bs) (drop n bs) → CutsDigits (b ∷ bs) (take (1 + n) (b ∷ bs)) (drop (1 + n) (b ∷ bs))
CutsDigits-cons b bs n low rest = rw one-add (record { each = (low, rest.each); joined = ap (λ t. b ∷ t) rest.joined; ends = rest.ends })

CutsDigits-step : (b : ℕ) (bs : List ℕ) (n : ℕ) (t : Bool) → is_ascii_digit b ≡ t → CutsDigits bs (take n bs) (drop n bs) → CutsDigits (b ∷ bs) (take (cond t (1 + n) 0) (b ∷ bs)) (drop (cond t (1 + n) 0) (b ∷ bs))
CutsDigits-step b bs n true h rest = CutsDigits-cons b bs n (digit_value-digit b h) rest
CutsDigits-step b bs n false h rest = record { each = tt; joined = refl; ends = digit_value-other b h }

-- the digits that stand first are cut off whole
pub CutsDigits-prefix : (text : List ℕ) → CutsDigits text (take (prefix_len is_ascii_digit text) text) (drop (prefix_len is_ascii_digit text) text)
CutsDigits-prefix [] = record { each = tt; joined = refl; ends = λ h. h }
CutsDigits-prefix (b ∷ bs) = CutsDigits-step b bs (prefix_len is_ascii_digit bs) (is_ascii_digit b) refl (CutsDigits-prefix bs)

-- digits before what is no digit are told apart from what follows
pub digits_same : (ds es a b : List ℕ) → AllDigits 10 ds → AllDigits 10 es → (¬ StartsWithDigit a) → (¬ StartsWithDigit b) → ds ++ a ≡ es ++ b → (ds ≡ es) × (a ≡ b)
digits_same [] [] a b p q n m h = (refl, h)
digits_same [] (e ∷ es) a b p q n m h = absurd (n (subst StartsWithDigit (sym h) q.0))
digits_same (d ∷ ds) [] a b p q n m h = absurd (m (subst StartsWithDigit h p.0))
digits_same (d ∷ ds) (e ∷ es) a b p q n m h =
    let head : d ≡ e = cc in
    let tail : ds ++ a ≡ es ++ b = cc in
    let same = digits_same ds es a b p.1 q.1 n m tail in
    (cc, same.1)

-- a sign is told apart from what follows
pub sign_same : (s t : Sign) (a b : List ℕ) → EndsSign s a → EndsSign t b → sign_text s ++ a ≡ sign_text t ++ b → (s ≡ t) × (a ≡ b)
sign_same unsigned unsigned a b m n h = (refl, h)
sign_same unsigned plus a b m n h = absurd (m.0 (subst (StartsWith 43) (sym h) refl))
sign_same unsigned minus a b m n h = absurd (m.1 (subst (StartsWith 45) (sym h) refl))
sign_same plus unsigned a b m n h = absurd (n.0 (subst (StartsWith 43) h refl))
sign_same plus plus a b m n h = (refl, cc)
sign_same plus minus a b m n h = let e : ◌≡◌ {A = ℕ} 43 45 = cc in absurd (omega arith)
sign_same minus unsigned a b m n h = absurd (n.1 (subst (StartsWith 45) h refl))
sign_same minus plus a b m n h = let e : ◌≡◌ {A = ℕ} 45 43 = cc in absurd (omega arith)
sign_same minus minus a b m n h = (refl, cc)

-- a digit is no sign
pub EndsSign-digit : (s : Sign) (rest : List ℕ) → StartsWithDigit rest → EndsSign s rest
EndsSign-digit s [] h = absurd h
EndsSign-digit unsigned (b ∷ bs) h = (λ e. let low : digit_value 43 < 10 = subst (λ c. digit_value c < 10) e h in absurd (omega arith), λ e. let low : digit_value 45 < 10 = subst (λ c. digit_value c < 10) e h in absurd (omega arith))
EndsSign-digit plus (b ∷ bs) h = tt
EndsSign-digit minus (b ∷ bs) h = tt

-- one digit or more begin with a digit
pub StartsWithDigit-numeral : (ds rest : List ℕ) → IsNumeral 10 ds → StartsWithDigit (ds ++ rest)
StartsWithDigit-numeral [] rest h = absurd (omega arith)
StartsWithDigit-numeral (d ∷ ds) rest h = h.1.0

-- behind the digits of a fraction, or where there is none, an exponent may stand
pub EndsFraction-exponent : (f : Option (List ℕ)) (e : Option Exponent) → EndsFraction f (exponent_text e)
EndsFraction-exponent None None = λ h. h
EndsFraction-exponent None (Some e) = λ h. absurd (omega arith)
EndsFraction-exponent (Some ds) None = λ h. h
EndsFraction-exponent (Some ds) (Some e) = λ h. absurd (omega arith)

-- behind digits a fraction may stand, or an exponent
pub no_digit_first : (f : Option (List ℕ)) (e : Option Exponent) → ¬ StartsWithDigit (fraction_text f ++ exponent_text e)
no_digit_first None None = λ h. h
no_digit_first None (Some e) = λ h. absurd (omega arith)
no_digit_first (Some ds) e = λ h. absurd (omega arith)

pub fraction_same : (f g : Option (List ℕ)) (a b : List ℕ) → IfSome f (AllDigits 10) → IfSome g (AllDigits 10) → EndsFraction f a → EndsFraction g b → fraction_text f ++ a ≡ fraction_text g ++ b → (f ≡ g) × (a ≡ b)
fraction_same None None a b p q m n h = (refl, h)
fraction_same None (Some es) a b p q m n h = absurd (m (subst (StartsWith 46) (sym h) refl))
fraction_same (Some ds) None a b p q m n h = absurd (n (subst (StartsWith 46) h refl))
fraction_same (Some ds) (Some es) a b p q m n h =
    let tail : ds ++ a ≡ es ++ b = cc in
    let same = digits_same ds es a b p q m n tail in
    (ap Some same.0, same.1)

StartsWithDigit-digits : (ds : List ℕ) → IsNumeral 10 ds → StartsWithDigit ds
StartsWithDigit-digits [] h = absurd (omega arith)
StartsWithDigit-digits (d ∷ ds) h = h.1.0

exponent_same : (e f : Option Exponent) → IfSome e (λ x. IsNumeral 10 x.digits) → IfSome f (λ x. IsNumeral 10 x.digits) → exponent_text e ≡ exponent_text f → e ≡ f
exponent_same None None p q h = refl
exponent_same None (Some y) p q h = cc
exponent_same (Some x) None p q h = cc
exponent_same (Some x) (Some y) p q h =
    let tail : sign_text x.sign ++ x.digits ≡ sign_text y.sign ++ y.digits = cc in
    let same = sign_same x.sign y.sign x.digits y.digits (EndsSign-digit x.sign x.digits (StartsWithDigit-digits x.digits p)) (EndsSign-digit y.sign y.digits (StartsWithDigit-digits y.digits q)) tail in
    ap Some (ap (λ (z : Sign × List ℕ). record { sign = z.0; digits = z.1 }) (let r : ◌≡◌ {A = Sign × List ℕ} (x.sign, x.digits) (y.sign, y.digits) = cc in r))

-- what stands behind an E is an exponent only where it is cut into digits and nothing else
pub exponent_cut : (text inner r digits rest : List ℕ) (negative : Bool) → text ≡ 69 ∷ inner → CutsSign inner negative r → CutsDigits r digits rest → (e : Option Exponent) → IsExponentText text e → IsNumeral 10 digits × (rest ≡ [])
exponent_cut text inner r digits rest negative mark s d None h = let e : ◌≡◌ {A = List ℕ} [] (69 ∷ inner) = sym h.spelled ∙ mark in cc
exponent_cut text inner r digits rest negative mark s d (Some x) h =
    let front : ◌≡◌ {A = List ℕ} (69 ∷ inner) (69 ∷ (sign_text x.sign ++ x.digits)) = sym mark ∙ h.spelled in
    let tail : inner ≡ sign_text x.sign ++ x.digits = cc in
    let same = sign_same s.sign x.sign r x.digits s.ends (EndsSign-digit x.sign x.digits (StartsWithDigit-digits x.digits h.each)) (sym s.joined ∙ tail) in
    let pieces = digits_same digits x.digits rest [] d.each h.each.1 d.ends (λ z. z) (sym d.joined ∙ same.1 ∙ sym (append-nil x.digits)) in
    (subst (IsNumeral 10) (sym pieces.0) h.each, pieces.1)

-- what is cut so is an exponent
pub exponent_read : (text inner r digits rest : List ℕ) (negative : Bool) → text ≡ 69 ∷ inner → CutsSign inner negative r → CutsDigits r digits rest → 0 < length digits → rest ≡ [] → ReadsExponent text negative digits
exponent_read text inner r digits rest negative mark s d some none = record {
  exponent = Some (record { sign = s.sign; digits = digits });
  text_is = record {
    each = (some, d.each);
    spelled = mark ∙ ap (λ t. 69 ∷ t) (s.joined ∙ ap (λ t. sign_text s.sign ++ t) (d.joined ∙ ap (λ t. digits ++ t) none ∙ append-nil digits));
  };
  each = d.each;
  value = ap (λ n. with_sign n (digits_value 10 digits)) (sym s.told);
}

-- the sign and the digits that are cut off first are those of the parts
pub whole_cut : (text r whole rest : List ℕ) (negative : Bool) → CutsSign text negative r → CutsDigits r whole rest → (p : NumberParts) → HasParts text p → (whole ≡ p.whole) × (rest ≡ fraction_text p.fraction ++ exponent_text p.exponent)
whole_cut text r whole rest negative s d p h =
    let tail = fraction_text p.fraction ++ exponent_text p.exponent in
    let same = sign_same s.sign p.sign r (p.whole ++ tail) s.ends (EndsSign-digit p.sign (p.whole ++ tail) (StartsWithDigit-numeral p.whole tail h.whole)) (sym s.joined ∙ h.spelled) in
    digits_same whole p.whole rest tail d.each h.whole.1 d.ends (no_digit_first p.fraction p.exponent) (sym d.joined ∙ same.1)

-- then what is left behind the fraction is the exponent
pub fraction_cut : (rest digits last : List ℕ) → CutsFraction rest digits last → (p : NumberParts) → IfSome p.fraction (AllDigits 10) → rest ≡ fraction_text p.fraction ++ exponent_text p.exponent → (digits ≡ decimals p) × (last ≡ exponent_text p.exponent)
fraction_cut rest digits last f p each h =
    let same = fraction_same f.fraction p.fraction last (exponent_text p.exponent) f.each each f.ends (EndsFraction-exponent p.fraction p.exponent) (sym f.joined ∙ h) in
    (f.told ∙ ap (λ o. unwrap_or o []) same.0, same.1)

-- what is cut so is a number's text
pub parts_read : (text r whole rest digits last power : List ℕ) (negative below : Bool) → CutsSign text negative r → CutsDigits r whole rest → 0 < length whole → CutsFraction rest digits last → ReadsExponent last below power → ReadsParts text negative whole digits below power
parts_read text r whole rest digits last power negative below s d some f e = record {
  parts = record { sign = s.sign; whole = whole; fraction = f.fraction; exponent = e.exponent };
  has = record {
    whole = (some, d.each);
    fraction = f.each;
    exponent = e.text_is.each;
    spelled = s.joined ∙ ap (λ t. sign_text s.sign ++ t) (d.joined ∙ ap (λ t. whole ++ t) (f.joined ∙ ap (λ t. fraction_text f.fraction ++ t) e.text_is.spelled));
  };
  negative_is = s.told;
  whole_is = refl;
  fraction_is = f.told;
  power_each = e.each;
  power_is = e.value;
}

-- parts that agree one by one are the same
same_parts : (p q : NumberParts) → p.sign ≡ q.sign → p.whole ≡ q.whole → p.fraction ≡ q.fraction → p.exponent ≡ q.exponent → p ≡ q
same_parts p q s w f e =
    let each : ◌≡◌ {A = Sign × List ℕ × Option (List ℕ) × Option Exponent} (p.sign, p.whole, p.fraction, p.exponent) (q.sign, q.whole, q.fraction, q.exponent) = cc in
    ap (λ (z : Sign × List ℕ × Option (List ℕ) × Option Exponent). record { sign = z.0; whole = z.1; fraction = z.2; exponent = z.3 }) each

-- a text has its parts in one way alone
pub one_reading : HasOneReading
one_reading text p q g h =
    let a = fraction_text p.fraction ++ exponent_text p.exponent in
    let b = fraction_text q.fraction ++ exponent_text q.exponent in
    let signs = sign_same p.sign q.sign (p.whole ++ a) (q.whole ++ b) (EndsSign-digit p.sign (p.whole ++ a) (StartsWithDigit-numeral p.whole a g.whole)) (EndsSign-digit q.sign (q.whole ++ b) (StartsWithDigit-numeral q.whole b h.whole)) (sym g.spelled ∙ h.spelled) in
    let digits = digits_same p.whole q.whole a b g.whole.1 h.whole.1 (no_digit_first p.fraction p.exponent) (no_digit_first q.fraction q.exponent) signs.1 in
    let fractions = fraction_same p.fraction q.fraction (exponent_text p.exponent) (exponent_text q.exponent) g.fraction h.fraction (EndsFraction-exponent p.fraction p.exponent) (EndsFraction-exponent q.fraction q.exponent) digits.1 in
    let exponents = exponent_same p.exponent q.exponent g.exponent h.exponent fractions.1 in
    same_parts p q signs.0 digits.0 fractions.0 exponents

pub one_number : HasOneNumber
one_number text d e f g = f.3 ∙ ap decimal_of (one_reading text f.0 g.0 f.1 g.1) ∙ sym g.3
