-- What the words of a command line cannot hold, and that each says one thing.
use Rattle.std.proofs.Common.{◌≡◌, ◌≢◌, inl, inr, ℕ, ◌<◌, List, [], ◌∷◌, ◌++◌, Option, Some, None, sym, ap, ◌∙◌, subst, arith}
use Rattle.std.proofs.lemmas.List.Elements.{All-head, All-tail}
use Rattle.std.specs.Char.{digit_value, IsAsciiAlphabetic}
use Rattle.std.specs.Prelude.{◌≤◌, ℤ, IfSome, All, unsigned_abs}
use Rattle.std.specs.Str.Parse.{AllDigits, IsNumeral}
use Rattle.sn_geom.specs.Decimal.{Decimal, Sign, unsigned, plus, minus, Exponent, sign_text, fraction_text, exponent_text, IsNumber, IsNumberText, ScalesTo, HasOneNumber, ScalesToOne}
use Rattle.sn_geom.specs.declared.limits.TheConstants.{PER_MM, PER_ONE, MOST_VALUE}
use Rattle.sn_geom.specs.declared.units.Pt3.{Pt3}
use Rattle.sn_words.specs.Reading.{cut_at}
use Rattle.sn_words.specs.WordForms.{IsSeedWord, IsPitchWord, IsLengthText, ArePointTexts, comma, IsName, IsNameByte, IsValueText, IsAssignmentWord}
use Rattle.sn_words.specs.declared.options.Assign.{Assign}
use Rattle.sn_words.proofs.Cutting.{Lacks, Lacks-append, cut_at-front, cut_at-joined, same_parts}

-- ---- numbers have no comma

digits_lack : (c : ℕ) (ds : List ℕ) → ¬ (digit_value c < 10) → AllDigits 10 ds → Lacks c ds
digits_lack c [] other all = tt
digits_lack c (d ∷ ds) other all = (λ e. other (subst (λ x. digit_value x < 10) e all.0), digits_lack c ds other all.1)

comma_is_no_digit : ¬ (digit_value comma < 10)
comma_is_no_digit low = let h : digit_value 44 < 10 = low in absurd (omega arith)

sign_lacks : (s : Sign) → Lacks comma (sign_text s)
sign_lacks unsigned = tt
sign_lacks plus = (λ e. absurd (omega arith), tt)
sign_lacks minus = (λ e. absurd (omega arith), tt)

fraction_lacks : (f : Option (List ℕ)) → IfSome f (AllDigits 10) → Lacks comma (fraction_text f)
fraction_lacks None h = tt
fraction_lacks (Some ds) h = (λ e. absurd (omega arith), digits_lack comma ds comma_is_no_digit h)

exponent_lacks : (e : Option Exponent) → IfSome e (λ e. IsNumeral 10 e.digits) → Lacks comma (exponent_text e)
exponent_lacks None h = tt
exponent_lacks (Some e) h = (λ e. absurd (omega arith), Lacks-append comma (sign_text e.sign) e.digits (sign_lacks e.sign) (digits_lack comma e.digits comma_is_no_digit h.1))

number_lacks : (text : List ℕ) → IsNumberText text → Lacks comma text
number_lacks text (p, has) =
    let behind = Lacks-append comma (fraction_text p.fraction) (exponent_text p.exponent) (fraction_lacks p.fraction has.fraction) (exponent_lacks p.exponent has.exponent) in
    let digits = Lacks-append comma p.whole (fraction_text p.fraction ++ exponent_text p.exponent) (digits_lack comma p.whole comma_is_no_digit has.whole.1) behind in
    subst (Lacks comma) (sym has.spelled) (Lacks-append comma (sign_text p.sign) (p.whole ++ (fraction_text p.fraction ++ exponent_text p.exponent)) (sign_lacks p.sign) digits)

pub length_lacks : (text : List ℕ) (z : ℤ) → IsLengthText text z → Lacks comma text
length_lacks text z h = number_lacks text (h.reads.0, h.reads.1)

-- ---- names have no equals sign, and begin with no minus sign

letter_is_no : (c : ℕ) → IsAsciiAlphabetic c → (c ≢ 61) × (c ≢ 45)
letter_is_no c (inl h) = (λ e. absurd (omega arith), λ e. absurd (omega arith))
letter_is_no c (inr h) = (λ e. absurd (omega arith), λ e. absurd (omega arith))

name_byte_is_no : (c : ℕ) → IsNameByte c → c ≢ 61
name_byte_is_no c (inl (inl (inl h))) e = absurd (omega arith)
name_byte_is_no c (inl (inl (inr h))) e = absurd (omega arith)
name_byte_is_no c (inl (inr h)) e = absurd (omega arith)
name_byte_is_no c (inr h) e = absurd (omega arith)

name_bytes_lack : (cs : List ℕ) → All IsNameByte cs → Lacks 61 cs
name_bytes_lack [] h = tt
name_bytes_lack (c ∷ cs) h = (name_byte_is_no c (All-head IsNameByte c cs h), name_bytes_lack cs (All-tail IsNameByte c cs h))

name_lacks : (name : List ℕ) → IsName name → Lacks 61 name
name_lacks [] h = absurd h
name_lacks (c ∷ cs) h = ((letter_is_no c h.0).0, name_bytes_lack cs h.1)

no_minus : (name text rest : List ℕ) → IsName name → 45 ∷ rest ≡ name ++ text → ⊥
no_minus [] text rest h e = h
no_minus (c ∷ cs) text rest h e = let same : c ≡ 45 = cc in (letter_is_no c h.0).1 same

pub no_assignment : (rest : List ℕ) (a : Assign) → ¬ IsAssignmentWord (45 ∷ rest) a
no_assignment rest a h = no_minus a.name (61 ∷ h.text) rest h.name h.order

-- ---- each word says one thing

pub seed_same : (word : List ℕ) (a b : ℕ) → IsSeedWord word a → IsSeedWord word b → a ≡ b
seed_same word a b h k = sym h.value ∙ k.value

pub pitch_same : (word : List ℕ) (a b : ℕ) → IsPitchWord word a → IsPitchWord word b → a ≡ b
pitch_same word a b h k = sym h.value ∙ k.value

scaled_same : HasOneNumber → ScalesToOne → (text : List ℕ) (d e : Decimal) (k : ℕ) (a b : ℤ) → IsNumber text d → IsNumber text e
    → ScalesTo d k a → ScalesTo e k b → a ≡ b
scaled_same one once text d e k a b h i s t =
    let same : d ≡ e = one text d e h i in
    let only = once e k in
    only.2 a (subst (λ x. ScalesTo x k a) same s) ∙ sym (only.2 b t)

length_same : HasOneNumber → ScalesToOne → (text : List ℕ) (a b : ℤ) → IsLengthText text a → IsLengthText text b → a ≡ b
length_same one once text a b h k = scaled_same one once text h.number k.number PER_MM a b h.reads k.reads h.value k.value

value_same : HasOneNumber → ScalesToOne → (text : List ℕ) (a b : ℤ) → IsValueText text a → IsValueText text b → a ≡ b
value_same one once text a b h k = scaled_same one once text h.number k.number PER_ONE a b h.reads k.reads h.scaled k.scaled

abbrev point_at : ℤ → ℤ → ℤ → Pt3
point_at x y z = record { x = x; y = y; z = z }

pub point_same : HasOneNumber → ScalesToOne → (x y z : List ℕ) (p q : Pt3) → ArePointTexts x y z p → ArePointTexts x y z q → p ≡ q
point_same one once x y z p q h k =
    let ex = length_same one once x p.x q.x h.x_is k.x_is in
    let ey = length_same one once y p.y q.y h.y_is k.y_is in
    let ez = length_same one once z p.z q.z h.z_is k.z_is in
    ap (λ t. point_at t p.y p.z) ex ∙ ap (λ t. point_at q.x t p.z) ey ∙ ap (λ t. point_at q.x q.y t) ez

-- an assignment's word is cut at its first equals sign
pub assignment_cut : (word : List ℕ) (a : Assign) (h : IsAssignmentWord word a) → cut_at 61 word ≡ Some (a.name, h.text)
assignment_cut word a h = ap (cut_at 61) h.order ∙ cut_at-front 61 a.name h.text (name_lacks a.name h.name)

abbrev assign_of : List ℕ → ℤ → Assign
assign_of name value = record { name = name; value = value }

pub assignment_same : HasOneNumber → ScalesToOne → (word : List ℕ) (a b : Assign) → IsAssignmentWord word a → IsAssignmentWord word b → a ≡ b
assignment_same one once word a b h k =
    let parts = same_parts a.name h.text b.name k.text (sym (assignment_cut word a h) ∙ assignment_cut word b k) in
    let values = value_same one once k.text a.value b.value (subst (λ t. IsValueText t a.value) parts.1 h.value) k.value in
    ap (λ n. assign_of n a.value) parts.0 ∙ ap (assign_of b.name) values

-- ---- reading an assignment

pub no_equals_sign : (word : List ℕ) → cut_at 61 word ≡ None → (a : Assign) → ¬ IsAssignmentWord word a
no_equals_sign word none a h = let cut = assignment_cut word a h in cc

pub no_name : (word name text : List ℕ) → cut_at 61 word ≡ Some (name, text) → ¬ IsName name → (a : Assign) → ¬ IsAssignmentWord word a
no_name word name text cut not a h =
    let parts = same_parts a.name h.text name text (sym (assignment_cut word a h) ∙ cut) in
    not (subst IsName parts.0 h.name)

pub no_value : (word name text : List ℕ) → cut_at 61 word ≡ Some (name, text) → ((v : ℤ) → IsValueText text v → unsigned_abs v ≤ MOST_VALUE → ⊥)
    → (a : Assign) → ¬ IsAssignmentWord word a
no_value word name text cut none a h =
    let parts = same_parts a.name h.text name text (sym (assignment_cut word a h) ∙ cut) in
    none a.value (subst (λ t. IsValueText t a.value) parts.1 h.value) h.within

pub assignment_read : (word name text : List ℕ) (v u : ℤ) → cut_at 61 word ≡ Some (name, text) → IsName name → u ≡ v → IsValueText text v
    → unsigned_abs v ≤ MOST_VALUE → IsAssignmentWord word (record { name = name; value = u })
assignment_read word name text v u cut is_name same value within = record {
  text = text;
  order = cut_at-joined 61 word name text cut;
  name = is_name;
  value = subst (IsValueText text) (sym same) value;
  within = rw same within;
}
