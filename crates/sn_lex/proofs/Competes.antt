-- The forms by their first byte: what competes there to be the longest.
use Rattle.std.proofs.Common.{◌≡◌, ℕ, ◌≤◌, true, ◌||◌, List, [], ◌∷◌, ◌++◌, length, append_assoc, append-nil, refl, sym, ap, ◌∙◌, subst, arith, inl, inr, ◌⊎◌}
use Rattle.std.proofs.lemmas.Bool.{or_right}
use Rattle.std.proofs.lemmas.Bool.Decides.{nat_tests}
use Rattle.std.specs.Prelude.{codes}
use Rattle.std.specs.List.{list_all}
use Rattle.std.specs.Char.{is_ascii_digit, is_ascii_whitespace}
use Rattle.sn_lex.specs.Character.{is_upper, is_sign, is_stray}
use Rattle.sn_lex.specs.Form.{IsName, IsInteger, IsPlainReal, IsSeparator, IsTextOf, IsFaultyText, doubled}
use Rattle.sn_lex.specs.Reading.{IsForm, separator, token, fault, NoLongerForm}
use Rattle.sn_lex.specs.declared.token.Token.{Token}
use Rattle.sn_lex.specs.declared.token.Token.TheVariants.{FileStart, FileEnd, Keyword, Number, Integer, Real, Text, Enumeration, Binary, LeftParen, RightParen, Comma, Semicolon, Equals, Dollar, Star, End}
use Rattle.sn_lex.specs.declared.token.LexFault.{LexFault}
use Rattle.sn_lex.specs.declared.token.LexFault.TheVariants.{BadByte, OpenString, OpenComment, BadNumber, BadEnum}
use Rattle.sn_lex.specs.declared.opening.Opening.{Opening}
use Rattle.sn_lex.specs.declared.opening.Opening.TheVariants.{Word, Number as NumberOpening, Hash, Apostrophe, Point, Exclamation, Quotation, Solidus, Mark, Other}
use Rattle.sn_lex.specs.Opening.{opening_of}
use Rattle.sn_lex.proofs.Numbers.{IsNumberFront, integer_begins, front_of_plain, front_of_scaled, front_of_broken}

pub word_opening : (c : ℕ) → is_upper c ≡ true → opening_of c ≡ Word
word_opening c h = grind (arith, nat_tests)

pub number_opening : (c : ℕ) → (is_ascii_digit c || is_sign c) ≡ true → opening_of c ≡ NumberOpening
number_opening c h = grind (arith, nat_tests)

pub blank_opening : (c : ℕ) → is_ascii_whitespace c ≡ true → opening_of c ≡ Other
blank_opening c h = grind (arith, nat_tests)

-- a stray byte begins a longer form or nothing
pub stray_cases : (c : ℕ) → is_stray c ≡ true → (c ≡ 33) ⊎ ((c ≡ 34) ⊎ ((c ≡ 47) ⊎ (opening_of c ≡ Other)))
stray_cases c h = grind (arith, nat_tests)

-- the forms that begin with a byte of each kind, and perhaps more texts
abbrev pub Competes : Opening → List ℕ → Type 0
Competes Word text = IsName text ⊎ ((text ≡ codes "ISO-10303-21") ⊎ (text ≡ codes "END-ISO-10303-21"))
Competes NumberOpening text = IsNumberFront text
Competes (Mark t) text = length text ≡ 1
Competes Hash text = (digits : List ℕ) × (list_all is_ascii_digit digits ≡ true) × (text ≡ 35 ∷ digits)
Competes Apostrophe text = (value : List ℕ) × ((text ≡ 39 ∷ doubled value ++ 39 ∷ []) ⊎ (text ≡ 39 ∷ doubled value))
Competes Point text = (text ≡ 46 ∷ []) ⊎ ((name : List ℕ) × IsName name × ((text ≡ 46 ∷ name ++ 46 ∷ []) ⊎ (text ≡ 46 ∷ name)))
Competes Exclamation text = (length text ≡ 1) ⊎ ((name : List ℕ) × IsName name × (text ≡ 33 ∷ name))
Competes Quotation text = (length text ≡ 1) ⊎ IsTextOf Binary text
Competes Solidus text = (length text ≡ 1) ⊎ ((after : List ℕ) × (text ≡ 47 ∷ 42 ∷ after))
Competes Other text = length text ≡ 1

pub first_same : (c d : ℕ) (cs ds : List ℕ) → c ∷ cs ≡ d ∷ ds → c ≡ d
first_same c d cs ds same = cc

-- one lemma for each way to know the kind of the first byte
at_opening : (o : Opening) (c : ℕ) (text : List ℕ) → opening_of c ≡ o → Competes o text → Competes (opening_of c) text
at_opening o c text is competes = subst (λ (k : Opening). Competes k text) (sym is) competes

at_equal : (d c : ℕ) (text : List ℕ) → c ≡ d → Competes (opening_of d) text → Competes (opening_of c) text
at_equal d c text same competes = subst (λ (k : ℕ). Competes (opening_of k) text) (sym same) competes

at_byte : (d : ℕ) (c : ℕ) (cs ds text : List ℕ) → c ∷ cs ≡ d ∷ ds → Competes (opening_of d) text → Competes (opening_of c) text
at_byte d c cs ds text same competes = at_equal d c text (first_same c d cs ds same) competes

one_byte : (c d : ℕ) (cs : List ℕ) → c ∷ cs ≡ d ∷ [] → length (c ∷ cs) ≡ 1
one_byte c d cs same = ap length same

stray_competes : (c : ℕ) (text : List ℕ) → is_stray c ≡ true → length text ≡ 1 → Competes (opening_of c) text
stray_competes c text stray one = elim (stray_cases c stray) [
  | inl e ↦ at_equal 33 c text e (inl one)
  | inr (inl e) ↦ at_equal 34 c text e (inl one)
  | inr (inr (inl e)) ↦ at_equal 47 c text e (inl one)
  | inr (inr (inr is)) ↦ at_opening Other c text is one
]

separator_competes : (c : ℕ) (cs : List ℕ) → IsSeparator (c ∷ cs) → Competes (opening_of c) (c ∷ cs)
separator_competes c cs (inl (b, white, same)) =
    at_byte b c cs [] (c ∷ cs) same (at_opening Other b (c ∷ cs) (blank_opening b white) (one_byte c b cs same))
separator_competes c cs (inr (body, is_body, same)) =
    at_byte 47 c cs (42 ∷ (body ++ codes "*/")) (c ∷ cs) same (inr (body ++ codes "*/", same))

name_competes : (c : ℕ) (cs : List ℕ) → IsName (c ∷ cs) → Competes (opening_of c) (c ∷ cs)
name_competes c cs name = at_opening Word c (c ∷ cs) (word_opening c name.0) (inl name)

number_competes : (c : ℕ) (cs w rest : List ℕ) → IsInteger w → c ∷ cs ≡ w ++ rest → IsNumberFront (c ∷ cs) → Competes (opening_of c) (c ∷ cs)
number_competes c cs w rest integer same front = at_opening NumberOpening c (c ∷ cs) (number_opening c (integer_begins w rest c cs integer same)) front

plain_competes : (c : ℕ) (cs plain rest : List ℕ) → IsPlainReal plain → c ∷ cs ≡ plain ++ rest → IsNumberFront (c ∷ cs) → Competes (opening_of c) (c ∷ cs)
plain_competes c cs plain rest (w, f, integer, digits, e) same front =
    number_competes c cs w (46 ∷ (f ++ rest)) integer (same ∙ ap (λ l. l ++ rest) e ∙ append_assoc w (46 ∷ f) rest) front

token_competes : (t : Token) (c : ℕ) (cs : List ℕ) → IsTextOf t (c ∷ cs) → Competes (opening_of c) (c ∷ cs)
token_competes FileStart c cs same = at_byte 73 c cs (codes "SO-10303-21") (c ∷ cs) same (inr (inl same))
token_competes FileEnd c cs same = at_byte 69 c cs (codes "ND-ISO-10303-21") (c ∷ cs) same (inr (inr same))
token_competes Keyword c cs (inl name) = name_competes c cs name
token_competes Keyword c cs (inr (name, is_name, same)) = at_byte 33 c cs name (c ∷ cs) same (inr (name, is_name, same))
token_competes (Number n) c cs (range, (digits, are_digits, value, same)) = at_byte 35 c cs digits (c ∷ cs) same (digits, are_digits.1, same)
token_competes Integer c cs integer = number_competes c cs (c ∷ cs) [] integer (sym (append-nil (c ∷ cs))) (inr (inl integer))
token_competes Real c cs (inl plain) = plain_competes c cs (c ∷ cs) [] plain (sym (append-nil (c ∷ cs))) (front_of_plain (c ∷ cs) plain)
token_competes Real c cs (inr (plain, v, is_plain, integer, e)) = plain_competes c cs plain (69 ∷ v) is_plain e (front_of_scaled (c ∷ cs) (plain, v, is_plain, integer, e))
token_competes Text c cs (value, same) = at_byte 39 c cs (doubled value ++ 39 ∷ []) (c ∷ cs) same (value, inl same)
token_competes Enumeration c cs (name, is_name, same) = at_byte 46 c cs (name ++ 46 ∷ []) (c ∷ cs) same (inr (name, is_name, inl same))
token_competes Binary c cs (first, digits, count, hex, same) = at_byte 34 c cs (first ∷ digits ++ 34 ∷ []) (c ∷ cs) same (inr (first, digits, count, hex, same))
token_competes LeftParen c cs same = at_byte 40 c cs [] (c ∷ cs) same (one_byte c 40 cs same)
token_competes RightParen c cs same = at_byte 41 c cs [] (c ∷ cs) same (one_byte c 41 cs same)
token_competes Comma c cs same = at_byte 44 c cs [] (c ∷ cs) same (one_byte c 44 cs same)
token_competes Semicolon c cs same = at_byte 59 c cs [] (c ∷ cs) same (one_byte c 59 cs same)
token_competes Equals c cs same = at_byte 61 c cs [] (c ∷ cs) same (one_byte c 61 cs same)
token_competes Dollar c cs same = at_byte 36 c cs [] (c ∷ cs) same (one_byte c 36 cs same)
token_competes Star c cs same = at_byte 42 c cs [] (c ∷ cs) same (one_byte c 42 cs same)
token_competes End c cs same = absurd (omega (arith, ap length same))

bad_number_competes : (c : ℕ) (cs : List ℕ) → IsFaultyText (BadNumber 0) (c ∷ cs) → Competes (opening_of c) (c ∷ cs)
bad_number_competes c cs (inl (s, sign, same)) =
    at_byte s c cs [] (c ∷ cs) same (at_opening NumberOpening s (c ∷ cs) (number_opening s (or_right (is_ascii_digit s) (is_sign s) sign)) (inl (s, sign, same)))
bad_number_competes c cs (inr (inl (plain, is_plain, inl same))) = plain_competes c cs plain (69 ∷ []) is_plain same (front_of_broken (c ∷ cs) (plain, is_plain, inl same))
bad_number_competes c cs (inr (inl (plain, is_plain, inr (s, sign, same)))) =
    plain_competes c cs plain (69 ∷ s ∷ []) is_plain same (front_of_broken (c ∷ cs) (plain, is_plain, inr (s, sign, same)))
bad_number_competes c cs (inr (inr (inl same))) = at_byte 35 c cs [] (c ∷ cs) same ([], refl, same)
bad_number_competes c cs (inr (inr (inr (n, no_instance, (digits, are_digits, value, same))))) = at_byte 35 c cs digits (c ∷ cs) same (digits, are_digits.1, same)

fault_competes : (f : LexFault) (c : ℕ) (cs : List ℕ) → IsFaultyText f (c ∷ cs) → Competes (opening_of c) (c ∷ cs)
fault_competes (BadByte at) c cs (b, stray, same) = at_byte b c cs [] (c ∷ cs) same (stray_competes b (c ∷ cs) stray (one_byte c b cs same))
fault_competes (OpenString at) c cs (value, same) = at_byte 39 c cs (doubled value) (c ∷ cs) same (value, inr same)
fault_competes (OpenComment at) c cs (body, is_body, same) = at_byte 47 c cs (42 ∷ body) (c ∷ cs) same (inr (body, same))
fault_competes (BadNumber at) c cs bad = bad_number_competes c cs bad
fault_competes (BadEnum at) c cs (inl same) = at_byte 46 c cs [] (c ∷ cs) same (inl same)
fault_competes (BadEnum at) c cs (inr (name, is_name, same)) = at_byte 46 c cs name (c ∷ cs) same (inr (name, is_name, inr same))

pub competes : (c : ℕ) (cs : List ℕ) → IsForm (c ∷ cs) → Competes (opening_of c) (c ∷ cs)
competes c cs (separator h) = separator_competes c cs h
competes c cs (token t h) = token_competes t c cs h
competes c cs (fault f h) = fault_competes f c cs h

-- To bound the forms at a place it is enough to bound what competes there.
pub no_longer : (o : Opening) (c : ℕ) (cs : List ℕ) (len : ℕ) → opening_of c ≡ o → ((text after : List ℕ) → c ∷ cs ≡ text ++ after → Competes o text → length text ≤ len) → NoLongerForm (c ∷ cs) len
no_longer o c cs len is bound [] after same form = omega arith
no_longer o c cs len is bound (d ∷ ds) after same form =
    let heads : opening_of d ≡ o = ap opening_of (first_same d c (ds ++ after) cs (sym same)) ∙ is in
    bound (d ∷ ds) after same (subst (λ (k : Opening). Competes k (d ∷ ds)) heads (competes d ds form))
