-- The kind of a form is a function of its text, so no text has two kinds.
use Rattle.std.proofs.Common.{◌≡◌, ℕ, ◌^◌, Bool, true, false, cond, not, eqb, ltb, ◌||◌, ◌&&◌, List, [], ◌∷◌, ◌++◌, append-nil, append_assoc, refl, sym, ap, ◌∙◌, subst, arith, inl, inr, Result, Ok, Err}
use Rattle.std.proofs.lemmas.Bool.{true≢false, ne_eqb, lt-ltb, both_ways, or_right, or_left, or_from, and_parts, and_from, cond-true, cond-false, false_from_ne_true, ltb-true}
use Rattle.std.proofs.lemmas.Bool.Decides.{nat_tests}
use Rattle.std.proofs.Math.Bool.{or_assoc}
use Rattle.std.specs.List.{list_all, list_any}
use Rattle.std.specs.Char.{is_ascii_digit}
use Rattle.std.specs.Str.Parse.{digits_value}
use Rattle.sn_lex.specs.Character.{is_name_byte, is_sign, is_stray}
use Rattle.sn_lex.specs.Form.{AreDigits, IsName, IsInteger, IsPlainReal, IsScaledReal, IsBadNumber, IsInstanceNumber, doubled, IsTextOf, IsFaultyText}
use Rattle.sn_lex.specs.Reading.{offset_of}
use Rattle.sn_lex.specs.declared.token.Token.{Token}
use Rattle.sn_lex.specs.declared.token.Token.TheVariants.{FileStart, FileEnd, Keyword, Number, Integer, Real, Text, Enumeration, Binary, LeftParen, RightParen, Comma, Semicolon, Equals, Dollar, Star, End}
use Rattle.sn_lex.specs.declared.token.LexFault.{LexFault}
use Rattle.sn_lex.specs.declared.token.LexFault.TheVariants.{BadByte, OpenString, OpenComment, BadNumber, BadEnum}
use Rattle.sn_lex.specs.declared.opening.Opening.{Opening}
use Rattle.sn_lex.specs.declared.opening.Opening.TheVariants.{Word, Number as NumberOpening, Hash, Apostrophe, Point, Exclamation, Quotation, Solidus, Mark, Other}
use Rattle.sn_lex.specs.Opening.{opening_of}
use Rattle.sn_lex.proofs.Numbers.{integer_begins, none_in_nothing}
use Rattle.sn_lex.proofs.Names.{name_bytes}
use Rattle.sn_lex.proofs.Quoted.{doubled_cases}
use Rattle.sn_lex.proofs.Competes.{word_opening, number_opening, stray_cases}

-- What a text has in it.

abbrev pub has : ℕ → List ℕ → Bool
has n xs = list_any (λ c. eqb c n) xs

abbrev pub last_of : List ℕ → ℕ
last_of [] = 0
last_of (c ∷ []) = c
last_of (c ∷ d ∷ cs) = last_of (d ∷ cs)

abbrev pub is_empty : List ℕ → Bool
is_empty [] = true
is_empty (c ∷ cs) = false

-- whether an apostrophe stands in it an odd number of times
abbrev pub is_odd : List ℕ → Bool
is_odd [] = false
is_odd (c ∷ cs) = cond (eqb c 39) (not (is_odd cs)) (is_odd cs)

-- E and the signs, with which no number ends
abbrev pub breaks : ℕ → Bool
breaks c = eqb c 69 || is_sign c

abbrev pub number_kind : ℕ → Result Token LexFault
number_kind n = cond (ltb 0 n && ltb n (2 ^ 32)) (Ok (Number n)) (Err (BadNumber 0))

abbrev pub kind_at : Opening → ℕ → List ℕ → Result Token LexFault
kind_at Word c cs = cond (has 45 cs) (cond (eqb c 69) (Ok FileEnd) (Ok FileStart)) (Ok Keyword)
kind_at NumberOpening c cs = cond (breaks (last_of (c ∷ cs))) (Err (BadNumber 0)) (cond (has 46 (c ∷ cs)) (Ok Real) (Ok Integer))
kind_at Hash c cs = number_kind (digits_value 10 cs)
kind_at Apostrophe c cs = cond (is_odd cs) (Ok Text) (Err (OpenString 0))
kind_at Point c cs = cond (has 46 cs) (Ok Enumeration) (Err (BadEnum 0))
kind_at Exclamation c cs = cond (is_empty cs) (Err (BadByte 0)) (Ok Keyword)
kind_at Quotation c cs = cond (is_empty cs) (Err (BadByte 0)) (Ok Binary)
kind_at Solidus c cs = cond (is_empty cs) (Err (BadByte 0)) (Err (OpenComment 0))
kind_at (Mark t) c cs = Ok t
kind_at Other c cs = Err (BadByte 0)

-- the kind of a text that is no separator's
abbrev pub kind_of : List ℕ → Result Token LexFault
kind_of [] = Ok End
kind_of (c ∷ cs) = kind_at (opening_of c) c cs

-- the fault at the offset 0
abbrev pub at_front : LexFault → LexFault
at_front (BadByte at) = BadByte 0
at_front (OpenString at) = OpenString 0
at_front (OpenComment at) = OpenComment 0
at_front (BadNumber at) = BadNumber 0
at_front (BadEnum at) = BadEnum 0

pub has-append : (n : ℕ) (xs ys : List ℕ) → has n (xs ++ ys) ≡ (has n xs || has n ys)
has-append n [] ys = refl
has-append n (x ∷ xs) ys = ap (λ b. eqb x n || b) (has-append n xs ys) ∙ sym (or_assoc (eqb x n) (has n xs) (has n ys))

-- what only passing bytes make up has no byte that fails
pub has_none : (test : ℕ → Bool) (n : ℕ) (xs : List ℕ) → list_all test xs ≡ true → test n ≡ false → has n xs ≡ false
has_none test n [] all fails = refl
has_none test n (x ∷ xs) all fails =
    let parts = and_parts (test x) (list_all test xs) all in
    or_from (eqb x n) (has n xs) (ne_eqb x n (λ same. both_ways (test n) fails (subst (λ (k : ℕ). test k ≡ true) same parts.0))) (has_none test n xs parts.1 fails)

last_append : (xs : List ℕ) (c : ℕ) (cs : List ℕ) → last_of (xs ++ c ∷ cs) ≡ last_of (c ∷ cs)
last_append [] c cs = refl
last_append (x ∷ []) c cs = refl
last_append (x ∷ y ∷ xs) c cs = last_append (y ∷ xs) c cs

last_digit : (ds : List ℕ) → AreDigits ds → is_ascii_digit (last_of ds) ≡ true
last_digit [] digits = absurd (omega (arith, digits.0))
last_digit (d ∷ []) digits = (and_parts (is_ascii_digit d) true digits.1).0
last_digit (d ∷ e ∷ ds) digits = last_digit (e ∷ ds) (omega arith, (and_parts (is_ascii_digit d) (list_all is_ascii_digit (e ∷ ds)) digits.1).1)

last_integer : (w : List ℕ) → IsInteger w → is_ascii_digit (last_of w) ≡ true
last_integer w (inl digits) = last_digit w digits
last_integer w (inr (s, [], sign, digits, e)) = absurd (omega (arith, digits.0))
last_integer w (inr (s, d ∷ ds, sign, digits, e)) = subst (λ l. is_ascii_digit (last_of l) ≡ true) (sym e) (last_digit (d ∷ ds) digits)

no_point : (w : List ℕ) → IsInteger w → has 46 w ≡ false
no_point w (inl digits) = has_none is_ascii_digit 46 w digits.1 refl
no_point w (inr (s, ds, sign, digits, e)) =
    ap (λ l. has 46 l) e ∙ or_from (eqb s 46) (has 46 ds) (ne_eqb s 46 (λ same. true≢false (sym (subst (λ (k : ℕ). is_sign k ≡ true) same sign)))) (has_none is_ascii_digit 46 ds digits.1 refl)

digit_no_break : (c : ℕ) → is_ascii_digit c ≡ true → breaks c ≡ false
digit_no_break c digit = grind (arith, nat_tests)

-- Kinds of numbers.

number_at : (c : ℕ) (cs : List ℕ) (broken point : Bool) → (is_ascii_digit c || is_sign c) ≡ true → breaks (last_of (c ∷ cs)) ≡ broken → has 46 (c ∷ cs) ≡ point
    → kind_of (c ∷ cs) ≡ cond broken (Err (BadNumber 0)) (cond point (Ok Real) (Ok Integer))
number_at c cs broken point begins last has_point =
    ap (λ o. kind_at o c cs) (number_opening c begins)
    ∙ ap (λ b. cond b (Err (BadNumber 0)) (cond (has 46 (c ∷ cs)) (Ok Real) (Ok Integer))) last
    ∙ ap (λ b. cond broken (Err (BadNumber 0)) (cond b (Ok Real) (Ok Integer))) has_point

number_of : (text w rest : List ℕ) (broken point : Bool) → IsInteger w → text ≡ w ++ rest → breaks (last_of text) ≡ broken → has 46 text ≡ point
    → kind_of text ≡ cond broken (Err (BadNumber 0)) (cond point (Ok Real) (Ok Integer))
number_of [] w rest broken point integer same last has_point = absurd (none_in_nothing w rest same integer)
number_of (c ∷ cs) w rest broken point integer same last has_point = number_at c cs broken point (integer_begins w rest c cs integer same) last has_point

integer_kind : (w : List ℕ) → IsInteger w → kind_of w ≡ Ok Integer
integer_kind w integer = number_of w w [] false false integer (sym (append-nil w)) (digit_no_break (last_of w) (last_integer w integer)) (no_point w integer)

plain_has_point : (w f : List ℕ) → has 46 (w ++ 46 ∷ f) ≡ true
plain_has_point w f = has-append 46 w (46 ∷ f) ∙ or_right (has 46 w) true refl

last_plain : (w f : List ℕ) → list_all is_ascii_digit f ≡ true → breaks (last_of (w ++ 46 ∷ f)) ≡ false
last_plain w [] digits = ap breaks (last_append w 46 [])
last_plain w (d ∷ f) digits = ap breaks (last_append w 46 (d ∷ f)) ∙ digit_no_break (last_of (d ∷ f)) (last_digit (d ∷ f) (omega arith, digits))

plain_kind : (text : List ℕ) → IsPlainReal text → kind_of text ≡ Ok Real
plain_kind text (w, f, integer, digits, e) = number_of text w (46 ∷ f) false true integer e (ap (λ l. breaks (last_of l)) e ∙ last_plain w f digits) (ap (λ l. has 46 l) e ∙ plain_has_point w f)

-- a real with more after it
longer_kind : (text plain v : List ℕ) (broken : Bool) → IsPlainReal plain → text ≡ plain ++ 69 ∷ v → breaks (last_of (69 ∷ v)) ≡ broken → kind_of text ≡ cond broken (Err (BadNumber 0)) (Ok Real)
longer_kind text plain v broken (w, f, integer, digits, e) same last =
    number_of text w (46 ∷ (f ++ 69 ∷ v)) broken true integer (same ∙ ap (λ l. l ++ 69 ∷ v) e ∙ append_assoc w (46 ∷ f) (69 ∷ v))
    (ap (λ l. breaks (last_of l)) same ∙ ap breaks (last_append plain 69 v) ∙ last)
    (ap (λ l. has 46 l) same ∙ has-append 46 plain (69 ∷ v) ∙ or_left (has 46 plain) (has 46 (69 ∷ v)) (ap (λ l. has 46 l) e ∙ plain_has_point w f))

scaled_kind : (text : List ℕ) → IsScaledReal text → kind_of text ≡ Ok Real
scaled_kind text (plain, [], is_plain, integer, e) = absurd (none_in_nothing [] [] refl integer)
scaled_kind text (plain, d ∷ v, is_plain, integer, e) = longer_kind text plain (d ∷ v) false is_plain e (digit_no_break (last_of (d ∷ v)) (last_integer (d ∷ v) integer))

no_instance : (n : ℕ) → (IsInstanceNumber n → ⊥) → number_kind n ≡ Err (BadNumber 0)
no_instance n none = cond-false (ltb 0 n && ltb n (2 ^ 32)) _ _ (false_from_ne_true (ltb 0 n && ltb n (2 ^ 32)) out)
  where
    out : (ltb 0 n && ltb n (2 ^ 32)) ≡ true → ⊥
    out inside =
        let parts = and_parts (ltb 0 n) (ltb n (2 ^ 32)) inside in
        none (ltb-true 0 n parts.0, ltb-true n (2 ^ 32) parts.1)

bad_number_kind : (text : List ℕ) → IsBadNumber text → kind_of text ≡ Err (BadNumber 0)
bad_number_kind text (inl (s, sign, e)) = ap kind_of e ∙ number_at s [] true (has 46 (s ∷ [])) (or_right (is_ascii_digit s) (is_sign s) sign) (or_right (eqb s 69) (is_sign s) sign) refl
bad_number_kind text (inr (inl (plain, is_plain, inl e))) = longer_kind text plain [] true is_plain e refl
bad_number_kind text (inr (inl (plain, is_plain, inr (s, sign, e)))) = longer_kind text plain (s ∷ []) true is_plain e (or_right (eqb s 69) (is_sign s) sign)
bad_number_kind text (inr (inr (inl e))) = ap kind_of e
bad_number_kind text (inr (inr (inr (n, none, (digits, are, value, e))))) = ap kind_of e ∙ ap number_kind value ∙ no_instance n none

-- Kinds of strings.

double_not : (b : Bool) → not (not b) ≡ b
double_not true = refl
double_not false = refl

even_doubled : (v : List ℕ) → is_odd (doubled v) ≡ false
even_doubled [] = refl
even_doubled (c ∷ v) = elim (doubled_cases c v) [
  | inl (_, e) ↦ ap is_odd e ∙ double_not (is_odd (doubled v)) ∙ even_doubled v
  | inr (apart, e) ↦ ap is_odd e ∙ cond-false (eqb c 39) _ _ (ne_eqb c 39 apart) ∙ even_doubled v
]

odd_closed : (xs : List ℕ) → is_odd (xs ++ 39 ∷ []) ≡ not (is_odd xs)
odd_closed [] = refl
odd_closed (x ∷ xs) =
    let rest = odd_closed xs in
    elim (eqb x 39) as (λ b. cond b (not (is_odd (xs ++ 39 ∷ []))) (is_odd (xs ++ 39 ∷ [])) ≡ not (cond b (not (is_odd xs)) (is_odd xs))) [
      | true ↦ ap not rest
      | false ↦ rest
    ]

-- Kinds of tokens and of faults.

name_kind : (text : List ℕ) → IsName text → kind_of text ≡ Ok Keyword
name_kind [] is = absurd is
name_kind (c ∷ cs) is = ap (λ o. kind_at o c cs) (word_opening c is.0) ∙ cond-false (has 45 cs) _ _ (has_none is_name_byte 45 cs is.1 refl)

user_keyword_kind : (name : List ℕ) → IsName name → kind_of (33 ∷ name) ≡ Ok Keyword
user_keyword_kind [] is = absurd is
user_keyword_kind (c ∷ cs) is = refl

some_in_range : (n : ℕ) → IsInstanceNumber n → number_kind n ≡ Ok (Number n)
some_in_range n range = cond-true (ltb 0 n && ltb n (2 ^ 32)) _ _ (and_from (ltb 0 n) (ltb n (2 ^ 32)) (lt-ltb 0 n range.0) (lt-ltb n (2 ^ 32) range.1))

pub token_kind : (t : Token) (text : List ℕ) → IsTextOf t text → kind_of text ≡ Ok t
token_kind FileStart text e = ap kind_of e
token_kind FileEnd text e = ap kind_of e
token_kind Keyword text (inl name) = name_kind text name
token_kind Keyword text (inr (name, is, e)) = ap kind_of e ∙ user_keyword_kind name is
token_kind (Number n) text (range, (digits, are, value, e)) = ap kind_of e ∙ ap number_kind value ∙ some_in_range n range
token_kind Integer text integer = integer_kind text integer
token_kind Real text (inl plain) = plain_kind text plain
token_kind Real text (inr scaled) = scaled_kind text scaled
token_kind Text text (v, e) = ap kind_of e ∙ cond-true (is_odd (doubled v ++ 39 ∷ [])) _ _ (odd_closed (doubled v) ∙ ap not (even_doubled v))
token_kind Enumeration text (name, is, e) = ap kind_of e ∙ cond-true (has 46 (name ++ 46 ∷ [])) _ _ (has-append 46 name (46 ∷ []) ∙ or_right (has 46 name) true refl)
token_kind Binary text (first, digits, count, hex, e) = ap kind_of e
token_kind LeftParen text e = ap kind_of e
token_kind RightParen text e = ap kind_of e
token_kind Comma text e = ap kind_of e
token_kind Semicolon text e = ap kind_of e
token_kind Equals text e = ap kind_of e
token_kind Dollar text e = ap kind_of e
token_kind Star text e = ap kind_of e
token_kind End text e = ap kind_of e

stray_kind : (c : ℕ) → is_stray c ≡ true → kind_of (c ∷ []) ≡ Err (BadByte 0)
stray_kind c stray = elim (stray_cases c stray) [
  | inl e ↦ ap (λ k. kind_of (k ∷ [])) e
  | inr (inl e) ↦ ap (λ k. kind_of (k ∷ [])) e
  | inr (inr (inl e)) ↦ ap (λ k. kind_of (k ∷ [])) e
  | inr (inr (inr is)) ↦ ap (λ o. kind_at o c []) is
]

pub fault_kind : (f : LexFault) (text : List ℕ) → IsFaultyText f text → kind_of text ≡ Err (at_front f)
fault_kind (BadByte at) text (c, stray, e) = ap kind_of e ∙ stray_kind c stray
fault_kind (OpenString at) text (v, e) = ap kind_of e ∙ cond-false (is_odd (doubled v)) _ _ (even_doubled v)
fault_kind (OpenComment at) text (body, is, e) = ap kind_of e
fault_kind (BadNumber at) text bad = bad_number_kind text bad
fault_kind (BadEnum at) text (inl e) = ap kind_of e
fault_kind (BadEnum at) text (inr (name, is, e)) = ap kind_of e ∙ cond-false (has 46 name) _ _ (has_none is_name_byte 46 name (name_bytes name is) refl)

restore : ℕ → LexFault → LexFault
restore at (BadByte from) = BadByte at
restore at (OpenString from) = OpenString at
restore at (OpenComment from) = OpenComment at
restore at (BadNumber from) = BadNumber at
restore at (BadEnum from) = BadEnum at

restored : (f : LexFault) → restore (offset_of f) (at_front f) ≡ f
unfolding restore
restored (BadByte at) = refl
restored (OpenString at) = refl
restored (OpenComment at) = refl
restored (BadNumber at) = refl
restored (BadEnum at) = refl

-- a text is of one token, of one fault at an offset, and not of both
pub one_token : (t u : Token) (text : List ℕ) → IsTextOf t text → IsTextOf u text → t ≡ u
one_token t u text is other =
    let same : Ok t ≡ Ok u = sym (token_kind t text is) ∙ token_kind u text other in
    cc

pub one_fault : (f g : LexFault) (text : List ℕ) → IsFaultyText f text → IsFaultyText g text → offset_of f ≡ offset_of g → f ≡ g
one_fault f g text is other place =
    let same : Err (at_front f) ≡ Err (at_front g) = sym (fault_kind f text is) ∙ fault_kind g text other in
    let fronts : at_front f ≡ at_front g = cc in
    sym (restored f) ∙ ap (λ n. restore n (at_front f)) place ∙ ap (restore (offset_of g)) fronts ∙ restored g

pub token_or_fault : (t : Token) (f : LexFault) (text : List ℕ) → IsTextOf t text → IsFaultyText f text → ⊥
token_or_fault t f text is other =
    let same : Ok t ≡ Err (at_front f) = sym (token_kind t text is) ∙ fault_kind f text other in
    cc
