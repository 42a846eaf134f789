-- What stands next is one token or one fault at one place.
use Rattle.std.proofs.Common.{◌≡◌, ◌≢◌, ℕ, ◌+◌, ◌-◌, ◌<◌, ◌≤◌, true, List, [], ◌∷◌, ◌++◌, length, drop, length-append, length-drop, refl, sym, ap, ◌∙◌, subst, arith, inl, inr, Option, Some, None, Ok, Err, slice_range}
use Rattle.std.proofs.lemmas.Bool.{cases_Bool, or_cases, and_from}
use Rattle.std.proofs.lemmas.List.{take-append-drop, drop-drop, length-take-le, take_all, nil_from_length}
use Rattle.std.specs.Char.{is_ascii_digit, is_ascii_whitespace}
use Rattle.sn_lex.specs.Character.{is_sign}
use Rattle.sn_lex.specs.Form.{AreSeparators, IsTextOf, IsFaultyText}
use Rattle.sn_lex.specs.Reading.{IsForm, separator, token, fault, NoLongerForm, IsNextToken, IsNextFault, offset_of, AreTokensBetween, StopsAt}
use Rattle.sn_lex.specs.Law.{TokensHaveBytes, OneTokenisation}
use Rattle.sn_lex.specs.Split.{HasNoSeparator}
use Rattle.sn_lex.specs.declared.token.Token.{Token}
use Rattle.sn_lex.specs.declared.token.Token.TheVariants.{Keyword, Integer, End}
use Rattle.sn_lex.specs.declared.token.Span.{Span}
use Rattle.sn_lex.specs.declared.token.LexFault.{LexFault}
use Rattle.sn_lex.specs.declared.token.LexFault.TheVariants.{BadByte, OpenString, BadNumber, BadEnum}
use Rattle.sn_lex.specs.declared.opening.Opening.{Opening}
use Rattle.sn_lex.specs.declared.opening.Opening.TheVariants.{Word, Number, Hash, Apostrophe, Point, Exclamation, Quotation, Solidus, Mark, Other}
use Rattle.sn_lex.specs.Opening.{opening_of}
use Rattle.sn_lex.proofs.Tokens.{word_is, number_is, hash_is, apostrophe_is, point_is, exclamation_is, quotation_is, solidus_is, mark_text, other_is}
use Rattle.sn_lex.proofs.KindOf.{token_kind, fault_kind, at_front, one_token, one_fault, token_or_fault}
use Rattle.sn_lex.proofs.Apart.{token_apart, fault_apart, one_row}

-- Places.

pub cut : (bytes : List ℕ) (from to : ℕ) → from ≤ to → drop from bytes ≡ slice_range bytes from to ++ drop to bytes
cut bytes from to order =
    let sum : from + (to - from) ≡ to = omega arith in
    sym (take-append-drop (to - from) (drop from bytes)) ∙ ap (λ l. slice_range bytes from to ++ l) (drop-drop (to - from) from bytes ∙ ap (λ (n : ℕ). drop n bytes) sum)

pub slice_len : (bytes : List ℕ) (from to : ℕ) → from ≤ to → to ≤ length bytes → length (slice_range bytes from to) ≡ to - from
slice_len bytes from to order inside = length-take-le (to - from) (drop from bytes) (omega (arith, length-drop from bytes))

pub text_len : (bytes : List ℕ) (place len : ℕ) → place + len ≤ length bytes → length (slice_range bytes place (place + len)) ≡ len
text_len bytes place len inside = omega (arith, slice_len bytes place (place + len) (omega arith) inside)

-- a token or a faulty one stands next at the place
record Stands (bytes : List ℕ) (at place len : ℕ) : Type 0 where
  from : at ≤ place
  within : place + len ≤ length bytes
  separated : AreSeparators (slice_range bytes at place)
  is_form : IsForm (slice_range bytes place (place + len))
  apart : HasNoSeparator (drop place bytes)
  longest : NoLongerForm (drop place bytes) len

stands_token : (bytes : List ℕ) (at : ℕ) (t : Token) (span : Span) → IsNextToken bytes at t span → Stands bytes at span.at span.len
stands_token bytes at t span next = record { from = next.from; within = next.within; separated = next.separated; is_form = token t next.text; apart = token_apart t (drop span.at bytes) (slice_range bytes span.at (span.at + span.len)) (drop (span.at + span.len) bytes) (cut bytes span.at (span.at + span.len) (omega arith)) next.text (subst (λ (n : ℕ). NoLongerForm (drop span.at bytes) n) (sym (text_len bytes span.at span.len next.within)) next.longest); longest = next.longest }

stands_fault : (bytes : List ℕ) (at : ℕ) (f : LexFault) (next : IsNextFault bytes at f) → Stands bytes at (offset_of f) next.len
stands_fault bytes at f next = record { from = next.from; within = next.within; separated = next.separated; is_form = fault f next.text; apart = fault_apart f (drop (offset_of f) bytes) (slice_range bytes (offset_of f) (offset_of f + next.len)) (drop (offset_of f + next.len) bytes) (cut bytes (offset_of f) (offset_of f + next.len) (omega arith)) next.text (subst (λ (n : ℕ). NoLongerForm (drop (offset_of f) bytes) n) (sym (text_len bytes (offset_of f) next.len next.within)) next.longest); longest = next.longest }

one_place : (bytes : List ℕ) (at place other len size : ℕ) → Stands bytes at place len → Stands bytes at other size → place ≡ other
one_place bytes at place other len size one another =
    let rows : slice_range bytes at place ++ drop place bytes ≡ slice_range bytes at other ++ drop other bytes = sym (cut bytes at place one.from) ∙ cut bytes at other another.from in
    let concats = sym (ap (λ l. l ++ drop place bytes) one.separated.2) ∙ rows ∙ ap (λ l. l ++ drop other bytes) another.separated.2 in
    let same : slice_range bytes at place ≡ slice_range bytes at other = one.separated.2 ∙ one_row one.separated.0 another.separated.0 (drop place bytes) (drop other bytes) one.separated.1 another.separated.1 one.apart another.apart concats ∙ sym another.separated.2 in
    let first_len : length (slice_range bytes at place) ≡ place - at = slice_len bytes at place one.from (omega (arith, one.within)) in
    let second_len : length (slice_range bytes at other) ≡ other - at = slice_len bytes at other another.from (omega (arith, another.within)) in
    omega (arith, ap length same, first_len, second_len, one.from, another.from)

shorter : (bytes : List ℕ) (at place other len size : ℕ) → Stands bytes at place len → Stands bytes at other size → place ≡ other → len ≤ size
shorter bytes at place other len size one another same =
    let text = slice_range bytes place (place + len) in
    let here : drop other bytes ≡ text ++ drop (place + len) bytes = ap (λ (n : ℕ). drop n bytes) (sym same) ∙ cut bytes place (place + len) (omega arith) in
    omega (arith, another.longest text (drop (place + len) bytes) here one.is_form, text_len bytes place len one.within)

one_len : (bytes : List ℕ) (at place other len size : ℕ) → Stands bytes at place len → Stands bytes at other size → len ≡ size
one_len bytes at place other len size one another =
    let same = one_place bytes at place other len size one another in
    omega (arith, shorter bytes at place other len size one another same, shorter bytes at other place size len another one (sym same))

-- The first law.

same_text : (bytes : List ℕ) (place other len size : ℕ) → place ≡ other → len ≡ size → slice_range bytes place (place + len) ≡ slice_range bytes other (other + size)
same_text bytes place other len size p l = ap (λ (n : ℕ). slice_range bytes n (n + len)) p ∙ ap (λ (n : ℕ). slice_range bytes other (other + n)) l

pub next_token_once : (bytes : List ℕ) (at : ℕ) (t u : Token) (span other : Span) → IsNextToken bytes at t span → IsNextToken bytes at u other → (t ≡ u) × (span ≡ other)
next_token_once bytes at t u span other next again =
    let one = stands_token bytes at t span next in
    let another = stands_token bytes at u other again in
    let place = one_place bytes at span.at other.at span.len other.len one another in
    let len = one_len bytes at span.at other.at span.len other.len one another in
    let text = same_text bytes span.at other.at span.len other.len place len in
    (one_token t u _ next.text (subst (IsTextOf u) (sym text) again.text), λ i. record { at = place i; len = len i })

pub next_fault_once : (bytes : List ℕ) (at : ℕ) (f g : LexFault) → IsNextFault bytes at f → IsNextFault bytes at g → f ≡ g
next_fault_once bytes at f g next again =
    let one = stands_fault bytes at f next in
    let another = stands_fault bytes at g again in
    let place = one_place bytes at (offset_of f) (offset_of g) next.len again.len one another in
    let len = one_len bytes at (offset_of f) (offset_of g) next.len again.len one another in
    let text = same_text bytes (offset_of f) (offset_of g) next.len again.len place len in
    one_fault f g _ next.text (subst (IsFaultyText g) (sym text) again.text) place

pub next_not_both : (bytes : List ℕ) (at : ℕ) (t : Token) (span : Span) (f : LexFault) → IsNextToken bytes at t span → IsNextFault bytes at f → ⊥
next_not_both bytes at t span f next again =
    let one = stands_token bytes at t span next in
    let another = stands_fault bytes at f again in
    let place = one_place bytes at span.at (offset_of f) span.len again.len one another in
    let len = one_len bytes at span.at (offset_of f) span.len again.len one another in
    let text = same_text bytes span.at (offset_of f) span.len again.len place len in
    token_or_fault t f _ next.text (subst (IsFaultyText f) (sym text) again.text)

-- Some form begins with each byte.

byte_form_at : (o : Opening) (c : ℕ) → opening_of c ≡ o → IsForm (c ∷ [])
byte_form_at Word c is = token Keyword (inl (word_is c is, refl))
byte_form_at Number c is = elim (or_cases (is_ascii_digit c) (is_sign c) (number_is c is)) [
  | inl digit ↦ token Integer (inl (omega arith, and_from (is_ascii_digit c) true digit refl))
  | inr sign ↦ fault (BadNumber 0) (inl (c, sign, refl))
]
byte_form_at Hash c is = fault (BadNumber 0) (inr (inr (inl (ap (λ (k : ℕ). k ∷ []) (hash_is c is)))))
byte_form_at Apostrophe c is = fault (OpenString 0) ([], ap (λ (k : ℕ). k ∷ []) (apostrophe_is c is))
byte_form_at Point c is = fault (BadEnum 0) (inl (ap (λ (k : ℕ). k ∷ []) (point_is c is)))
byte_form_at Exclamation c is = fault (BadByte 0) (33, refl, ap (λ (k : ℕ). k ∷ []) (exclamation_is c is))
byte_form_at Quotation c is = fault (BadByte 0) (34, refl, ap (λ (k : ℕ). k ∷ []) (quotation_is c is))
byte_form_at Solidus c is = fault (BadByte 0) (47, refl, ap (λ (k : ℕ). k ∷ []) (solidus_is c is))
byte_form_at (Mark t) c is = token t (mark_text c t is)
byte_form_at Other c is = elim (cases_Bool (is_ascii_whitespace c)) [
  | inl white ↦ separator (inl (c, white, refl))
  | inr dark ↦ fault (BadByte 0) (c, other_is c is dark, refl)
]

pub byte_form : (c : ℕ) → IsForm (c ∷ [])
byte_form c = byte_form_at (opening_of c) c refl

-- The second law.

pub nonempty_token : (t : Token) (text : List ℕ) → IsTextOf t text → t ≢ End → 0 < length text
nonempty_token t [] is apart =
    let same : Ok End ≡ Ok t = token_kind t [] is in
    absurd (apart cc)
nonempty_token t (c ∷ cs) is apart = omega arith

pub nonempty_fault : (f : LexFault) (text : List ℕ) → IsFaultyText f text → 0 < length text
nonempty_fault f [] is =
    let same : Ok End ≡ Err (at_front f) = fault_kind f [] is in
    absurd cc
nonempty_fault f (c ∷ cs) is = omega arith

pub token_has_bytes : (bytes : List ℕ) (at : ℕ) (t : Token) (span : Span) → IsNextToken bytes at t span → t ≢ End → 0 < span.len
token_has_bytes bytes at t span next apart = omega (arith, nonempty_token t _ next.text apart, text_len bytes span.at span.len next.within)

pub fault_inside : (bytes : List ℕ) (at : ℕ) (f : LexFault) → IsNextFault bytes at f → offset_of f < length bytes
fault_inside bytes at f next = omega (arith, nonempty_fault f _ next.text, text_len bytes (offset_of f) next.len next.within, next.within)

nothing_left : (bytes : List ℕ) → NoLongerForm bytes 0 → bytes ≡ []
nothing_left [] longest = refl
nothing_left (c ∷ cs) longest = absurd (omega (arith, longest (c ∷ []) cs refl (byte_form c)))

end_at_length : (bytes : List ℕ) (span : Span) → span.at + span.len ≤ length bytes → span.len ≡ 0 → NoLongerForm (drop span.at bytes) span.len → span.at ≡ length bytes
end_at_length bytes span within empty longest =
    let nothing = nothing_left (drop span.at bytes) (subst (λ (n : ℕ). NoLongerForm (drop span.at bytes) n) empty longest) in
    omega (arith, ap length nothing, length-drop span.at bytes)

all_left : (bytes : List ℕ) (at : ℕ) → at ≤ length bytes → slice_range bytes at (length bytes) ≡ drop at bytes
all_left bytes at inside = take_all (length bytes - at) (drop at bytes) (omega (arith, length-drop at bytes))

pub end_leaves_separators : (bytes : List ℕ) (at : ℕ) (span : Span) → IsNextToken bytes at End span → AreSeparators (drop at bytes) × (span.at ≡ length bytes) × (span.len ≡ 0)
end_leaves_separators bytes at span next =
    let empty : span.len ≡ 0 = omega (arith, text_len bytes span.at span.len next.within, ap length next.text) in
    let place = end_at_length bytes span next.within empty next.longest in
    let inside : at ≤ length bytes = omega (arith, next.from, next.within) in
    (subst AreSeparators (ap (λ (n : ℕ). slice_range bytes at n) place ∙ all_left bytes at inside) next.separated, place, empty)

pub end_leaves_nothing : (bytes : List ℕ) (at : ℕ) (t : Token) (span : Span) → IsNextToken bytes at t span → t ≡ End → AreSeparators (drop at bytes) × (span.at ≡ length bytes) × (span.len ≡ 0)
end_leaves_nothing bytes at t span next is = end_leaves_separators bytes at span (subst (λ (u : Token). IsNextToken bytes at u span) is next)

pub separators_lead_to_end : (bytes : List ℕ) (at : ℕ) → at ≤ length bytes → AreSeparators (drop at bytes) → IsNextToken bytes at End (record { at = length bytes; len = 0 })
separators_lead_to_end bytes at inside are = record { from = inside; within = omega arith; separated = subst AreSeparators (sym (all_left bytes at inside)) are; text = nil_from_length _ (text_len bytes (length bytes) 0 (omega arith)); longest = λ text after same form. omega (arith, ap length same, length-append text after, length-drop (length bytes) bytes) }

pub tokens_have_bytes : TokensHaveBytes
tokens_have_bytes = (token_has_bytes, fault_inside, end_leaves_separators, separators_lead_to_end)

-- The third law.

same_stop : (bytes : List ℕ) (at : ℕ) (stop halt : Option LexFault) → StopsAt bytes at stop → StopsAt bytes at halt → stop ≡ halt
same_stop bytes at None None stops halts = refl
same_stop bytes at None (Some g) stops halts = absurd (next_not_both bytes at End _ g (separators_lead_to_end bytes at (omega (arith, halts.from, halts.within)) stops) halts)
same_stop bytes at (Some f) None stops halts = absurd (next_not_both bytes at End _ f (separators_lead_to_end bytes at (omega (arith, stops.from, stops.within)) halts) stops)
same_stop bytes at (Some f) (Some g) stops halts = ap Some (next_fault_once bytes at f g stops halts)

goes_on : (bytes : List ℕ) (at : ℕ) (t : Token) (span : Span) (stop : Option LexFault) → IsNextToken bytes at t span → t ≢ End → StopsAt bytes at stop → ⊥
goes_on bytes at t span None next apart stops = apart (next_token_once bytes at t End span _ next (separators_lead_to_end bytes at (omega (arith, next.from, next.within)) stops)).0
goes_on bytes at t span (Some f) next apart stops = next_not_both bytes at t span f next stops

same_tokens : (bytes : List ℕ) (at to end : ℕ) (ts us : List (Token × Span)) (stop halt : Option LexFault) → AreTokensBetween bytes at to ts → AreTokensBetween bytes at end us → StopsAt bytes to stop → StopsAt bytes end halt → (ts ≡ us) × (stop ≡ halt)
same_tokens bytes at to end [] [] stop halt first second stops halts = (refl, same_stop bytes at stop halt (subst (λ (n : ℕ). StopsAt bytes n stop) (sym first) stops) (subst (λ (n : ℕ). StopsAt bytes n halt) (sym second) halts))
same_tokens bytes at to end [] (u ∷ us) stop halt first second stops halts = absurd (goes_on bytes at u.0 u.1 stop second.0 second.1 (subst (λ (n : ℕ). StopsAt bytes n stop) (sym first) stops))
same_tokens bytes at to end (t ∷ ts) [] stop halt first second stops halts = absurd (goes_on bytes at t.0 t.1 halt first.0 first.1 (subst (λ (n : ℕ). StopsAt bytes n halt) (sym second) halts))
same_tokens bytes at to end (t ∷ ts) (u ∷ us) stop halt first second stops halts =
    let once = next_token_once bytes at t.0 u.0 t.1 u.1 first.0 second.0 in
    let ends : t.1.at + t.1.len ≡ u.1.at + u.1.len = ap (λ (s : Span). s.at + s.len) once.1 in
    let rest = same_tokens bytes (t.1.at + t.1.len) to end ts us stop halt first.2 (subst (λ (n : ℕ). AreTokensBetween bytes n end us) (sym ends) second.2) stops halts in
    let heads : t ≡ u = λ i. (once.0 i, once.1 i) in
    ((λ i. heads i ∷ rest.0 i), rest.1)

pub one_tokenisation : OneTokenisation
one_tokenisation bytes at ts us stop halt first second = same_tokens bytes at first.0 second.0 ts us stop halt first.1 second.1 first.2 second.2
