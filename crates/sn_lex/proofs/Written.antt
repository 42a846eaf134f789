-- A token's text that a mark or a blank follows is read as it was written.
use Rattle.std.proofs.Common.{◌≡◌, ◌≢◌, ℕ, ◌+◌, Bool, true, false, eqb, ◌||◌, List, [], ◌∷◌, ◌++◌, length, append_assoc, refl, sym, ap, ◌∙◌, subst, arith, inl, inr, ◌⊎◌}
use Rattle.std.proofs.lemmas.Bool.{true≢false}
use Rattle.std.proofs.lemmas.Bool.Decides.{nat_tests}
use Rattle.std.proofs.lemmas.List.{append_cancel_right}
use Rattle.std.specs.Prelude.{codes}
use Rattle.std.specs.List.{list_all}
use Rattle.std.specs.Char.{is_ascii_digit, is_ascii_whitespace}
use Rattle.sn_lex.specs.Character.{is_name_byte, is_mark}
use Rattle.sn_lex.specs.Form.{IsName, IsInteger, doubled, IsInstanceNumber, IsTextOf, HeadFails}
use Rattle.sn_lex.specs.Reading.{NoLongerForm}
use Rattle.sn_lex.specs.Law.{IsDelimited, ReadsWritten}
use Rattle.sn_lex.specs.Split.{SplitsRun, LeavesInteger, ReadsToken, begins_name}
use Rattle.sn_lex.specs.declared.token.Token.{Token}
use Rattle.sn_lex.specs.declared.token.Token.TheVariants.{FileStart, FileEnd, Keyword, Number, Integer, Real, Text, Enumeration, Binary, LeftParen, RightParen, Comma, Semicolon, Equals, Dollar, Star, End}
use Rattle.sn_lex.specs.declared.opening.Opening.TheVariants.{Mark}
use Rattle.sn_lex.specs.Opening.{opening_of}
use Rattle.sn_lex.proofs.Runs.{one_run}
use Rattle.sn_lex.proofs.Names.{name_bytes, reads_keyword, reads_user_keyword, reads_file_start, reads_file_end, reads_enumeration}
use Rattle.sn_lex.proofs.NumberReads.{reads_integer, reads_plain_real, reads_scaled_real, reads_instance_number}
use Rattle.sn_lex.proofs.Quoted.{reads_text, reads_binary}
use Rattle.sn_lex.proofs.Tokens.{reads_mark}
use Rattle.sn_lex.proofs.Places.{next_token_at}

-- what is read before `after` is what stands before it
longest_of : (text after : List ℕ) (t : Token) → ReadsToken (text ++ after) t after → NoLongerForm (text ++ after) (length text)
longest_of text after t reads =
    let same : text ≡ reads.text = append_cancel_right text reads.text after reads.whole in
    subst (λ (n : ℕ). NoLongerForm (text ++ after) n) (sym (ap length same)) reads.longest

longest_as : (bytes text after : List ℕ) (t : Token) → bytes ≡ text ++ after → ReadsToken bytes t after → NoLongerForm (text ++ after) (length text)
longest_as bytes text after t same reads = longest_of text after t (subst (λ (l : List ℕ). ReadsToken l t after) same reads)

-- What does not belong to a token.

abbrev ends_token : ℕ → Bool
ends_token c = is_mark c || is_ascii_whitespace c

-- a mark or a blank stands first, or nothing
abbrev IsEnded : List ℕ → Type 0
IsEnded [] = Unit {0}
IsEnded (c ∷ cs) = ends_token c ≡ true

ended_name : (c : ℕ) → ends_token c ≡ true → is_name_byte c ≡ false
ended_name c h = grind (arith, nat_tests)

ended_digit : (c : ℕ) → ends_token c ≡ true → is_ascii_digit c ≡ false
ended_digit c h = grind (arith, nat_tests)

ended_point : (c : ℕ) → ends_token c ≡ true → eqb c 46 ≡ false
ended_point c h = grind (arith, nat_tests)

ended_exponent : (c : ℕ) → ends_token c ≡ true → eqb c 69 ≡ false
ended_exponent c h = grind (arith, nat_tests)

ended_quote : (c : ℕ) → ends_token c ≡ true → eqb c 39 ≡ false
ended_quote c h = grind (arith, nat_tests)

head_fails : (test : ℕ → Bool) (after : List ℕ) → ((c : ℕ) → ends_token c ≡ true → test c ≡ false) → IsEnded after → HeadFails test after
head_fails test [] fails ended = tt
head_fails test (c ∷ cs) fails ended = fails c ended

dash_goes_on : (after rest : List ℕ) → IsEnded after → after ≡ 45 ∷ rest → ⊥
dash_goes_on after rest ended same = true≢false (sym (subst IsEnded same ended))

-- Each kind of token.

no_word : (name after prefix rest : List ℕ) → IsName name → IsEnded after → IsName prefix → name ++ after ≡ prefix ++ 45 ∷ rest → ⊥
no_word name after prefix rest is ended word same =
    let found = one_run is_name_byte name after prefix (45 ∷ rest) (head_fails is_name_byte after ended_name ended) refl (name_bytes name is) (name_bytes prefix word) same in
    dash_goes_on after rest ended found.1

begins_with_name : (name after : List ℕ) → IsName name → begins_name (name ++ after) ≡ true
begins_with_name [] after is = absurd is
begins_with_name (c ∷ cs) after is = is.0

name_splits : (name after : List ℕ) → IsName name → HeadFails is_name_byte after → SplitsRun is_name_byte (name ++ after) name after
name_splits name after is ends = record { whole = refl; passes = name_bytes name is; ends = ends }

keyword_longest : (name after : List ℕ) → IsName name → IsEnded after → NoLongerForm (name ++ after) (length name)
keyword_longest name after is ended =
    longest_of name after Keyword (reads_keyword (name ++ after) name after (begins_with_name name after is) (name_splits name after is (head_fails is_name_byte after ended_name ended))
    (λ rest same. no_word name after (codes "ISO") (codes "10303-21" ++ rest) is ended (refl, refl) same)
    (λ rest same. no_word name after (codes "END") (codes "ISO-10303-21" ++ rest) is ended (refl, refl) same))

leaves_integer : (w after : List ℕ) → IsInteger w → HeadFails is_ascii_digit after → LeavesInteger (w ++ after) after
leaves_integer w after is ends = record { integer = w; is_integer = is; whole = refl; ends = ends }

plain_longest : (text w f after : List ℕ) → IsInteger w → list_all is_ascii_digit f ≡ true → text ≡ w ++ 46 ∷ f → IsEnded after → NoLongerForm (text ++ after) (length text)
plain_longest text w f after integer digits e ended =
    longest_as (w ++ 46 ∷ (f ++ after)) text after Real (sym (ap (λ l. l ++ after) e ∙ append_assoc w (46 ∷ f) after))
    (reads_plain_real (w ++ 46 ∷ (f ++ after)) (f ++ after) f after (leaves_integer w (46 ∷ (f ++ after)) integer refl)
    (record { whole = refl; passes = digits; ends = head_fails is_ascii_digit after ended_digit ended }) (head_fails (λ c. eqb c 69) after ended_exponent ended))

scaled_longest : (text plain v w f after : List ℕ) → IsInteger w → list_all is_ascii_digit f ≡ true → plain ≡ w ++ 46 ∷ f → IsInteger v → text ≡ plain ++ 69 ∷ v → IsEnded after → NoLongerForm (text ++ after) (length text)
scaled_longest text plain v w f after integer digits e power same ended =
    longest_as (w ++ 46 ∷ (f ++ 69 ∷ (v ++ after))) text after Real
    (sym (ap (λ l. l ++ after) (same ∙ ap (λ l. l ++ 69 ∷ v) e) ∙ append_assoc (w ++ 46 ∷ f) (69 ∷ v) after ∙ append_assoc w (46 ∷ f) (69 ∷ (v ++ after))))
    (reads_scaled_real (w ++ 46 ∷ (f ++ 69 ∷ (v ++ after))) (f ++ 69 ∷ (v ++ after)) f (v ++ after) after (leaves_integer w (46 ∷ (f ++ 69 ∷ (v ++ after))) integer refl)
    (record { whole = refl; passes = digits; ends = refl }) (leaves_integer v after power (head_fails is_ascii_digit after ended_digit ended)))

token_longest : (t : Token) (text after : List ℕ) → IsTextOf t text → t ≢ End → IsEnded after → NoLongerForm (text ++ after) (length text)
token_longest FileStart text after e some ended = longest_of text after FileStart (reads_file_start (text ++ after) after (ap (λ l. l ++ after) e))
token_longest FileEnd text after e some ended = longest_of text after FileEnd (reads_file_end (text ++ after) after (ap (λ l. l ++ after) e))
token_longest Keyword text after (inl is) some ended = keyword_longest text after is ended
token_longest Keyword text after (inr (name, is, e)) some ended =
    longest_as (33 ∷ (name ++ after)) text after Keyword (sym (ap (λ l. l ++ after) e))
    (reads_user_keyword (name ++ after) after (record { name = name; is_name = is; splits = name_splits name after is (head_fails is_name_byte after ended_name ended) }))
token_longest (Number n) text after (range, (digits, are, value, e)) some ended =
    longest_as (35 ∷ (digits ++ after)) text after (Number n) (sym (ap (λ l. l ++ after) e))
    (reads_instance_number (digits ++ after) digits after n (record { whole = refl; passes = are.1; ends = head_fails is_ascii_digit after ended_digit ended }) (subst IsInstanceNumber (sym value) range) value)
token_longest Integer text after is some ended =
    longest_of text after Integer (reads_integer (text ++ after) after (leaves_integer text after is (head_fails is_ascii_digit after ended_digit ended)) (head_fails (λ c. eqb c 46) after ended_point ended))
token_longest Real text after (inl (w, f, integer, digits, e)) some ended = plain_longest text w f after integer digits e ended
token_longest Real text after (inr (plain, v, (w, f, integer, digits, e), power, same)) some ended = scaled_longest text plain v w f after integer digits e power same ended
token_longest Text text after (v, e) some ended =
    longest_as (39 ∷ (doubled v ++ 39 ∷ after)) text after Text (sym (ap (λ l. l ++ after) e ∙ ap (λ l. 39 ∷ l) (append_assoc (doubled v) (39 ∷ []) after)))
    (reads_text (doubled v ++ 39 ∷ after) after (record { value = v; whole = refl; ends = head_fails (λ c. eqb c 39) after ended_quote ended }))
token_longest Enumeration text after (name, is, e) some ended =
    longest_as (46 ∷ (name ++ 46 ∷ after)) text after Enumeration (sym (ap (λ l. l ++ after) e ∙ ap (λ l. 46 ∷ l) (append_assoc name (46 ∷ []) after)))
    (reads_enumeration (name ++ 46 ∷ after) after (record { name = name; is_name = is; splits = name_splits name (46 ∷ after) is refl }))
token_longest Binary text after (first, digits, count, hex, e) some ended =
    longest_as (34 ∷ first ∷ (digits ++ 34 ∷ after)) text after Binary (sym (ap (λ l. l ++ after) e ∙ ap (λ l. 34 ∷ first ∷ l) (append_assoc digits (34 ∷ []) after)))
    (reads_binary first (digits ++ 34 ∷ after) digits after count (record { whole = refl; passes = hex; ends = refl }))
token_longest LeftParen text after e some ended = longest_of text after LeftParen (reads_mark (text ++ after) 40 after LeftParen (ap (λ l. l ++ after) e) refl)
token_longest RightParen text after e some ended = longest_of text after RightParen (reads_mark (text ++ after) 41 after RightParen (ap (λ l. l ++ after) e) refl)
token_longest Comma text after e some ended = longest_of text after Comma (reads_mark (text ++ after) 44 after Comma (ap (λ l. l ++ after) e) refl)
token_longest Semicolon text after e some ended = longest_of text after Semicolon (reads_mark (text ++ after) 59 after Semicolon (ap (λ l. l ++ after) e) refl)
token_longest Equals text after e some ended = longest_of text after Equals (reads_mark (text ++ after) 61 after Equals (ap (λ l. l ++ after) e) refl)
token_longest Dollar text after e some ended = longest_of text after Dollar (reads_mark (text ++ after) 36 after Dollar (ap (λ l. l ++ after) e) refl)
token_longest Star text after e some ended = longest_of text after Star (reads_mark (text ++ after) 42 after Star (ap (λ l. l ++ after) e) refl)
token_longest End text after e some ended = absurd (some refl)

-- a mark is a token whatever follows it
mark_cases : (c : ℕ) → is_mark c ≡ true → (c ≡ 40) ⊎ ((c ≡ 41) ⊎ ((c ≡ 44) ⊎ ((c ≡ 59) ⊎ ((c ≡ 61) ⊎ ((c ≡ 36) ⊎ (c ≡ 42))))))
mark_cases c h = grind (arith, nat_tests)

mark_opening : (c : ℕ) → is_mark c ≡ true → (t : Token) × (opening_of c ≡ Mark t)
mark_opening c h = elim (mark_cases c h) [
  | inl e ↦ (LeftParen, ap opening_of e)
  | inr (inl e) ↦ (RightParen, ap opening_of e)
  | inr (inr (inl e)) ↦ (Comma, ap opening_of e)
  | inr (inr (inr (inl e))) ↦ (Semicolon, ap opening_of e)
  | inr (inr (inr (inr (inl e)))) ↦ (Equals, ap opening_of e)
  | inr (inr (inr (inr (inr (inl e))))) ↦ (Dollar, ap opening_of e)
  | inr (inr (inr (inr (inr (inr e))))) ↦ (Star, ap opening_of e)
]

mark_longest : (text after : List ℕ) (c : ℕ) → is_mark c ≡ true → text ≡ c ∷ [] → NoLongerForm (text ++ after) (length text)
mark_longest text after c mark e = longest_of text after (mark_opening c mark).0 (reads_mark (text ++ after) c after (mark_opening c mark).0 (ap (λ l. l ++ after) e) (mark_opening c mark).1)

delimited_longest : (t : Token) (text after : List ℕ) → IsTextOf t text → t ≢ End → IsDelimited text after → NoLongerForm (text ++ after) (length text)
delimited_longest t text [] is some delimited = token_longest t text [] is some tt
delimited_longest t text (c ∷ cs) is some (inl ended) = token_longest t text (c ∷ cs) is some ended
delimited_longest t text (c ∷ cs) is some (inr (mark, is_mark, e)) = mark_longest text (c ∷ cs) mark is_mark e

pub reads_written : ReadsWritten
reads_written before separators text after t are is some delimited =
    next_token_at before separators text after t (length before) (length before + length separators) (length text) refl refl refl are is (delimited_longest t text after is some delimited)
