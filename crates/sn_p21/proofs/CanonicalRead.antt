-- The canonical text of a file is read as its words.
use Rattle.std.proofs.Common.{◌≡◌, ℕ, ◌+◌, ◌-◌, Bool, true, false, ◌||◌, ◌⊎◌, inl, inr, List, [], ◌∷◌, ◌++◌, length, take, drop, slice_range, refl, sym, ap, subst, ◌∙◌, append_assoc, append-nil, length-append, arith}
use Rattle.std.specs.Prelude.{IsTrue}
use Rattle.std.specs.List.{AllByRecursion}
use Rattle.std.specs.Char.{is_ascii_whitespace}
use Rattle.std.proofs.lemmas.List.{take_at, drop_at}
use Rattle.sn_lex.specs.Character.{is_mark}
use Rattle.sn_lex.specs.Form.{AreSeparators}
use Rattle.sn_lex.specs.Law.{IsDelimited, ReadsWritten}
use Rattle.sn_lex.specs.Reading.{IsNextToken}
use Rattle.sn_lex.specs.declared.token.Span.{Span}
use Rattle.sn_lex.specs.declared.token.Token.{Token}
use Rattle.sn_lex.specs.declared.token.Token.TheVariants.{Semicolon}
use Rattle.sn_p21.specs.declared.file.Instance.{Instance}
use Rattle.sn_p21.specs.declared.file.Section.{Section}
use Rattle.sn_p21.specs.Canonical.{token_text, separator_after, words_text, canonical_text}
use Rattle.sn_p21.specs.Grammar.{AreDataWords, AreSectionsWords, rows_words, plainest_sections, plainest_words}
use Rattle.sn_p21.specs.PartText.{ReadsCanonical}
use Rattle.sn_p21.specs.Word.{Word, Carries, IsSpelled, IsNextWord, AreWordsBetween}
use Rattle.sn_p21.proofs.SpacedWords.{BeginWithMark, AreSpaced, file_spaced}
use Rattle.sn_p21.proofs.SpellingLemmas.{IsMark, mark_text, no_end, spelled_text}
use Rattle.sn_p21.proofs.Texts.{row_words}

-- What follows a word.

no_separators : AreSeparators []
no_separators = ([], tt, refl)

gap_separators : (t : Token) → AreSeparators (separator_after t)
gap_separators Semicolon = ((10 ∷ []) ∷ [], (inl (10, refl, refl), tt), refl)
gap_separators _ = no_separators

by_itself : (text after : List ℕ) → (c : ℕ) × IsTrue (is_mark c) × (text ≡ c ∷ []) → IsDelimited text after
by_itself text [] m = tt
by_itself text (c ∷ cs) m = inr m

or_true : (a b : Bool) → a ≡ true → (a || b) ≡ true
or_true true b h = refl
or_true false b h = absurd (let e : false ≡ true = h in cc)

by_mark : (t : Token) (text : List ℕ) (c : ℕ) (cs : List ℕ) → IsTrue (is_mark c) → IsDelimited text (separator_after t ++ c ∷ cs)
by_mark Semicolon text c cs m = inl refl
by_mark _ text c cs m = inl (or_true (is_mark c) (is_ascii_whitespace c) m)

by_words : (t : Token) (text : List ℕ) (ws : List Word) → BeginWithMark ws → IsDelimited text (separator_after t ++ words_text ws)
by_words t text [] first = absurd first
by_words t text (w ∷ ws) first =
    let m = mark_text w.token w.value first in
    subst (λ xs. IsDelimited text (separator_after t ++ ((xs ++ separator_after w.token) ++ words_text ws))) (sym m.2) (by_mark t text m.0 (separator_after w.token ++ words_text ws) m.1)

delimited : (w : Word) (ws : List Word) → IsMark w.token ⊎ BeginWithMark ws → IsDelimited (token_text w.token w.value) (separator_after w.token ++ words_text ws)
delimited w ws (inl m) = by_itself _ (separator_after w.token ++ words_text ws) (mark_text w.token w.value m)
delimited w ws (inr first) = by_words w.token _ ws first

-- One word behind another.

slice_behind : (before separators text after : List ℕ) → let start = length before + length separators in slice_range (before ++ (separators ++ (text ++ after))) start (start + length text) ≡ text
slice_behind before separators text after =
    let start = length before + length separators in
    let size : length text ≡ start + length text - start = omega arith in
    let front : length (before ++ separators) ≡ start = length-append before separators in
    ap (λ xs. slice_range xs start (start + length text)) (sym (append_assoc before separators (text ++ after)))
    ∙ ap (take (start + length text - start)) (drop_at (before ++ separators) (text ++ after) start front)
    ∙ take_at text after (start + length text - start) size

regrouped : (before separators text gap rest : List ℕ) → before ++ (separators ++ (text ++ (gap ++ rest))) ≡ (before ++ (separators ++ text)) ++ (gap ++ rest)
regrouped before separators text gap rest = ap (λ xs. before ++ xs) (sym (append_assoc separators text (gap ++ rest))) ∙ sym (append_assoc before (separators ++ text) (gap ++ rest))

-- from a place on the bytes are the words, with separators between them and behind them
abbrev AreWordsFrom : List ℕ → ℕ → List Word → Type 0
AreWordsFrom bytes at ws = (to : ℕ) × AreWordsBetween bytes at to ws × AreSeparators (drop to bytes)

words_read : ReadsWritten → (ws : List Word) (bytes before separators : List ℕ) (at : ℕ) → bytes ≡ before ++ (separators ++ words_text ws) → length before ≡ at → AreSeparators separators → AreSpaced ws → AllByRecursion IsSpelled ws → AreWordsFrom bytes at ws
words_read law [] bytes before separators at is place blank spaced spelled =
    (at, refl, subst AreSeparators (sym (ap (drop at) is ∙ drop_at before (separators ++ []) at place ∙ append-nil separators)) blank)
words_read law (w ∷ ws) bytes before separators at is place blank spaced spelled =
    let text = token_text w.token w.value in
    let gap = separator_after w.token in
    let span : Span = record { at = length before + length separators; len = length text } in
    let spelling = spelled_text w.token spelled.0.0 w.value spelled.0.1.0 spelled.0.1.1 in
    let whole : bytes ≡ before ++ (separators ++ (text ++ (gap ++ words_text ws))) = is ∙ ap (λ xs. before ++ (separators ++ xs)) (append_assoc text gap (words_text ws)) in
    let token = law before separators text (gap ++ words_text ws) w.token blank spelling.0 (no_end w.token spaced.0) (delimited w ws spaced.1) in
    let here : length (before ++ (separators ++ text)) ≡ span.at + span.len = omega (arith, length-append before (separators ++ text), length-append separators text) in
    let rest = words_read law ws bytes (before ++ (separators ++ text)) gap (span.at + span.len) (whole ∙ regrouped before separators text gap (words_text ws)) here (gap_separators w.token) spaced.2 spelled.1 in
    let next : IsNextWord bytes at w span = record {
      token = subst (λ xs. IsNextToken xs at w.token span) (sym whole) (subst (λ n. IsNextToken (before ++ (separators ++ (text ++ (gap ++ words_text ws)))) n w.token span) place token);
      carries = subst (λ xs. Carries w.token xs w.value) (sym (ap (λ xs. slice_range xs span.at (span.at + span.len)) whole ∙ slice_behind before separators text (gap ++ words_text ws))) spelling.1;
    } in
    (rest.0, (span, next, rest.1), rest.2)

-- Files.

rows_are_data : (is : List Instance) → AreDataWords is (rows_words is)
rows_are_data [] = refl
rows_are_data (i ∷ is) = (row_words i, rows_words is, inl refl, rows_are_data is, refl)

sections_derived : (ss : List Section) (is : List Instance) → AreSectionsWords ss is (plainest_sections ss is)
sections_derived [] is = refl
sections_derived (s ∷ ss) is = (rows_words (take s.count is), plainest_sections ss (drop s.count is), rows_are_data (take s.count is), sections_derived ss (drop s.count is), refl)

pub canonical_is_read : ReadsWritten → ReadsCanonical
canonical_is_read law f rule = record {
  ws = plainest_words f;
  words = words_read law (plainest_words f) (canonical_text f) [] [] 0 refl refl no_separators (file_spaced f) rule.spelled;
  derived = (plainest_sections f.sections f.instances, sections_derived f.sections f.instances, refl);
  rule = rule;
}
