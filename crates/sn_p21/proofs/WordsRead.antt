-- The words of the bytes, and what the reader does with them.
use Rattle.std.proofs.Common.{◌≡◌, ℕ, ◌+◌, ◌≤◌, true, false, nat_lt, ⊎_elim, List, [], ◌∷◌, ◌++◌, length, drop, slice_range, Ok, refl, sym, ap, subst, ◌∙◌}
use Rattle.std.proofs.lemmas.Bool.{and_parts}
use Rattle.std.specs.List.{AllByRecursion}
use Rattle.sn_lex.specs.Form.{AreSeparators}
use Rattle.sn_lex.specs.Law.{OneNext, TokensHaveBytes}
use Rattle.sn_lex.specs.Reading.{IsNextToken}
use Rattle.sn_lex.specs.declared.token.Span.{Span}
use Rattle.sn_lex.specs.declared.token.Token.{Token}
use Rattle.sn_lex.specs.declared.token.Token.TheVariants.{End}
use Rattle.sn_p21.specs.declared.grammar.place.Place.{Place}
use Rattle.sn_p21.specs.declared.grammar.place.Place.TheVariants.{Fixed as FixedAt, HeaderEntity, OwnList, FirstParam, NextParam, AfterParam, TypedList, Section as SectionAt, NextSection, SectionParams, Instance as InstanceAt, Body, FirstPart, NextPart, Done}
use Rattle.sn_p21.specs.declared.grammar.place.Fixed.{Fixed}
use Rattle.sn_p21.specs.declared.grammar.place.Fixed.TheVariants as fixed
use Rattle.sn_p21.specs.declared.grammar.reader.Reader.{Reader}
use Rattle.sn_p21.specs.declared.limits.TheConstants.{MAX_OPEN_LISTS}
use Rattle.sn_p21.specs.Word.{Word, IsSpelled, IsNextWord, AreWordsBetween}
use Rattle.sn_p21.specs.Reader.{unexpected, value_of, step, step_at, accepts, names_header_entity, ends_header, start}
use Rattle.sn_p21.proofs.KeptLemmas.{Gave, no_reader, went, either, word}
use Rattle.sn_p21.proofs.KeptWords.{named_keyword}
use Rattle.sn_p21.proofs.Runs.{and_then, run, joined_ran}
use Rattle.sn_p21.proofs.ValueWords.{carried, carries}

-- where separators alone are left, the end is next
abbrev pub EndIsNext : Type 0
EndIsNext = (bytes : List ℕ) (at : ℕ) → at ≤ length bytes → AreSeparators (drop at bytes) → (span : Span) × IsNextToken bytes at End span

pub end_is_next : TokensHaveBytes → EndIsNext
end_is_next law bytes at within h = (record { at = length bytes; len = 0 }, law.3 bytes at within h)

-- No step takes the end.

not_both : {A : Type 0} → false ≡ true → A
not_both e = absurd (let z : false ≡ true = e in cc)

end_fixed : (f : Fixed) (v : List ℕ) → accepts f End v ≡ true → ⊥
end_fixed fixed.FileStart v e = not_both e
end_fixed fixed.Equals v e = not_both e
end_fixed fixed.Header v e = not_both e
end_fixed _ v e = not_both e

end_at : (limit : ℕ) (p : Place) (s r : Reader) (v : List ℕ) → Gave (step_at limit p s End v) r → ⊥
end_at limit (FixedAt f) s r v h = end_fixed f v (went (accepts f End v) unexpected _ r h).0
end_at limit HeaderEntity s r v h =
    let count = length s.header in
    ⊎_elim
    (λ (e : (ends_header count End v ≡ true) × ((record s { place = FixedAt fixed.HeaderSectionEnd }) ≡ r)). not_both (and_parts (nat_lt 2 count) false e.0).1)
    (λ e. not_both (named_keyword count End v e.1))
    (either (ends_header count End v) (names_header_entity count End v) unexpected _ _ r h)
end_at limit OwnList s r v h = no_reader unexpected r h
end_at limit FirstParam s r v h = no_reader unexpected r h
end_at limit NextParam s r v h = no_reader unexpected r h
end_at limit AfterParam s r v h = no_reader unexpected r h
end_at limit TypedList s r v h = no_reader unexpected r h
end_at limit SectionAt s r v h = no_reader unexpected r h
end_at limit NextSection s r v h = no_reader unexpected r h
end_at limit SectionParams s r v h = no_reader unexpected r h
end_at limit InstanceAt s r v h = no_reader unexpected r h
end_at limit Body s r v h = no_reader unexpected r h
end_at limit FirstPart s r v h = no_reader unexpected r h
end_at limit NextPart s r v h = no_reader unexpected r h
end_at limit Done s r v h = no_reader unexpected r h

pub no_end : (limit : ℕ) (s r : Reader) (v : List ℕ) → Gave (step limit s End v) r → ⊥
no_end limit s r v h = end_at limit s.place s r v h

-- Words of the bytes.

-- the word that comes next is the token's
pub same_next : OneNext → (bytes : List ℕ) (at : ℕ) (w : Word) (t : Token) (span other : Span) → IsNextWord bytes at w other → IsNextToken bytes at t span → (w ≡ word t (value_of t (slice_range bytes span.at (span.at + span.len)))) × (other ≡ span)
same_next law bytes at w t span other n k =
    let same = law.0 bytes at w.token t other span n.token k in
    let text = λ (x : Span). slice_range bytes x.at (x.at + x.len) in (
      ap (λ v. word w.token v) (carried w.token (text other) w.value n.carries) ∙ ap (λ u. word u (value_of u (text other))) same.0 ∙ ap (λ x. word t (value_of t (text x))) same.1,
      same.1,
    )

between_push : (ws : List Word) (bytes : List ℕ) (from at to : ℕ) (w : Word) → AreWordsBetween bytes from at ws → (span : Span) → IsNextWord bytes at w span → span.at + span.len ≡ to → AreWordsBetween bytes from to (ws ++ w ∷ [])
between_push [] bytes from at to w a span n e = (span, subst (λ x. IsNextWord bytes x w span) (sym a) n, e)
between_push (u ∷ us) bytes from at to w a span n e = (a.0, a.1, between_push us bytes (a.0.at + a.0.len) at to w a.2 span n e)

-- each word of the bytes has a text
pub between_spelled : (ws : List Word) (bytes : List ℕ) (from to : ℕ) → AreWordsBetween bytes from to ws → AllByRecursion IsSpelled ws
between_spelled [] bytes from to a = tt
between_spelled (w ∷ ws) bytes from to a =
    let span = a.0 in
    ((slice_range bytes span.at (span.at + span.len), (a.1.token.text, a.1.carries)), between_spelled ws bytes (span.at + span.len) to a.2)

pub between_within : (ws : List Word) (bytes : List ℕ) (from to : ℕ) → from ≤ length bytes → AreWordsBetween bytes from to ws → to ≤ length bytes
between_within [] bytes from to h a = subst (λ x. x ≤ length bytes) a h
between_within (w ∷ ws) bytes from to h a = between_within ws bytes (a.0.at + a.0.len) to a.1.token.within a.2

-- The reader at a place of the bytes.

-- the words so far, and what they lead to
pub record ReadTo (bytes : List ℕ) (at : ℕ) (s : Reader) : Type 0 where
  pub ws : List Word
  pub words : AreWordsBetween bytes 0 at ws
  pub ran : run MAX_OPEN_LISTS start ws ≡ Ok s

pub read_none : (bytes : List ℕ) → ReadTo bytes 0 start
read_none bytes = record { ws = []; words = refl; ran = refl }

run_push : (ws : List Word) (w : Word) (s r : Reader) → run MAX_OPEN_LISTS start ws ≡ Ok s → step MAX_OPEN_LISTS s w.token w.value ≡ Ok r → run MAX_OPEN_LISTS start (ws ++ w ∷ []) ≡ Ok r
run_push ws w s r h k = joined_ran MAX_OPEN_LISTS ws (w ∷ []) start s r h (ap (λ x. and_then x (λ next. Ok next)) k)

-- the word of a token
pub next_word : (bytes : List ℕ) (at : ℕ) (t : Token) (span : Span) → IsNextToken bytes at t span → IsNextWord bytes at (word t (value_of t (slice_range bytes span.at (span.at + span.len)))) span
next_word bytes at t span n = record { token = n; carries = carries t (slice_range bytes span.at (span.at + span.len)) n.text }

pub read_more : (bytes : List ℕ) (at : ℕ) (s r : Reader) (t : Token) (span : Span) → ReadTo bytes at s → IsNextToken bytes at t span → step MAX_OPEN_LISTS s t (value_of t (slice_range bytes span.at (span.at + span.len))) ≡ Ok r → ReadTo bytes (span.at + span.len) r
read_more bytes at s r t span k n h =
    let w = word t (value_of t (slice_range bytes span.at (span.at + span.len))) in
    record {
      ws = k.ws ++ w ∷ [];
      words = between_push k.ws bytes 0 at (span.at + span.len) w k.words span (next_word bytes at t span n) refl;
      ran = run_push k.ws w s r k.ran h;
    }
