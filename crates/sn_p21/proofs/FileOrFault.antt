-- Bytes cannot be no part text and have no first fault.
use Rattle.std.proofs.Common.{◌≡◌, ◌≢◌, ◌⊎◌, ℕ, zero, suc, ◌+◌, ◌<◌, ◌≤◌, inl, inr, ⊎_elim, List, length, drop, slice_range, Ok, Err, refl, subst, arith}
use Rattle.sn_lex.specs.Form.{AreSeparators}
use Rattle.sn_lex.specs.Law.{OneNext, TokensHaveBytes}
use Rattle.sn_lex.specs.Reading.{IsNextToken}
use Rattle.sn_lex.specs.declared.token.Span.{Span}
use Rattle.sn_lex.specs.declared.token.Token.{Token}
use Rattle.sn_lex.specs.declared.token.Token.TheVariants.{End}
use Rattle.sn_p21.specs.declared.fault.P21Fault.{P21Fault}
use Rattle.sn_p21.specs.declared.fault.P21Fault.TheVariants as fault
use Rattle.sn_p21.specs.declared.grammar.place.Place.{Place}
use Rattle.sn_p21.specs.declared.grammar.place.Place.TheVariants.{Done}
use Rattle.sn_p21.specs.declared.grammar.reader.Reader.{Reader}
use Rattle.sn_p21.specs.declared.limits.TheConstants.{MAX_OPEN_LISTS}
use Rattle.sn_p21.specs.Content.{Content}
use Rattle.sn_p21.specs.FirstFault.{IsFirstFault}
use Rattle.sn_p21.specs.PartText.{IsPartText}
use Rattle.sn_p21.specs.Reader.{Step, Refusal, unexpected, twice, deep, Refuses, value_of, step, start}
use Rattle.sn_p21.proofs.FileKept.{content, part_read}
use Rattle.sn_p21.proofs.FirstFaults.{at_within, lex_first, word_first, end_first}
use Rattle.sn_p21.proofs.WordsRead.{ReadTo, read_none, read_more}

end_or_not : (t : Token) → (t ≡ End) ⊎ (t ≢ End)
end_or_not End = inl refl
end_or_not _ = inr (λ e. cc)

done_or_not : (p : Place) → (p ≡ Done) ⊎ (p ≡ Done → ⊥)
done_or_not Done = inl refl
done_or_not _ = inr (λ e. cc)

-- the fault of a word that may not stand at an offset
fault_of : (why : Refusal) (at : ℕ) → (f : P21Fault) × Refuses why at f × (f ≢ fault.Memory)
fault_of unexpected at = (fault.Unexpected at, (refl, refl), λ e. cc)
fault_of (twice n) at = (fault.Twice n at, (refl, refl), λ e. cc)
fault_of deep at = (fault.TooDeep at, (refl, refl), λ e. cc)

module _ (next : OneNext) (has : TokensHaveBytes) (bytes : List ℕ) (none : (f : Content) → ¬ IsPartText bytes f) (clean : (why : P21Fault) → ¬ IsFirstFault bytes why) where
  at_end : (at : ℕ) (s : Reader) → ReadTo bytes at s → AreSeparators (drop at bytes) → ⊥
  at_end at s k separators =
      ⊎_elim
      (λ done. none (content s) (part_read bytes at s k separators done))
      (λ other. clean (fault.Unexpected (length bytes)) (end_first bytes at s k separators other))
      (done_or_not s.place)

  at_token : (at : ℕ) (s : Reader) (t : Token) (span : Span) → ReadTo bytes at s → IsNextToken bytes at t span → t ≢ End → ((new : Reader) → ReadTo bytes (span.at + span.len) new → ⊥) → (r : Step) → step MAX_OPEN_LISTS s t (value_of t (slice_range bytes span.at (span.at + span.len))) ≡ r → ⊥
  at_token at s t span k n some go (Ok new) e = go new (read_more bytes at s new t span k n e)
  at_token at s t span k n some go (Err why) e = let told = fault_of why span.at in clean told.0 (word_first bytes at s t span why told.0 k n some e told.1 told.2)

  walk : (fuel at : ℕ) (s : Reader) → ReadTo bytes at s → length bytes < at + fuel → ⊥
  walk zero at s k enough = absurd (let inside : at ≤ length bytes = at_within bytes at s k in omega arith)
  walk (suc fuel) at s k enough =
      next.3 bytes at (at_within bytes at s k)
      (λ t span n.
      ⊎_elim
      (λ end. at_end at s k (has.2 bytes at span (subst (λ u. IsNextToken bytes at u span) end n)).0)
      (λ some.
      at_token at s t span k n some
      (λ new more. walk fuel (span.at + span.len) new more (let from : at ≤ span.at = n.from in let len : 0 < span.len = has.0 bytes at t span n some in omega arith))
      (step MAX_OPEN_LISTS s t (value_of t (slice_range bytes span.at (span.at + span.len)))) refl)
      (end_or_not t))
      (λ f n. clean (fault.Lex f) (lex_first bytes at s f k n))

pub file_or_fault : OneNext → TokensHaveBytes → (bytes : List ℕ) → ((f : Content) → ¬ IsPartText bytes f) → ((why : P21Fault) → ¬ IsFirstFault bytes why) → ⊥
file_or_fault next has bytes none clean = walk next has bytes none clean (suc (length bytes)) 0 start (read_none bytes) (omega arith)
