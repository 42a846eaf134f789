-- Something stands next in the bytes: a token or a fault.
use Rattle.std.proofs.Common.{◌≡◌, ℕ, zero, suc, ◌+◌, ◌-◌, ◌<◌, ◌≤◌, List, [], ◌∷◌, ◌++◌, length, take, drop, codes, length-append, refl, ap, ◌∙◌, inl, inr, ⊎_elim, arith}
use Rattle.std.proofs.lemmas.Bool.{cases_lt}
use Rattle.sn_lex.specs.Form.{IsSeparator, IsFaultyText}
use Rattle.sn_lex.specs.Reading.{IsForm, separator, token, fault, NoLongerForm, offset_of, IsNextToken, IsNextFault}
use Rattle.sn_lex.specs.Split.{HasNoSeparator, LeavesSeparators}
use Rattle.sn_lex.specs.declared.token.LexFault.{LexFault}
use Rattle.sn_lex.specs.declared.token.LexFault.TheVariants.{BadByte, OpenString, OpenComment, BadNumber, BadEnum}
use Rattle.sn_lex.specs.declared.token.Span.{Span}
use Rattle.sn_lex.specs.declared.token.Token.{Token}
use Rattle.sn_lex.specs.declared.token.Token.TheVariants.{End}
use Rattle.sn_lex.proofs.Comments.{one_more_separator}
use Rattle.sn_lex.proofs.Places.{next_token_from, next_fault_from}
use Rattle.sn_lex.proofs.Quoted.{whole_longest}
use Rattle.sn_lex.proofs.Unique.{byte_form}

-- A fault at another offset.

moved : ℕ → LexFault → LexFault
moved n (BadByte at) = BadByte n
moved n (OpenString at) = OpenString n
moved n (OpenComment at) = OpenComment n
moved n (BadNumber at) = BadNumber n
moved n (BadEnum at) = BadEnum n

moved_text : (n : ℕ) (f : LexFault) (text : List ℕ) → IsFaultyText f text → IsFaultyText (moved n f) text
unfolding moved
moved_text n (BadByte at) text h = h
moved_text n (OpenString at) text h = h
moved_text n (OpenComment at) text h = h
moved_text n (BadNumber at) text h = h
moved_text n (BadEnum at) text h = h

moved_offset : (n : ℕ) (f : LexFault) → offset_of (moved n f) ≡ n
unfolding moved
moved_offset n (BadByte at) = refl
moved_offset n (OpenString at) = refl
moved_offset n (OpenComment at) = refl
moved_offset n (BadNumber at) = refl
moved_offset n (BadEnum at) = refl

separator_has_byte : (text : List ℕ) → IsSeparator text → 0 < length text
separator_has_byte text (inl h) = let e = ap length h.2 in omega arith
separator_has_byte text (inr h) = let e : length text ≡ suc (suc (length (h.0 ++ codes "*/"))) = ap length h.2 in omega arith

shorter : (rest text after : List ℕ) → rest ≡ text ++ after → IsSeparator text → length after < length rest
shorter rest text after e h = let some = separator_has_byte text h in let n = ap length e ∙ length-append text after in omega arith

module _ (bytes : List ℕ) (at : ℕ) (inside : at ≤ length bytes) (none : (t : Token) (span : Span) → ¬ IsNextToken bytes at t span) (clean : (f : LexFault) → ¬ IsNextFault bytes at f) where
  Skipped : List ℕ → Type 0
  Skipped rest = LeavesSeparators (take (length bytes - at) (drop at bytes)) rest

  at_form : (rest text after : List ℕ) → Skipped rest → HasNoSeparator rest → rest ≡ text ++ after → IsForm text → NoLongerForm rest (length text) → ⊥
  unfolding Skipped
  at_form rest text after skipped apart e (separator s) longest = apart text after e s
  at_form rest text after skipped apart e (token t is) longest =
      none t _ (next_token_from bytes at rest after t inside skipped (record { text = text; whole = e; is_text = is; longest = longest }))
  at_form rest text after skipped apart e (fault f is) longest =
      let place = length bytes - length rest in
      clean (moved place f)
      (next_fault_from bytes at rest (moved place f) inside skipped (record { text = text; after = after; whole = e; is_text = moved_text place f text is; longest = longest }) (moved_offset place f))

  -- the longest of the forms with which the bytes begin
  grow : (fuel : ℕ) (rest text after : List ℕ) → Skipped rest → HasNoSeparator rest → rest ≡ text ++ after → IsForm text → length rest ≤ length text + fuel → ⊥
  grow zero rest text after skipped apart e form enough =
      at_form rest text after skipped apart e form (λ other behind same is. let n = whole_longest rest other behind same is in omega arith)
  grow (suc fuel) rest text after skipped apart e form enough =
      let longer : ¬ NoLongerForm rest (length text) = at_form rest text after skipped apart e form in
      longer
      (λ other behind same is.
      ⊎_elim
      (λ less. absurd (grow fuel rest other behind skipped apart same is (omega arith)))
      (λ most. most)
      (cases_lt (length text) (length other)))

  stands : (rest : List ℕ) → Skipped rest → HasNoSeparator rest → ⊥
  unfolding Skipped
  stands [] skipped apart = none End _ (next_token_from bytes at [] [] End inside skipped (record { text = []; whole = refl; is_text = refl; longest = whole_longest [] }))
  stands (c ∷ cs) skipped apart = grow (length cs) (c ∷ cs) (c ∷ []) cs skipped apart refl (byte_form c) (omega arith)

  walk : (fuel : ℕ) (rest : List ℕ) → Skipped rest → length rest ≤ fuel → ⊥
  unfolding Skipped
  walk zero rest skipped enough = stands rest skipped (λ text after e h. let less = shorter rest text after e h in omega arith)
  walk (suc fuel) rest skipped enough =
      let begins : ¬ HasNoSeparator rest = stands rest skipped in
      begins
      (λ text after e h.
      let less = shorter rest text after e h in
      walk fuel after (one_more_separator _ rest after skipped (record { separator = text; is_separator = h; whole = e })) (omega arith))

  pub something_stands : ⊥
  unfolding Skipped
  something_stands = walk (length (take (length bytes - at) (drop at bytes))) (take (length bytes - at) (drop at bytes)) (record { separators = []; are_separators = ([], tt, refl); whole = refl }) (omega arith)

pub something_next : (bytes : List ℕ) (at : ℕ) → at ≤ length bytes → ((t : Token) (span : Span) → ¬ IsNextToken bytes at t span) → ((f : LexFault) → ¬ IsNextFault bytes at f) → ⊥
something_next bytes at inside none clean = something_stands bytes at inside none clean
