-- From texts to places in the bytes, and back.
use Rattle.std.proofs.Common.{◌≡◌, ℕ, ◌+◌, ◌-◌, ◌≤◌, List, ◌++◌, length, take, drop, append_assoc, length-append, refl, sym, ap, ◌∙◌, subst, arith, slice_range}
use Rattle.std.proofs.lemmas.List.{take_at, drop_at, take-append-drop, length-take-le, take_rest}
use Rattle.sn_lex.specs.Form.{AreSeparators, IsTextOf, IsFaultyText}
use Rattle.sn_lex.specs.Reading.{NoLongerForm, IsNextToken, IsNextFault, offset_of}
use Rattle.sn_lex.specs.Split.{LeavesSeparators, ReadsToken, ReadsFault}
use Rattle.sn_lex.specs.declared.token.Token.{Token}
use Rattle.sn_lex.specs.declared.token.LexFault.{LexFault}

slice_at : (before middle after : List ℕ) (from to : ℕ) → length before ≡ from → from + length middle ≡ to → slice_range (before ++ (middle ++ after)) from to ≡ middle
slice_at before middle after from to start stop =
    let size : length middle ≡ to - from = omega arith in
    ap (λ l. take (to - from) l) (drop_at before (middle ++ after) from start) ∙ take_at middle after (to - from) size

-- the bytes in parts: what is before, separators, a text, what is after
pub next_token_at : (before separators text after : List ℕ) (t : Token) (at start len : ℕ) → length before ≡ at → at + length separators ≡ start → length text ≡ len
    → AreSeparators separators → IsTextOf t text → NoLongerForm (text ++ after) (length text)
    → IsNextToken (before ++ (separators ++ (text ++ after))) at t (record { at = start; len = len })
next_token_at before separators text after t at start len first second third are is longest = record {
  from = omega arith;
  within = omega (arith, length-append before (separators ++ (text ++ after)), length-append separators (text ++ after), length-append text after);
  separated = subst AreSeparators (sym (slice_at before separators (text ++ after) at start first second)) are;
  text = subst (IsTextOf t) (sym (ap (λ l. slice_range l start (start + len)) regroup ∙ slice_at (before ++ separators) text after start (start + len) size (omega arith))) is;
  longest = subst (λ (l : List ℕ). NoLongerForm l len) (sym (ap (λ l. drop start l) regroup ∙ drop_at (before ++ separators) (text ++ after) start size)) (subst (λ (n : ℕ). NoLongerForm (text ++ after) n) third longest);
}
  where
    regroup : before ++ (separators ++ (text ++ after)) ≡ (before ++ separators) ++ (text ++ after)
    regroup = sym (append_assoc before separators (text ++ after))

    size : length (before ++ separators) ≡ start
    size = omega (arith, length-append before separators)

pub next_fault_at : (before separators text after : List ℕ) (f : LexFault) (at : ℕ) → length before ≡ at → at + length separators ≡ offset_of f
    → AreSeparators separators → IsFaultyText f text → NoLongerForm (text ++ after) (length text)
    → IsNextFault (before ++ (separators ++ (text ++ after))) at f
next_fault_at before separators text after f at first second are is longest = record {
  len = length text;
  from = omega arith;
  within = omega (arith, length-append before (separators ++ (text ++ after)), length-append separators (text ++ after), length-append text after);
  separated = subst AreSeparators (sym (slice_at before separators (text ++ after) at (offset_of f) first second)) are;
  text = subst (IsFaultyText f) (sym (ap (λ l. slice_range l (offset_of f) (offset_of f + length text)) regroup ∙ slice_at (before ++ separators) text after (offset_of f) (offset_of f + length text) size refl)) is;
  longest = subst (λ (l : List ℕ). NoLongerForm l (length text)) (sym (ap (λ l. drop (offset_of f) l) regroup ∙ drop_at (before ++ separators) (text ++ after) (offset_of f) size)) longest;
}
  where
    regroup : before ++ (separators ++ (text ++ after)) ≡ (before ++ separators) ++ (text ++ after)
    regroup = sym (append_assoc before separators (text ++ after))

    size : length (before ++ separators) ≡ offset_of f
    size = omega (arith, length-append before separators)

-- what the parts of the code give, together

parts : (bytes : List ℕ) (at : ℕ) (rest separators text after : List ℕ) → take (length bytes - at) (drop at bytes) ≡ separators ++ rest → rest ≡ text ++ after → bytes ≡ take at bytes ++ (separators ++ (text ++ after))
parts bytes at rest separators text after skipped read =
    sym (take-append-drop at bytes) ∙ ap (λ l. take at bytes ++ l) (sym (take_rest bytes at) ∙ skipped ∙ ap (λ l. separators ++ l) read)

pub next_token_from : (bytes : List ℕ) (at : ℕ) (rest after : List ℕ) (t : Token) → at ≤ length bytes → LeavesSeparators (take (length bytes - at) (drop at bytes)) rest → ReadsToken rest t after
    → IsNextToken bytes at t (record { at = length bytes - length rest; len = length rest - length after })
next_token_from bytes at rest after t inside skipped read =
    subst (λ (l : List ℕ). IsNextToken l at t (record { at = length bytes - length rest; len = length rest - length after })) (sym whole)
    (next_token_at (take at bytes) s x after t at (length bytes - length rest) (length rest - length after) before_len start_is len_is skipped.are_separators read.is_text (subst (λ (l : List ℕ). NoLongerForm l (length x)) read.whole read.longest))
  where
    s : List ℕ
    s = skipped.separators

    x : List ℕ
    x = read.text

    whole : bytes ≡ take at bytes ++ (s ++ (x ++ after))
    whole = parts bytes at rest s x after skipped.whole read.whole

    before_len : length (take at bytes) ≡ at
    before_len = length-take-le at bytes inside

    rest_len : length rest ≡ length x + length after
    rest_len = ap length read.whole ∙ length-append x after

    bytes_len : length bytes ≡ at + (length s + (length x + length after))
    bytes_len = omega (arith, ap length whole, length-append (take at bytes) (s ++ (x ++ after)), length-append s (x ++ after), length-append x after, before_len)

    start_is : at + length s ≡ length bytes - length rest
    start_is = omega (arith, bytes_len, rest_len)

    len_is : length x ≡ length rest - length after
    len_is = omega (arith, rest_len)

pub next_fault_from : (bytes : List ℕ) (at : ℕ) (rest : List ℕ) (f : LexFault) → at ≤ length bytes → LeavesSeparators (take (length bytes - at) (drop at bytes)) rest → ReadsFault rest f → offset_of f ≡ length bytes - length rest → IsNextFault bytes at f
next_fault_from bytes at rest f inside skipped read place =
    subst (λ (l : List ℕ). IsNextFault l at f) (sym whole)
    (next_fault_at (take at bytes) s x after f at before_len start_is skipped.are_separators read.is_text (subst (λ (l : List ℕ). NoLongerForm l (length x)) read.whole read.longest))
  where
    s : List ℕ
    s = skipped.separators

    x : List ℕ
    x = read.text

    after : List ℕ
    after = read.after

    whole : bytes ≡ take at bytes ++ (s ++ (x ++ after))
    whole = parts bytes at rest s x after skipped.whole read.whole

    before_len : length (take at bytes) ≡ at
    before_len = length-take-le at bytes inside

    rest_len : length rest ≡ length x + length after
    rest_len = ap length read.whole ∙ length-append x after

    bytes_len : length bytes ≡ at + (length s + (length x + length after))
    bytes_len = omega (arith, ap length whole, length-append (take at bytes) (s ++ (x ++ after)), length-append s (x ++ after), length-append x after, before_len)

    start_is : at + length s ≡ offset_of f
    start_is = omega (arith, bytes_len, rest_len, place)
