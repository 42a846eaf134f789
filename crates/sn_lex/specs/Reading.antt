-- MEANING (this project's own): what stands in the bytes at a place, and the tokens of the whole bytes.
use Rattle.std.specs.Prelude.{◌≡◌, ◌≢◌, ℕ, ◌+◌, ◌≤◌, List, [], ◌∷◌, ◌++◌, length, drop, slice_range, Option, Some, None}
use Rattle.sn_lex.specs.Form.{IsSeparator, AreSeparators, IsTextOf, IsFaultyText}
use Rattle.sn_lex.specs.declared.token.Token.{Token}
use Rattle.sn_lex.specs.declared.token.Token.TheVariants.{End}
use Rattle.sn_lex.specs.declared.token.Span.{Span}
use Rattle.sn_lex.specs.declared.token.LexFault.{LexFault}
use Rattle.sn_lex.specs.declared.token.LexFault.TheVariants.{BadByte, OpenString, OpenComment, BadNumber, BadEnum}

-- the text is that of a separator, of a token or of a faulty token
pub data IsForm (text : List ℕ) : Type 0 where
  separator : IsSeparator text → IsForm text
  token : (t : Token) → IsTextOf t text → IsForm text
  fault : (f : LexFault) → IsFaultyText f text → IsForm text

-- no form with which the bytes begin is longer than len
abbrev pub NoLongerForm : List ℕ → ℕ → Type 0
NoLongerForm bytes len = (text after : List ℕ) → bytes ≡ text ++ after → IsForm text → length text ≤ len

-- where a fault stands
abbrev pub offset_of : LexFault → ℕ
offset_of (BadByte at) = at
offset_of (OpenString at) = at
offset_of (OpenComment at) = at
offset_of (BadNumber at) = at
offset_of (BadEnum at) = at

-- The next token from `at` on is at the span: before it are separators alone, the slice at the span is its text,
-- and no longer form begins there. End stands at the end of the bytes, since elsewhere a form of one byte begins.
pub record IsNextToken (bytes : List ℕ) (at : ℕ) (t : Token) (span : Span) : Type 0 where
  pub from : at ≤ span.at
  pub within : span.at + span.len ≤ length bytes
  pub separated : AreSeparators (slice_range bytes at span.at)
  pub text : IsTextOf t (slice_range bytes span.at (span.at + span.len))
  pub longest : NoLongerForm (drop span.at bytes) span.len

-- The next token from `at` on is faulty, and its first byte is at the offset of the fault.
pub record IsNextFault (bytes : List ℕ) (at : ℕ) (f : LexFault) : Type 0 where
  pub len : ℕ
  pub from : at ≤ offset_of f
  pub within : offset_of f + len ≤ length bytes
  pub separated : AreSeparators (slice_range bytes at (offset_of f))
  pub text : IsFaultyText f (slice_range bytes (offset_of f) (offset_of f + len))
  pub longest : NoLongerForm (drop (offset_of f) bytes) len

-- From one place to another the bytes are these tokens, each after the one before it; none is End.
abbrev pub AreTokensBetween : List ℕ → ℕ → ℕ → List (Token × Span) → Type 0
AreTokensBetween bytes from to [] = from ≡ to
AreTokensBetween bytes from to (t ∷ ts) = IsNextToken bytes from t.0 t.1 × (t.0 ≢ End) × AreTokensBetween bytes (t.1.at + t.1.len) to ts

-- no more tokens come from `at` on: separators alone are left, or the next token is faulty
abbrev pub StopsAt : List ℕ → ℕ → Option LexFault → Type 0
StopsAt bytes at None = AreSeparators (drop at bytes)
StopsAt bytes at (Some f) = IsNextFault bytes at f

-- From `at` on the bytes are these tokens, to the end or up to a fault.
abbrev pub AreTokensFrom : List ℕ → ℕ → List (Token × Span) → Option LexFault → Type 0
AreTokensFrom bytes at tokens stop = (to : ℕ) × AreTokensBetween bytes at to tokens × StopsAt bytes to stop
