-- MEANING (this project's own): laws of the tokens of bytes, which the functions of these names state.
use Rattle.std.specs.Prelude.{◌≡◌, ◌≢◌, ℕ, ◌+◌, ◌<◌, ◌≤◌, ◌⊎◌, ◌||◌, List, [], ◌∷◌, ◌++◌, length, drop, slice_range, Option, IsTrue}
use Rattle.std.specs.Char.{is_ascii_whitespace}
use Rattle.sn_lex.specs.Character.{is_mark}
use Rattle.sn_lex.specs.Form.{AreSeparators, doubled, IsTextOf}
use Rattle.sn_lex.specs.Fault.{IsNamed}
use Rattle.sn_lex.specs.Reading.{IsNextToken, IsNextFault, offset_of, AreTokensFrom}
use Rattle.sn_lex.specs.declared.token.Token.{Token}
use Rattle.sn_lex.specs.declared.token.Token.TheVariants.{End}
use Rattle.sn_lex.specs.declared.token.Span.{Span}
use Rattle.sn_lex.specs.declared.token.LexFault.{LexFault}

-- what stands next is one token at one span, or one fault, and not both; it cannot be that neither stands there
abbrev pub OneNext : Type 0
OneNext =
    ((bytes : List ℕ) (at : ℕ) (t u : Token) (span other : Span) → IsNextToken bytes at t span → IsNextToken bytes at u other → (t ≡ u) × (span ≡ other))
    × ((bytes : List ℕ) (at : ℕ) (f g : LexFault) → IsNextFault bytes at f → IsNextFault bytes at g → f ≡ g)
    × ((bytes : List ℕ) (at : ℕ) (t : Token) (span : Span) (f : LexFault) → IsNextToken bytes at t span → IsNextFault bytes at f → ⊥)
    × ((bytes : List ℕ) (at : ℕ) → at ≤ length bytes → ((t : Token) (span : Span) → ¬ IsNextToken bytes at t span) → ((f : LexFault) → ¬ IsNextFault bytes at f) → ⊥)

-- each token but End has a byte, and so has a faulty one; End stands exactly where separators alone are left
abbrev pub TokensHaveBytes : Type 0
TokensHaveBytes =
    ((bytes : List ℕ) (at : ℕ) (t : Token) (span : Span) → IsNextToken bytes at t span → t ≢ End → 0 < span.len)
    × ((bytes : List ℕ) (at : ℕ) (f : LexFault) → IsNextFault bytes at f → offset_of f < length bytes)
    × ((bytes : List ℕ) (at : ℕ) (span : Span) → IsNextToken bytes at End span → AreSeparators (drop at bytes) × (span.at ≡ length bytes) × (span.len ≡ 0))
    × ((bytes : List ℕ) (at : ℕ) → at ≤ length bytes → AreSeparators (drop at bytes) → IsNextToken bytes at End (record { at = length bytes; len = 0 }))

-- a fault stands next exactly where separators lead to bytes of which it says so
abbrev pub FaultsNamed : Type 0
FaultsNamed =
    ((bytes : List ℕ) (at : ℕ) (f : LexFault) → IsNextFault bytes at f → (at ≤ offset_of f) × AreSeparators (slice_range bytes at (offset_of f)) × IsNamed f (drop (offset_of f) bytes))
    × ((bytes : List ℕ) (at : ℕ) (f : LexFault) → at ≤ offset_of f → AreSeparators (slice_range bytes at (offset_of f)) → IsNamed f (drop (offset_of f) bytes) → IsNextFault bytes at f)

-- two tokenisations of the same bytes are the same list, and stop in the same way
abbrev pub OneTokenisation : Type 0
OneTokenisation = (bytes : List ℕ) (at : ℕ) (ts us : List (Token × Span)) (stop halt : Option LexFault) → AreTokensFrom bytes at ts stop → AreTokensFrom bytes at us halt → (ts ≡ us) × (stop ≡ halt)

-- a string has one value
abbrev pub OneValue : Type 0
OneValue = (value other : List ℕ) → doubled value ≡ doubled other → value ≡ other

-- nothing, a mark or a blank comes after the text, or the text is a mark
abbrev pub IsDelimited : List ℕ → List ℕ → Type 0
IsDelimited text [] = Unit {0}
IsDelimited text (c ∷ cs) = IsTrue (is_mark c || is_ascii_whitespace c) ⊎ ((mark : ℕ) × IsTrue (is_mark mark) × (text ≡ mark ∷ []))

-- a delimited text of a token, with separators before it, is read as that token
abbrev pub ReadsWritten : Type 0
ReadsWritten = (before separators text after : List ℕ) (t : Token) → AreSeparators separators → IsTextOf t text → t ≢ End → IsDelimited text after → IsNextToken (before ++ (separators ++ (text ++ after))) (length before) t (record { at = length before + length separators; len = length text })
