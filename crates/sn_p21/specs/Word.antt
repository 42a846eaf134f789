-- MEANING (ISO 10303-21, tokens, in this project's profile): the words of a part text, its tokens with what they carry.
use Rattle.std.specs.Prelude.{◌≡◌, ℕ, ◌+◌, List, [], ◌∷◌, ◌++◌, slice_range, drop}
use Rattle.sn_lex.specs.Form.{AreSeparators, IsTextOf, doubled}
use Rattle.sn_lex.specs.Reading.{IsNextToken}
use Rattle.sn_lex.specs.declared.token.Span.{Span}
use Rattle.sn_lex.specs.declared.token.Token.{Token}
use Rattle.sn_lex.specs.declared.token.Token.TheVariants.{Keyword, Integer, Real, Text, Enumeration, Binary}

-- a token, and what it carries: the name of a keyword, the spelling of an integer or a real, the value of a string,
-- the name of an enumeration value, the digits of a binary; nothing for the others
pub record Word : Type 0 where
  pub token : Token
  pub value : List ℕ

-- what a token of this text carries: a string stands between apostrophes, with its own ones doubled, an enumeration
-- value between points, a binary between quotation marks
abbrev pub Carries : Token → List ℕ → List ℕ → Type 0
Carries Keyword text value = text ≡ value
Carries Integer text value = text ≡ value
Carries Real text value = text ≡ value
Carries Text text value = text ≡ 39 ∷ doubled value ++ 39 ∷ []
Carries Enumeration text value = text ≡ 46 ∷ value ++ 46 ∷ []
Carries Binary text value = text ≡ 34 ∷ value ++ 34 ∷ []
Carries _ text value = value ≡ []

-- a text of the word
abbrev pub IsSpelling : Word → List ℕ → Type 0
IsSpelling w text = IsTextOf w.token text × Carries w.token text w.value

-- a word that has a text
abbrev pub IsSpelled : Word → Type 0
IsSpelled w = (text : List ℕ) × IsSpelling w text

-- the next token from `at` on is this word, at the span
pub record IsNextWord (bytes : List ℕ) (at : ℕ) (w : Word) (span : Span) : Type 0 where
  pub token : IsNextToken bytes at w.token span
  pub carries : Carries w.token (slice_range bytes span.at (span.at + span.len)) w.value

-- from one place to another the bytes are these words, each the next token after the one before it
abbrev pub AreWordsBetween : List ℕ → ℕ → ℕ → List Word → Type 0
AreWordsBetween bytes from to [] = from ≡ to
AreWordsBetween bytes from to (w ∷ ws) = (span : Span) × IsNextWord bytes from w span × AreWordsBetween bytes (span.at + span.len) to ws

-- the bytes are these words, with separators between them and behind them
abbrev pub AreWords : List ℕ → List Word → Type 0
AreWords bytes ws = (to : ℕ) × AreWordsBetween bytes 0 to ws × AreSeparators (drop to bytes)

-- a word that carries nothing
abbrev pub mark : Token → Word
mark t = record { token = t; value = [] }

-- the keyword of this name
abbrev pub keyword : List ℕ → Word
keyword name = record { token = Keyword; value = name }
