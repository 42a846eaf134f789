-- MEANING (this project's own): what each fault says of the bytes from its offset on, without the longest form.
use Rattle.std.specs.Prelude.{◌≡◌, ℕ, ◌⊎◌, List, ◌∷◌, ◌++◌, IsTrue, codes}
use Rattle.std.specs.Char.{is_ascii_digit}
use Rattle.std.specs.Str.Parse.{digits_value}
use Rattle.sn_lex.specs.Character.{is_sign, is_stray}
use Rattle.sn_lex.specs.Form.{IsCommentBody, AreDigits, doubled, HeadFails, IsPlainReal, IsInstanceNumber, IsTextOf}
use Rattle.sn_lex.specs.declared.token.Token.{Token}
use Rattle.sn_lex.specs.declared.token.Token.TheVariants.{Keyword, Integer, Enumeration, Binary}
use Rattle.sn_lex.specs.declared.token.LexFault.{LexFault}
use Rattle.sn_lex.specs.declared.token.LexFault.TheVariants.{BadByte, OpenString, OpenComment, BadNumber, BadEnum}

-- the bytes begin with a text of the token nowhere
abbrev pub BeginsNo : Token → List ℕ → Type 0
BeginsNo t bytes = (text after : List ℕ) → bytes ≡ text ++ after → IsTextOf t text → ⊥

-- a sign without a digit; a real whose E no integer follows; a # without a digit, or with a number out of its limits
abbrev pub IsNumberBroken : List ℕ → Type 0
IsNumberBroken bytes =
    ((sign : ℕ) × (after : List ℕ) × IsTrue (is_sign sign) × HeadFails is_ascii_digit after × (bytes ≡ sign ∷ after))
    ⊎ (((plain : List ℕ) × (after : List ℕ) × IsPlainReal plain × BeginsNo Integer after × (bytes ≡ plain ++ (codes "E" ++ after)))
    ⊎ (((after : List ℕ) × HeadFails is_ascii_digit after × (bytes ≡ codes "#" ++ after))
    ⊎ ((digits : List ℕ) × (after : List ℕ) × AreDigits digits × HeadFails is_ascii_digit after × (IsInstanceNumber (digits_value 10 digits) → ⊥) × (bytes ≡ codes "#" ++ digits ++ after))))

-- a byte that begins no token and no comment; an apostrophe after which no single one closes the string; the beginning
-- of a comment that no end follows; a number broken off; a point that no name and point follow
abbrev pub IsNamed : LexFault → List ℕ → Type 0
IsNamed (BadByte at) bytes = (c : ℕ) × (after : List ℕ) × IsTrue (is_stray c) × (bytes ≡ c ∷ after) × BeginsNo Keyword bytes × BeginsNo Binary bytes × ((rest : List ℕ) → bytes ≡ codes "/*" ++ rest → ⊥)
IsNamed (OpenString at) bytes = (value : List ℕ) × (bytes ≡ codes "'" ++ doubled value)
IsNamed (OpenComment at) bytes = (body : List ℕ) × IsCommentBody body × (bytes ≡ codes "/*" ++ body)
IsNamed (BadNumber at) bytes = IsNumberBroken bytes
IsNamed (BadEnum at) bytes = (after : List ℕ) × (bytes ≡ codes "." ++ after) × BeginsNo Enumeration bytes
