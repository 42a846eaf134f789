-- MEANING (ISO 10303-21, tokens and token separators, in this project's profile): the texts of separators, of tokens and of
-- faulty tokens.
use Rattle.std.specs.Prelude.{◌≡◌, ℕ, ◌^◌, ◌<◌, ◌⊎◌, cond, ◌==◌, List, [], ◌∷◌, ◌++◌, length, Bool, IsTrue, IsFalse, codes}
use Rattle.std.specs.List.{list_all, concat, AllByRecursion}
use Rattle.std.specs.Char.{is_ascii_digit, is_ascii_whitespace}
use Rattle.std.specs.Str.Parse.{digits_value}
use Rattle.sn_lex.specs.Character.{is_upper, is_name_byte, is_hex_digit, is_unused_count, is_sign, is_stray}
use Rattle.sn_lex.specs.declared.token.Token.{Token}
use Rattle.sn_lex.specs.declared.token.Token.TheVariants.{FileStart, FileEnd, Keyword, Number, Integer, Real, Text, Enumeration, Binary, LeftParen, RightParen, Comma, Semicolon, Equals, Dollar, Star, End}
use Rattle.sn_lex.specs.declared.token.LexFault.{LexFault}
use Rattle.sn_lex.specs.declared.token.LexFault.TheVariants.{BadByte, OpenString, OpenComment, BadNumber, BadEnum}

-- Separators.

-- in no place does a solidus, which is 47, follow an asterisk, which is 42
abbrev pub IsCommentBody : List ℕ → Type 0
IsCommentBody [] = Unit {0}
IsCommentBody (c ∷ []) = Unit {0}
IsCommentBody (c ∷ d ∷ cs) = ((c ≡ 42) × (d ≡ 47) → ⊥) × IsCommentBody (d ∷ cs)

-- /* and */ with a body between them: comments are not nested
abbrev pub IsComment : List ℕ → Type 0
IsComment text = (body : List ℕ) × IsCommentBody body × (text ≡ codes "/*" ++ body ++ codes "*/")

-- one blank byte, or a comment
abbrev pub IsSeparator : List ℕ → Type 0
IsSeparator text = ((c : ℕ) × IsTrue (is_ascii_whitespace c) × (text ≡ c ∷ [])) ⊎ IsComment text

-- any number of separators in a row
abbrev pub AreSeparators : List ℕ → Type 0
AreSeparators text = (parts : List (List ℕ)) × AllByRecursion IsSeparator parts × (text ≡ concat parts)

-- Parts of tokens.

-- the first byte, if there is one, does not pass
abbrev pub HeadFails : (ℕ → Bool) → List ℕ → Type 0
HeadFails test [] = Unit {0}
HeadFails test (c ∷ cs) = IsFalse (test c)

-- at least one digit, and digits alone
abbrev pub AreDigits : List ℕ → Type 0
AreDigits text = (0 < length text) × IsTrue (list_all is_ascii_digit text)

-- a capital letter or the low line, then these and digits
abbrev pub IsName : List ℕ → Type 0
IsName [] = ⊥
IsName (c ∷ cs) = IsTrue (is_upper c) × IsTrue (list_all is_name_byte cs)

-- the value of a string as it stands between its apostrophes: each apostrophe, which is 39, is written twice
abbrev pub doubled : List ℕ → List ℕ
doubled [] = []
doubled (c ∷ cs) = cond (c == 39) (39 ∷ 39 ∷ doubled cs) (c ∷ doubled cs)

-- a sign or none, then digits
abbrev pub IsInteger : List ℕ → Type 0
IsInteger text = AreDigits text ⊎ ((sign : ℕ) × (digits : List ℕ) × IsTrue (is_sign sign) × AreDigits digits × (text ≡ sign ∷ digits))

-- an integer, a point, digits or none
abbrev pub IsPlainReal : List ℕ → Type 0
IsPlainReal text = (whole : List ℕ) × (fraction : List ℕ) × IsInteger whole × IsTrue (list_all is_ascii_digit fraction) × (text ≡ whole ++ (codes "." ++ fraction))

-- the same, then E and an integer
abbrev pub IsScaledReal : List ℕ → Type 0
IsScaledReal text = (plain : List ℕ) × (exponent : List ℕ) × IsPlainReal plain × IsInteger exponent × (text ≡ plain ++ (codes "E" ++ exponent))

-- a real that breaks off after its E or after the sign that follows
abbrev pub IsBrokenReal : List ℕ → Type 0
IsBrokenReal text = (plain : List ℕ) × IsPlainReal plain × ((text ≡ plain ++ codes "E") ⊎ ((sign : ℕ) × IsTrue (is_sign sign) × (text ≡ plain ++ (codes "E" ++ sign ∷ []))))

-- # and digits of this value
abbrev pub IsNumeral : List ℕ → ℕ → Type 0
IsNumeral text n = (digits : List ℕ) × AreDigits digits × (digits_value 10 digits ≡ n) × (text ≡ codes "#" ++ digits)

-- the numbers that an instance may have
abbrev pub IsInstanceNumber : ℕ → Type 0
IsInstanceNumber n = (0 < n) × (n < 2 ^ 32)

-- Tokens.

-- the texts of each token; End alone has the empty one
abbrev pub IsTextOf : Token → List ℕ → Type 0
IsTextOf FileStart text = text ≡ codes "ISO-10303-21"
IsTextOf FileEnd text = text ≡ codes "END-ISO-10303-21"
IsTextOf Keyword text = IsName text ⊎ ((name : List ℕ) × IsName name × (text ≡ codes "!" ++ name))
IsTextOf (Number n) text = IsInstanceNumber n × IsNumeral text n
IsTextOf Integer text = IsInteger text
IsTextOf Real text = IsPlainReal text ⊎ IsScaledReal text
IsTextOf Text text = (value : List ℕ) × (text ≡ codes "'" ++ doubled value ++ codes "'")
IsTextOf Enumeration text = (name : List ℕ) × IsName name × (text ≡ codes "." ++ name ++ codes ".")
IsTextOf Binary text = (first : ℕ) × (digits : List ℕ) × IsTrue (is_unused_count first) × IsTrue (list_all is_hex_digit digits) × (text ≡ codes "\"" ++ first ∷ digits ++ codes "\"")
IsTextOf LeftParen text = text ≡ codes "("
IsTextOf RightParen text = text ≡ codes ")"
IsTextOf Comma text = text ≡ codes ","
IsTextOf Semicolon text = text ≡ codes ";"
IsTextOf Equals text = text ≡ codes "="
IsTextOf Dollar text = text ≡ codes "$"
IsTextOf Star text = text ≡ codes "*"
IsTextOf End text = text ≡ []

-- Faulty tokens.

-- a sign alone, a broken real, a # alone, and a # with a number that no instance may have
abbrev pub IsBadNumber : List ℕ → Type 0
IsBadNumber text =
    ((sign : ℕ) × IsTrue (is_sign sign) × (text ≡ sign ∷ []))
    ⊎ (IsBrokenReal text
    ⊎ ((text ≡ codes "#")
    ⊎ ((n : ℕ) × (IsInstanceNumber n → ⊥) × IsNumeral text n)))

-- the texts of each fault, whatever its offset: a stray byte; a string and a comment that are not closed; a bad
-- number; a point alone or with a name that no point follows
abbrev pub IsFaultyText : LexFault → List ℕ → Type 0
IsFaultyText (BadByte at) text = (c : ℕ) × IsTrue (is_stray c) × (text ≡ c ∷ [])
IsFaultyText (OpenString at) text = (value : List ℕ) × (text ≡ codes "'" ++ doubled value)
IsFaultyText (OpenComment at) text = (body : List ℕ) × IsCommentBody body × (text ≡ codes "/*" ++ body)
IsFaultyText (BadNumber at) text = IsBadNumber text
IsFaultyText (BadEnum at) text = (text ≡ codes ".") ⊎ ((name : List ℕ) × IsName name × (text ≡ codes "." ++ name))
