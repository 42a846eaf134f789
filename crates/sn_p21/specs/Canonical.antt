-- MEANING (this project's own): the canonical text of a file.
use Rattle.std.specs.Prelude.{ℕ, List, [], ◌∷◌, ◌++◌, flat_map, codes, decimal}
use Rattle.sn_lex.specs.Form.{doubled}
use Rattle.sn_lex.specs.declared.token.Token.{Token}
use Rattle.sn_lex.specs.declared.token.Token.TheVariants.{FileStart, FileEnd, Keyword, Number, Integer, Real, Text, Enumeration, Binary, LeftParen, RightParen, Comma, Semicolon, Equals, Dollar, Star, End}
use Rattle.sn_p21.specs.Content.{Content}
use Rattle.sn_p21.specs.Grammar.{plainest_words}
use Rattle.sn_p21.specs.Word.{Word}

-- the text of a token that carries this value; the number of an instance has no leading zeros
abbrev pub token_text : Token → List ℕ → List ℕ
token_text FileStart value = codes "ISO-10303-21"
token_text FileEnd value = codes "END-ISO-10303-21"
token_text Keyword value = value
token_text (Number n) value = 35 ∷ decimal n
token_text Integer value = value
token_text Real value = value
token_text Text value = 39 ∷ doubled value ++ 39 ∷ []
token_text Enumeration value = 46 ∷ value ++ 46 ∷ []
token_text Binary value = 34 ∷ value ++ 34 ∷ []
token_text LeftParen value = codes "("
token_text RightParen value = codes ")"
token_text Comma value = codes ","
token_text Semicolon value = codes ";"
token_text Equals value = codes "="
token_text Dollar value = codes "$"
token_text Star value = codes "*"
token_text End value = []

-- the separator behind a token: a line feed behind a semicolon, and no other
abbrev pub separator_after : Token → List ℕ
separator_after Semicolon = 10 ∷ []
separator_after _ = []

abbrev pub word_text : Word → List ℕ
word_text w = token_text w.token w.value ++ separator_after w.token

-- the texts of the words, one behind another
abbrev pub words_text : List Word → List ℕ
words_text ws = flat_map word_text ws

-- no parentheses around the one part of a simple instance
abbrev pub canonical_text : Content → List ℕ
canonical_text f = words_text (plainest_words f)
