-- The canonical text of a word is one of its spellings.
use Rattle.std.proofs.Common.{◌≡◌, ◌≢◌, ℕ, ◌^◌, ◌<◌, true, List, [], ◌∷◌, refl, subst, arith}
use Rattle.std.proofs.lemmas.Bool.{and_from}
use Rattle.std.specs.Prelude.{decimal, IsTrue}
use Rattle.std.specs.List.{list_all}
use Rattle.std.specs.Char.{is_ascii_digit}
use Rattle.std.specs.Str.Parse.{AllDigits}
use Rattle.std.proofs.lemmas.Bool.Decides.{nat_tests}
use Rattle.std.proofs.lemmas.Str.Parse.{digit_from_value}
use Rattle.std.proofs.lemmas.Fmt.{decimal_is_IsNumeral}
use Rattle.sn_lex.specs.Character.{is_mark}
use Rattle.sn_lex.specs.Form.{AreDigits, IsTextOf}
use Rattle.sn_lex.specs.declared.token.Token.{Token}
use Rattle.sn_lex.specs.declared.token.Token.TheVariants.{FileStart, FileEnd, Keyword, Number, Integer, Real, Text, Enumeration, Binary, LeftParen, RightParen, Comma, Semicolon, Equals, Dollar, Star, End}
use Rattle.sn_p21.specs.Canonical.{token_text}
use Rattle.sn_p21.specs.Word.{Carries}

all_digits : (ds : List ℕ) → AllDigits 10 ds → IsTrue (list_all is_ascii_digit ds)
all_digits [] h = refl
all_digits (d ∷ ds) h = let r = digit_from_value d h.0 in let e : is_ascii_digit d ≡ true = grind (arith, nat_tests) in and_from (is_ascii_digit d) (list_all is_ascii_digit ds) e (all_digits ds h.1)

pub are_digits : (n : ℕ) → n < 2 ^ 32 → AreDigits (decimal n)
are_digits n h = let d = decimal_is_IsNumeral n (omega arith) in (d.0.0, all_digits (decimal n) d.0.1)

-- a token of a text that carries this has its canonical text too
pub spelled_text : (t : Token) (text value : List ℕ) → IsTextOf t text → Carries t text value → IsTextOf t (token_text t value) × Carries t (token_text t value) value
spelled_text FileStart text value is c = (refl, c)
spelled_text FileEnd text value is c = (refl, c)
spelled_text Keyword text value is c = (subst (IsTextOf Keyword) c is, refl)
spelled_text (Number n) text value is c = ((is.0, (decimal n, are_digits n is.0.1, (decimal_is_IsNumeral n (omega (arith, is.0.1))).1, refl)), c)
spelled_text Integer text value is c = (subst (IsTextOf Integer) c is, refl)
spelled_text Real text value is c = (subst (IsTextOf Real) c is, refl)
spelled_text Text text value is c = (subst (IsTextOf Text) c is, refl)
spelled_text Enumeration text value is c = (subst (IsTextOf Enumeration) c is, refl)
spelled_text Binary text value is c = (subst (IsTextOf Binary) c is, refl)
spelled_text LeftParen text value is c = (refl, c)
spelled_text RightParen text value is c = (refl, c)
spelled_text Comma text value is c = (refl, c)
spelled_text Semicolon text value is c = (refl, c)
spelled_text Equals text value is c = (refl, c)
spelled_text Dollar text value is c = (refl, c)
spelled_text Star text value is c = (refl, c)
spelled_text End text value is c = (refl, c)

-- the tokens that are marks
abbrev pub IsMark : Token → Type 0
IsMark LeftParen = Unit {0}
IsMark RightParen = Unit {0}
IsMark Comma = Unit {0}
IsMark Semicolon = Unit {0}
IsMark Equals = Unit {0}
IsMark Dollar = Unit {0}
IsMark Star = Unit {0}
IsMark _ = ⊥

pub mark_text : (t : Token) (value : List ℕ) → IsMark t → (c : ℕ) × IsTrue (is_mark c) × (token_text t value ≡ c ∷ [])
mark_text LeftParen value h = (40, refl, refl)
mark_text RightParen value h = (41, refl, refl)
mark_text Comma value h = (44, refl, refl)
mark_text Semicolon value h = (59, refl, refl)
mark_text Equals value h = (61, refl, refl)
mark_text Dollar value h = (36, refl, refl)
mark_text Star value h = (42, refl, refl)
mark_text _ value h = absurd h

-- the tokens of words: the end is none
abbrev pub IsWordToken : Token → Type 0
IsWordToken End = ⊥
IsWordToken _ = Unit {0}

pub no_end : (t : Token) → IsWordToken t → t ≢ End
no_end t h e = subst IsWordToken e h
