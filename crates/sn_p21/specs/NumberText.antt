-- MEANING (ISO 10303-21, integer and real, in this project's profile): the numbers of a part text.
use Rattle.std.specs.Prelude.{ℕ, List}
use Rattle.sn_geom.specs.Decimal.{IsNumberText}
use Rattle.sn_lex.specs.Form.{IsTextOf}
use Rattle.sn_lex.specs.declared.token.Token.TheVariants.{Integer, Real}

-- each integer and each real is the text of a number
pub record NumbersHaveText : Type 0 where
  pub integer : (text : List ℕ) → IsTextOf Integer text → IsNumberText text
  pub real : (text : List ℕ) → IsTextOf Real text → IsNumberText text
