-- Borders of the rules of numbers and of lines that are read, worked (after RS274/NGC version 3, NISTIR 6556, in this
-- project's profile).
use Rattle.std.specs.Prelude.{ℕ, ◌+◌, ℤ, pos, neg_ℤ, true, false, List, [], ◌∷◌, Option, Some, None}
use Rattle.sn_geom.specs.declared.limits.TheConstants.{REACH, MOST_TOOL, MOST_RATE}
use Rattle.sn_geom.specs.declared.machine.Word.{Word}
use Rattle.sn_geom.specs.Block.{Block}
use Rattle.sn_geom.specs.BlockRule.{IsBlock, IsLineWord}
use Rattle.sn_geom.specs.Decimal.{Decimal, HasDecSize}
use Rattle.sn_geom.specs.MachineExamples.{word, g, m, x, f, t, line, marked}

-- ---- numbers

abbrev pub decimal : ℕ → ℤ → Decimal
decimal digits exponent = record { negative = false; digits = digits; exponent = exponent }

-- a number has fewer than 10 ^ 30 as its digits, and an exponent of at most 200 in size
pub record DecimalsAreBounded : Type 0 where
  pub digits : HasDecSize (decimal 999999999999999999999999999999 (pos 0))
  pub more_digits : ¬ HasDecSize (decimal 1000000000000000000000000000000 (pos 0))
  pub exponent : HasDecSize (decimal 0 (pos 200))
  pub small_exponent : HasDecSize (decimal 0 (neg_ℤ (pos 200)))
  pub more_exponent : ¬ HasDecSize (decimal 0 (pos 201))
  pub less_exponent : ¬ HasDecSize (decimal 0 (neg_ℤ (pos 201)))

-- ---- lines

abbrev pub numbered_by : ℕ → Block
numbered_by n = record { percent = false; number = Some n; mark = None; words = [] }

abbrev pub percent_with : Option ℕ → Option ℕ → List Word → Block
percent_with number mark words = record { percent = true; number = number; mark = mark; words = words }

-- a line has no number above the greatest one, and no mark of 0
pub record LineNumbersAreBounded : Type 0 where
  pub greatest : IsBlock (numbered_by MOST_TOOL)
  pub greater : ¬ IsBlock (numbered_by (MOST_TOOL + 1))
  pub first_mark : IsBlock (marked 1 [])
  pub no_mark : ¬ IsBlock (marked 0 [])

-- words of a line are accepted ones within the limits of their letters, and no line number is among them
pub record WordsAreBounded : Type 0 where
  pub place : IsLineWord (x REACH)
  pub far_place : ¬ IsLineWord (x (REACH + 1))
  pub rate : IsLineWord (f MOST_RATE)
  pub great_rate : ¬ IsLineWord (f (MOST_RATE + 1))
  pub tool : IsLineWord (t MOST_TOOL)
  pub great_tool : ¬ IsLineWord (t (MOST_TOOL + 1))
  pub negative_tool : ¬ IsLineWord (word 84 (neg_ℤ (pos 1)))
  pub arc : ¬ IsLineWord (g 20)
  pub line_number : ¬ IsLineWord (word 78 (pos 1))
  pub stands : (w : Word) → IsBlock (line (w ∷ [])) → IsLineWord w

-- no letter but G and M stands twice, and no two words are of one group
pub record WordsAreDistinct : Type 0 where
  pub letters : ¬ IsBlock (line (x 0 ∷ x 0 ∷ []))
  pub group : ¬ IsBlock (line (g 0 ∷ g 10 ∷ []))
  pub other_group : ¬ IsBlock (line (m 3 ∷ m 5 ∷ []))

-- a percent sign stands alone
pub record PercentsStandAlone : Type 0 where
  pub alone : IsBlock (percent_with None None [])
  pub number : ¬ IsBlock (percent_with (Some 1) None [])
  pub mark : ¬ IsBlock (percent_with None (Some 1) [])
  pub words : ¬ IsBlock (percent_with None None (x 0 ∷ []))
