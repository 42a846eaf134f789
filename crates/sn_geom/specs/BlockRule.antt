-- MEANING: what holds of each line that is read (after RS274/NGC version 3, NISTIR 6556, in this project's profile).
use Rattle.std.specs.Prelude.{◌≡◌, ℕ, ◌≤◌, ◌==◌, true, false, [], List, None, IfSome, All, count_by}
use Rattle.sn_geom.specs.declared.limits.TheConstants.{MOST_TOOL}
use Rattle.sn_geom.specs.declared.machine.Word.{Word}
use Rattle.sn_geom.specs.Block.{Block}
use Rattle.sn_geom.specs.LineTable.{is_modal, is_accepted, is_within, in_group}

-- a word that stands among the words of a line: it is accepted, its value is within its limits, and it is no line number
pub record IsLineWord (w : Word) : Type 0 where
  pub accepted : is_accepted w ≡ true
  pub within : is_within w.letter w.value ≡ true
  pub no_number : (w.letter == 78) ≡ false

-- no letter but G and M stands twice, and no group has two words
pub record AreDistinct (words : List Word) : Type 0 where
  pub letters : (letter : ℕ) → is_modal letter ≡ false → count_by (λ w. w.letter == letter) words ≤ 1
  pub groups : (letter group : ℕ) → count_by (in_group letter group) words ≤ 1

-- a percent sign alone says nothing else
pub record SaysNothing (b : Block) : Type 0 where
  pub number : b.number ≡ None
  pub mark : b.mark ≡ None
  pub words : b.words ≡ []

pub record IsBlock (b : Block) : Type 0 where
  pub number : IfSome b.number (λ n. n ≤ MOST_TOOL)
  pub mark : IfSome b.mark (λ m. 1 ≤ m)
  pub words : All IsLineWord b.words
  pub distinct : AreDistinct b.words
  pub percent : b.percent ≡ true → SaysNothing b
