-- MEANING: lines and programs that are laid out in different ways and say the same (after RS274/NGC version 3, NISTIR 6556, in this
-- project's profile).
use Rattle.std.specs.Prelude.{◌≡◌, ◌↔◌, ℕ, false, List, [], ◌∷◌, None}
use Rattle.sn_geom.specs.declared.machine.Word.{Word}
use Rattle.sn_geom.specs.Acts.{Act}
use Rattle.sn_geom.specs.Block.{Block, has_word, value_of}
use Rattle.sn_geom.specs.LineTable.{is_modal}
use Rattle.sn_geom.specs.LineText.{LineText}
use Rattle.sn_geom.specs.Machine.{State, says_something, fault_of, acts_of, no_acts, state_after}
use Rattle.sn_geom.specs.Meaning.{Means}
use Rattle.sn_outline.specs.Job.{Job}
use Rattle.sn_open.specs.Good.{Good}

-- Programs.

-- the programs mean the same acts, and are good for the same jobs
pub record AreEquivalent (text other : List ℕ) : Type 0 where
  pub means : (acts : List Act) → Means text acts ↔ Means other acts
  pub good : (job : Job) → Good job text ↔ Good job other

-- Lines.

-- the same G and M words, and the same value of each other letter, in whatever order
pub record HaveSameWords (some others : List Word) : Type 0 where
  pub modal : (letter value : ℕ) → has_word some letter value ≡ has_word others letter value
  pub values : (letter : ℕ) → is_modal letter ≡ false → value_of some letter ≡ value_of others letter

-- the blocks differ in the order of their words and in the line number alone, and both say something or neither does
pub record AreAlike (some other : Block) : Type 0 where
  pub percent : some.percent ≡ other.percent
  pub mark : some.mark ≡ other.mark
  pub words : HaveSameWords some.words other.words
  pub says : says_something some ≡ says_something other

-- both lines are read, and as blocks that are alike
pub record SayTheSame (line other : List ℕ) : Type 0 where
  pub block : Block
  pub other_block : Block
  pub reads : LineText line block
  pub other_reads : LineText other other_block
  pub alike : AreAlike block other_block

-- each of the other lines says the same as the line
abbrev pub EachSaysTheSame : List ℕ → List (List ℕ) → Type 0
EachSaysTheSame line [] = Unit {0}
EachSaysTheSame line (other ∷ others) = SayTheSame line other × EachSaysTheSame line others

-- as many lines, each of which says the same as its partner
abbrev pub AreSameLines : List (List ℕ) → List (List ℕ) → Type 0
AreSameLines [] [] = Unit {0}
AreSameLines [] (other ∷ others) = ⊥
AreSameLines (line ∷ lines) [] = ⊥
AreSameLines (line ∷ lines) (other ∷ others) = SayTheSame line other × AreSameLines lines others

-- the line is read, and says nothing
abbrev pub IsSilent : List ℕ → Type 0
IsSilent line = (block : Block) × LineText line block × (block.percent ≡ false) × (says_something block ≡ false)

-- Lines in a state of the machine.

-- a line in one state does the same as another line in another: it has the same fault or none, the same acts, and the same
-- state after it
pub record DoTheSame (s : State) (some : Block) (t : State) (other : Block) : Type 0 where
  pub fault : fault_of s some ≡ fault_of t other
  pub acts : acts_of s some ≡ acts_of t other
  pub after : state_after s some ≡ state_after t other

-- in this state the first line has no fault and does no act, and the second line does after it what the whole one does
pub record DoTheWhole (s : State) (whole first second : Block) : Type 0 where
  pub accepted : fault_of s first ≡ None
  pub idle : acts_of s first ≡ no_acts
  pub same : DoTheSame (state_after s first) second s whole
