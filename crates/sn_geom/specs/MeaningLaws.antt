-- Laws of what texts of lines mean (this project's own).
use Rattle.std.specs.Prelude.{◌≡◌, ◌≢◌, ◌↔◌, ℕ, List, [], ◌∷◌, ◌++◌, Contains, Some, true, codes}
use Rattle.sn_geom.specs.declared.machine.Acts.{Acts}
use Rattle.sn_geom.specs.declared.machine.Motion.{Motion}
use Rattle.sn_geom.specs.declared.machine.MachFault.{MachFault}
use Rattle.sn_geom.specs.Acts.{Act, Mark, PutTool, End, act_list, motion_act, RunsTo}
use Rattle.sn_geom.specs.Block.{Block, lines_of}
use Rattle.sn_geom.specs.LineText.{LineText}
use Rattle.sn_geom.specs.Machine.{State, start, no_acts, fault_of, state_after_all, Runs}
use Rattle.sn_geom.specs.Meaning.{AreBlocks, MeansFrom, Means, IsWholeLines}

-- Acts.

-- a line's mark comes first, then the tool that it puts in, its motion, and the end; a line without any gives no acts
abbrev pub ActsHaveAnOrder : Type 0
ActsHaveAnOrder =
    (act_list no_acts ≡ [])
    × ((n k : ℕ) (m : Motion)
    → act_list (record { mark = Some n; tool = Some k; motion = Some m; end = true }) ≡ Mark n ∷ PutTool k ∷ motion_act m ∷ End ∷ [])

-- the acts of lines, one after the other
abbrev pub joined_acts : List Acts → List Act
joined_acts [] = []
joined_acts (acts ∷ later) = act_list acts ++ joined_acts later

-- the acts of lines in one list are those of each line, joined
abbrev pub ActsAreJoined : Type 0
ActsAreJoined =
    (state : State) (blocks : List Block) (acts : List Act)
    → RunsTo state blocks acts ↔ ((lines : List Acts) × Runs state blocks lines × (acts ≡ joined_acts lines))

-- Meanings.

-- from a state on a text means one list of acts, and leads to one state
abbrev pub TextsHaveOneMeaning : Type 0
TextsHaveOneMeaning =
    (state : State) (text : List ℕ) (some others : List Act) (after last : State)
    → MeansFrom state text some after → MeansFrom state text others last → (some ≡ others) × (after ≡ last)

-- a program means what its text means from the start, whatever the state that it leads to
abbrev pub ProgramsMeanFromTheStart : Type 0
ProgramsMeanFromTheStart = (program : List ℕ) (acts : List Act) → Means program acts ↔ ((after : State) × MeansFrom start program acts after)

-- a program means one list of acts
abbrev pub ProgramsHaveOneMeaning : Type 0
ProgramsHaveOneMeaning = (program : List ℕ) (some others : List Act) → Means program some → Means program others → some ≡ others

-- a line feed ends a line, and bytes behind the last one are a line
abbrev pub LinesAreSplit : Type 0
LinesAreSplit =
    (lines_of [] ≡ []) × (lines_of (codes "M2\n") ≡ codes "M2" ∷ []) × (lines_of (codes "%\n\nM2") ≡ codes "%" ∷ [] ∷ codes "M2" ∷ [])

-- an empty text is whole lines, one that ends with a line feed is, and one that ends with another byte is not
abbrev pub WholeLinesEnd : Type 0
WholeLinesEnd = (front : List ℕ) → IsWholeLines [] × IsWholeLines (front ++ 10 ∷ []) × ((b : ℕ) → b ≢ 10 → ¬ IsWholeLines (front ++ b ∷ []))

-- a text without bytes means no acts, and leaves the state
abbrev pub NothingMeansNothing : Type 0
NothingMeansNothing = (state : State) → MeansFrom state [] [] state

-- the meaning of one text, and from the state that it leads to that of another
pub record MeansInTurn (state : State) (front back : List ℕ) (acts : List Act) (after : State) : Type 0 where
  pub some : List Act
  pub middle : State
  pub others : List Act
  pub first : MeansFrom state front some middle
  pub second : MeansFrom middle back others after
  pub all : acts ≡ some ++ others

-- the meaning of a text of whole lines, followed by another text, is the meaning of the one and then of the other
abbrev pub MeaningsAreInPieces : Type 0
MeaningsAreInPieces =
    (state : State) (front back : List ℕ) (acts : List Act) (after : State)
    → IsWholeLines front → MeansFrom state (front ++ back) acts after ↔ MeansInTurn state front back acts after

-- a text with a line that is read as no block, or with one that the machine does not accept, has no meaning
abbrev pub FaultyTextsMeanNothing : Type 0
FaultyTextsMeanNothing =
    (state after : State) (text : List ℕ) (acts : List Act)
    → ((line : List ℕ) → ((block : Block) → ¬ LineText line block) → Contains (lines_of text) line → ¬ MeansFrom state text acts after)
    × ((before behind : List Block) (block : Block) (fault : MachFault) → AreBlocks (lines_of text) (before ++ block ∷ behind)
    → fault_of (state_after_all state before) block ≡ Some fault → ¬ MeansFrom state text acts after)

-- once the program ended a text does no act
abbrev pub EndedTextsDoNothing : Type 0
EndedTextsDoNothing = (state after : State) (text : List ℕ) (acts : List Act) → state.ended ≡ true → MeansFrom state text acts after → acts ≡ []
