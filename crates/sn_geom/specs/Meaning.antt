-- MEANING: what a text of lines means: each line is read as its block, and the machine runs the blocks (after RS274/NGC version
-- 3, NISTIR 6556, in this project's profile).
use Rattle.std.specs.Prelude.{◌≡◌, ◌⊎◌, ℕ, List, [], ◌∷◌, ◌++◌}
use Rattle.sn_geom.specs.Acts.{Act, RunsTo}
use Rattle.sn_geom.specs.Block.{Block, lines_of}
use Rattle.sn_geom.specs.LineText.{LineText}
use Rattle.sn_geom.specs.Machine.{State, start, state_after_all}

-- each line is read as its block
abbrev pub AreBlocks : List (List ℕ) → List Block → Type 0
AreBlocks [] [] = Unit {0}
AreBlocks [] (block ∷ blocks) = ⊥
AreBlocks (line ∷ lines) [] = ⊥
AreBlocks (line ∷ lines) (block ∷ blocks) = LineText line block × AreBlocks lines blocks

-- From a state on, the machine runs the text without a fault; these are the acts, and this is the state after it.
pub record MeansFrom (state : State) (text : List ℕ) (acts : List Act) (after : State) : Type 0 where
  pub blocks : List Block
  pub says : AreBlocks (lines_of text) blocks
  pub runs : RunsTo state blocks acts
  pub ends : after ≡ state_after_all state blocks

-- The machine runs the program without a fault, and these are the acts.
pub record Means (program : List ℕ) (acts : List Act) : Type 0 where
  pub blocks : List Block
  pub says : AreBlocks (lines_of program) blocks
  pub runs : RunsTo start blocks acts

-- the text is whole lines: it is empty, or ends with a line feed
abbrev pub IsWholeLines : List ℕ → Type 0
IsWholeLines text = (text ≡ []) ⊎ ((front : List ℕ) × (text ≡ front ++ 10 ∷ []))
