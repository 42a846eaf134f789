-- MEANING: the acts of the moves of a plan, and the plans whose program can be written (this project's own).
use Rattle.std.specs.Prelude.{ℕ, ◌+◌, ◌≤◌, ◌<◌, ◌^◌, List, [], ◌∷◌, ◌++◌, Option, None, if◌then◌else◌}
use Rattle.sn_geom.specs.Length.{IsLength}
use Rattle.sn_geom.specs.Tip.{tip_after}
use Rattle.sn_geom.specs.declared.tip.Tip.{Tip}
use Rattle.sn_geom.specs.declared.tip.Tip.TheVariants.{Unknown, Height, At}
use Rattle.sn_gwrite.specs.Kept.{IsRate, IsToolNumber}
use Rattle.sn_outline.specs.Job.{Job}
use Rattle.sn_outline.specs.declared.job.StepJob.{StepJob}
use Rattle.sn_geom.specs.Acts.{Act}
use Rattle.sn_geom.specs.Acts.Act.{Mark, PutTool, Enter, Locate, Rapid as AtRapid, Feed as AtFeed, End}
use Rattle.sn_link.specs.declared.moves.Move.{Move}
use Rattle.sn_link.specs.declared.moves.Move.TheVariants.{Rapid, Feed}
use Rattle.sn_link.specs.Moves.{end_of, is_in_spindle, tip_for, tool_after, tip_after_step, AreStraight}
use Rattle.sn_link.specs.Safe.{AreWithin}

-- The acts of a plan.

-- a move from a tip, at a speed, a feed and with a tool
abbrev pub move_act : ℕ → ℕ → ℕ → Tip → Move → Act
move_act speed feed tool Unknown move = Enter (end_of move).z
move_act speed feed tool (Height z) move = Locate (end_of move)
move_act speed feed tool (At p) (Rapid q) = AtRapid p q tool
move_act speed feed tool (At p) (Feed q) = AtFeed p q feed speed tool

abbrev pub move_acts : ℕ → ℕ → ℕ → Tip → List Move → List Act
move_acts speed feed tool tip [] = []
move_acts speed feed tool tip (move ∷ moves) = move_act speed feed tool tip move ∷ move_acts speed feed tool (tip_after tip (end_of move)) moves

-- what comes before the moves of a step: the tool is changed where it is another one, and brought to the security height
abbrev pub setting_acts : Job → Option ℕ → StepJob → List Act
setting_acts job tool step = if is_in_spindle tool step.tool then [] else PutTool step.tool ∷ Enter job.sec ∷ []

-- a step with its moves
abbrev pub step_acts : Job → Option ℕ → Tip → StepJob → List Move → List Act
step_acts job tool tip step [] = Mark step.ws ∷ []
step_acts job tool tip step (move ∷ moves) =
    Mark step.ws ∷ (setting_acts job tool step ++ move_acts step.speed step.feed step.tool (tip_for job tool tip step) (move ∷ moves))

abbrev pub steps_acts : Job → Option ℕ → Tip → List (StepJob × List Move) → List Act
steps_acts job tool tip [] = []
steps_acts job tool tip ((step, moves) ∷ later) =
    step_acts job tool tip step moves ++ steps_acts job (tool_after tool step moves) (tip_after_step job tool tip step moves) later

-- the program of a job with a plan
abbrev pub program_acts : Job → List (StepJob × List Move) → List Act
program_acts job plan = steps_acts job None Unknown plan ++ End ∷ []

-- Plans whose program can be written.

-- the numbers of a step are within the limits of their words
pub record IsNumbered (step : StepJob) : Type 0 where
  pub mark : (1 ≤ step.ws) × (step.ws < 2 ^ 32)
  pub tool : IsToolNumber step.tool
  pub speed : IsRate step.speed
  pub feed : IsRate step.feed

-- a step with its moves, which are straight from the tip and in the range
pub record IsWritable (job : Job) (tool : Option ℕ) (tip : Tip) (step : StepJob) (moves : List Move) : Type 0 where
  pub numbered : IsNumbered step
  pub straight : AreStraight (tip_for job tool tip step) moves
  pub within : AreWithin moves

abbrev pub AreWritable : Job → Option ℕ → Tip → List (StepJob × List Move) → Type 0
AreWritable job tool tip [] = Unit {0}
AreWritable job tool tip ((step, moves) ∷ later) =
    IsWritable job tool tip step moves × AreWritable job (tool_after tool step moves) (tip_after_step job tool tip step moves) later

-- the tools' numbers, counted from this number on, and those of their instances
abbrev pub AreNoted : ℕ → List ℕ → Type 0
AreNoted number [] = Unit {0}
AreNoted number (instance ∷ instances) = ((number < 2 ^ 32) × (instance < 2 ^ 32)) × AreNoted (number + 1) instances

-- the plan's program can be written
pub record IsWritableProgram (job : Job) (plan : List (StepJob × List Move)) : Type 0 where
  pub tools : AreNoted 1 job.tools
  pub sec : IsLength job.sec
  pub steps : AreWritable job None Unknown plan
