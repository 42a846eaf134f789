-- MEANING: the text of a program, after RS274/NGC version 3 (NISTIR 6556), in this project's layout.
use Rattle.std.specs.Prelude.{ℕ, ℤ, List, [], ◌∷◌, ◌++◌, Option, None, codes, if◌then◌else◌}
use Rattle.sn_geom.specs.declared.tip.MotionMode.TheVariants as mode
use Rattle.sn_geom.specs.declared.tip.Tip.{Tip}
use Rattle.sn_geom.specs.declared.tip.Tip.TheVariants.{Unknown}
use Rattle.sn_geom.specs.Tip.{tip_after}
use Rattle.sn_gwrite.specs.Length.{length_text}
use Rattle.sn_gwrite.specs.Program.{head_text, mark_text, change_text, rates_text, motion_text, mode_text, end_text}
use Rattle.sn_outline.specs.Job.{Job}
use Rattle.sn_outline.specs.declared.job.StepJob.{StepJob}
use Rattle.sn_link.specs.declared.moves.Move.{Move}
use Rattle.sn_link.specs.declared.moves.Move.TheVariants.{Rapid, Feed}
use Rattle.sn_link.specs.Moves.{end_of, is_in_spindle, tip_for, tool_after, tip_after_step}

-- a move from a tip
abbrev pub move_text : Tip → Move → List ℕ
move_text tip (Rapid p) = motion_text mode.Rapid tip p
move_text tip (Feed p) = motion_text mode.Feed tip p

abbrev pub moves_text : Tip → List Move → List ℕ
moves_text tip [] = []
moves_text tip (move ∷ moves) = move_text tip move ++ moves_text (tip_after tip (end_of move)) moves

-- in rapid to a height after a tool change; the motion has a height alone
abbrev pub rise_text : ℤ → List ℕ
rise_text z = mode_text mode.Rapid ++ (codes " Z" ++ length_text z) ++ codes "\n"

-- what comes before the moves of a step: the tool is changed where it is another one
abbrev pub setting_text : Job → Option ℕ → StepJob → List ℕ
setting_text job tool step =
    if is_in_spindle tool step.tool
    then rates_text step.speed step.feed
    else change_text step.tool ++ (rates_text step.speed step.feed ++ rise_text job.sec)

-- a step with its moves: a mark, and nothing more where there are no moves
abbrev pub step_text : Job → Option ℕ → Tip → StepJob → List Move → List ℕ
step_text job tool tip step [] = mark_text step.ws
step_text job tool tip step (move ∷ moves) =
    mark_text step.ws ++ (setting_text job tool step ++ moves_text (tip_for job tool tip step) (move ∷ moves))

-- the steps, from a tool in the spindle and a tip
abbrev pub steps_text : Job → Option ℕ → Tip → List (StepJob × List Move) → List ℕ
steps_text job tool tip [] = []
steps_text job tool tip ((step, moves) ∷ later) =
    step_text job tool tip step moves
    ++ steps_text job (tool_after tool step moves) (tip_after_step job tool tip step moves) later

-- the program of a job with a plan: at the start no tool is in the spindle
abbrev pub program_text : Job → List (StepJob × List Move) → List ℕ
program_text job plan = head_text job.tools ++ (steps_text job None Unknown plan ++ end_text)
