-- MEANING: laws of the text of a program.
use Rattle.std.specs.Prelude.{◌≡◌, ◌*◌, ◌/◌, ◌∷◌, ◌++◌, ℤ, pos, neg_ℤ, List, [], codes}
use Rattle.sn_geom.specs.declared.limits.TheConstants.{PER_MM}
use Rattle.sn_geom.specs.declared.units.Pt3.{Pt3}
use Rattle.sn_gwrite.specs.Program.{end_text}
use Rattle.sn_outline.specs.Job.{Job}
use Rattle.sn_outline.specs.declared.job.StepJob.{StepJob}
use Rattle.sn_link.specs.declared.moves.Move.{Move}
use Rattle.sn_link.specs.declared.moves.Move.TheVariants.{Rapid, Feed}
use Rattle.sn_link.specs.Moves.{over}
use Rattle.sn_geom.specs.Meaning.{Means}
use Rattle.sn_program.specs.PlanActs.{program_acts, IsWritableProgram}
use Rattle.sn_program.specs.Text.{program_text}
use Rattle.sn_link.specs.Examples.{plate, drill, at, mm}

abbrev pub over_origin : ℤ → Pt3
over_origin z = over (at (mm 1) (neg_ℤ (pos (PER_MM / 2)))) z

-- a millimetre and a half below zero
abbrev pub below : ℤ
below = neg_ℤ (pos (3 * PER_MM / 2))

-- four steps, of which the first and the second have one tool, the third has no moves, and the fourth has another tool
abbrev pub four_steps : List (StepJob × List Move)
four_steps =
    (drill, Rapid (over_origin (mm 20)) ∷ Feed (over_origin below) ∷ [])
    ∷ (record drill { ws = 6; feed = 100; speed = 900 }, Feed (over (at (mm 2) (mm 0)) below) ∷ [])
    ∷ (record drill { ws = 7; tool = 2 }, [])
    ∷ (record drill { ws = 9; tool = 2 }, Rapid (over_origin (mm 20)) ∷ []) ∷ []

-- the text of these steps: a tool is changed where it is another one, and a step without moves has a mark alone
abbrev pub StepsAreWritten : Type 0
StepsAreWritten =
    program_text (record (plate drill) { tools = 17 ∷ 40 ∷ [] }) four_steps
    ≡ codes "%\nG21 G90 G17 G94 G40 G61\n(T1 #17)\n(T2 #40)\n"
    ++ codes "(WS #4)\nT1 M6\nG43 H1\nS2000 M3\nF300\nG0 Z20.0000\nG0 X1.0000 Y-0.5000\nG1 Z-1.5000\n"
    ++ codes "(WS #6)\nS900 M3\nF100\nG1 X2.0000 Y0.0000\n"
    ++ codes "(WS #7)\n"
    ++ codes "(WS #9)\nT2 M6\nG43 H2\nS2000 M3\nF300\nG0 Z20.0000\nG0 X1.0000 Y-0.5000\n"
    ++ end_text

-- the machine runs the program of each plan that can be written without a fault, and gives the acts of the plan
abbrev pub ProgramsGiveTheirActs : Type 0
ProgramsGiveTheirActs =
    (job : Job) (plan : List (StepJob × List Move)) → IsWritableProgram job plan → Means (program_text job plan) (program_acts job plan)
