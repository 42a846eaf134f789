-- MEANING: what the moves of each planned step keep (this project's own).
use Rattle.std.specs.Prelude.{List, ◌++◌, Contains}
use Rattle.sn_geom.specs.declared.units.Cell.{Cell}
use Rattle.sn_geom.specs.declared.tip.Tip.{Tip}
use Rattle.sn_outline.specs.Job.{Job}
use Rattle.sn_outline.specs.JobRule.{IsJob}
use Rattle.sn_outline.specs.declared.job.StepJob.{StepJob}
use Rattle.sn_raster.specs.Heights.{node_of, Pass, IsMaterial}
use Rattle.sn_open.specs.Reach.{IsOpenCell}
use Rattle.sn_open.specs.Region.{IsRequiredNode}
use Rattle.sn_link.specs.declared.moves.Move.{Move}
use Rattle.sn_link.specs.Moves.{AreStraight, tip_after_moves}
use Rattle.sn_link.specs.Plan.{IsStepPlan, passes_by}
use Rattle.sn_link.specs.Safe.{AreSafe, IsAtSecurity}

-- a step of a job is planned after some passes, from a tip at the security height
pub record IsPlanned (job : Job) (step : StepJob) (passes : List Pass) (tip : Tip) (moves : List Move) : Type 0 where
  pub rule : IsJob job
  pub executed : Contains job.steps step
  pub above : IsAtSecurity job tip
  pub planned : IsStepPlan job step passes tip moves

-- the moves are safe: no feed touches a cell over a node that is not allowed, whether material is left there or not, nor
-- material that is not allowed or, sideways, too deep; and no rapid touches material
abbrev pub PlannedMovesAreSafe : Type 0
PlannedMovesAreSafe =
    (job : Job) (step : StepJob) (passes : List Pass) (tip : Tip) (moves : List Move) → IsPlanned job step passes tip moves
    → AreSafe job step passes tip moves

-- they end at the security height
abbrev pub PlannedMovesEndAbove : Type 0
PlannedMovesEndAbove =
    (job : Job) (step : StepJob) (passes : List Pass) (tip : Tip) (moves : List Move) → IsPlanned job step passes tip moves
    → IsAtSecurity job (tip_after_moves tip moves)

-- after them nothing is left of the cells that the step opens over nodes that are required for its feature
abbrev pub PlannedMovesCutTheTargets : Type 0
PlannedMovesCutTheTargets =
    (job : Job) (step : StepJob) (passes : List Pass) (tip : Tip) (moves : List Move) → IsPlanned job step passes tip moves
    → (c : Cell) → IsOpenCell job step c → IsRequiredNode job step.feature (node_of c) → ¬ IsMaterial job (passes ++ passes_by step.body tip moves) c

-- each of them is straight, and ends elsewhere than it starts
abbrev pub PlannedMovesAreStraight : Type 0
PlannedMovesAreStraight =
    (job : Job) (step : StepJob) (passes : List Pass) (tip : Tip) (moves : List Move) → IsPlanned job step passes tip moves
    → AreStraight tip moves
