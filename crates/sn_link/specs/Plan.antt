-- MEANING: the moves that a job is cut with (this project's own).
use Rattle.std.specs.Prelude.{◌≡◌, ◌≢◌, ℕ, ◌⊎◌, ℤ, pos, ◌+ℤ◌, ◌≤ℤ◌, ◌<ℤ◌, List, [], ◌∷◌, ◌++◌, map, Option, Some, None}
use Rattle.sn_geom.specs.declared.tip.Tip.{Tip}
use Rattle.sn_geom.specs.declared.tip.Tip.TheVariants.{Unknown, Height, At}
use Rattle.sn_geom.specs.Tip.{tip_after}
use Rattle.sn_geom.specs.declared.units.Body.{Body}
use Rattle.sn_geom.specs.declared.units.Cell.{Cell}
use Rattle.sn_outline.specs.Job.{Job, tip_floor}
use Rattle.sn_outline.specs.declared.job.StepJob.{StepJob}
use Rattle.sn_raster.specs.Heights.{node_of, Pass, IsMaterial}
use Rattle.sn_link.specs.declared.moves.Move.{Move}
use Rattle.sn_link.specs.declared.moves.Move.TheVariants.{Rapid, Feed}
use Rattle.sn_link.specs.Moves.{made, tip_for, tip_after_moves}
use Rattle.sn_link.specs.Layers.{AreStrokes, AreStepLayers, AreLayerMoves}
use Rattle.sn_open.specs.declared.stroke.Stroke.{Stroke}
use Rattle.sn_open.specs.Region.{InAllowed}

-- The height over the allowed raw nodes over which no material is left: the raw bottom where none is.
pub record IsHighest (job : Job) (step : StepJob) (passes : List Pass) (above : ℤ) : Type 0 where
  pub bounds : (c : Cell) → IsMaterial job passes c → InAllowed job step (node_of c) → c.z <ℤ above
  pub reached : (above ≡ job.low.z) ⊎ ((c : Cell) × IsMaterial job passes c × InAllowed job step (node_of c) × (above ≡ c.z +ℤ pos 1))

-- the step has nothing to do: no material is left over its allowed nodes above its tip floor, or there is no stroke
abbrev pub NeedsNoLayer : StepJob → List Stroke → ℤ → Type 0
NeedsNoLayer step strokes above = (above ≤ℤ tip_floor step) ⊎ (strokes ≡ [])

-- The moves of a step that has something to do: those of its layers that are made from a tip.
pub record IsCutInLayers (job : Job) (step : StepJob) (strokes : List Stroke) (above : ℤ) (tip : Tip) (moves : List Move) : Type 0 where
  pub high : tip_floor step <ℤ above
  pub some : strokes ≢ []
  pub tips : List ℤ
  pub layers : AreStepLayers step above tips
  pub all : List Move
  pub all_are : AreLayerMoves job step strokes above tips all
  pub moves_are : moves ≡ made tip all

-- The moves of a step from a tip, over the material that the passes leave.
pub record IsStepPlan (job : Job) (step : StepJob) (passes : List Pass) (tip : Tip) (moves : List Move) : Type 0 where
  pub above : ℤ
  pub highest : IsHighest job step passes above
  pub strokes : List Stroke
  pub strokes_are : AreStrokes job step strokes
  pub moves_are : (NeedsNoLayer step strokes above × (moves ≡ [])) ⊎ IsCutInLayers job step strokes above tip moves

-- the passes of moves from a tip, each from where the move before it ends
abbrev pub passes_by : Body → Tip → List Move → List Pass
passes_by body tip [] = []
passes_by body tip (Rapid p ∷ moves) = passes_by body (tip_after tip p) moves
passes_by body Unknown (Feed p ∷ moves) = passes_by body (Height p.z) moves
passes_by body (Height z) (Feed p ∷ moves) = passes_by body (At p) moves
passes_by body (At from) (Feed p ∷ moves) = record { body = body; from = from; to = p } ∷ passes_by body (At p) moves

-- The moves of the steps, one list for each, from a tool in the spindle and a tip: what earlier steps cut is gone for
-- the later ones, and a step without moves leaves the tool where it is.
abbrev pub ArePlans : Job → List Pass → Option ℕ → Tip → List (StepJob × List Move) → Type 0
ArePlans job passes tool tip [] = Unit {0}
ArePlans job passes tool tip ((step, []) ∷ later) = IsStepPlan job step passes (tip_for job tool tip step) [] × ArePlans job passes tool tip later
ArePlans job passes tool tip ((step, move ∷ moves) ∷ later) =
    IsStepPlan job step passes (tip_for job tool tip step) (move ∷ moves)
    × ArePlans job (passes ++ passes_by step.body (tip_for job tool tip step) (move ∷ moves)) (Some step.tool) (tip_after_moves (tip_for job tool tip step) (move ∷ moves)) later

-- the steps, each with its moves
abbrev pub with_moves : List StepJob → List (List Move) → List (StepJob × List Move)
with_moves [] plans = []
with_moves (step ∷ steps) [] = (step, []) ∷ with_moves steps []
with_moves (step ∷ steps) (moves ∷ plans) = (step, moves) ∷ with_moves steps plans

-- The plan of a job: each of its steps in order, with its moves. At the start no tool is in the spindle.
pub record IsPlan (job : Job) (plan : List (StepJob × List Move)) : Type 0 where
  pub steps : map (λ planned. planned.0) plan ≡ job.steps
  pub moves : ArePlans job [] None Unknown plan
