-- MEANING: what is counted of a step and its moves (this project's own).
use Rattle.std.specs.Prelude.{◌≡◌, ◌≢◌, ◌⊎◌, ℕ, ◌+◌, ◌*◌, ℤ, List, [], ◌∷◌, ◌++◌, length, map, Option}
use Rattle.sn_geom.specs.declared.tip.Tip.{Tip}
use Rattle.sn_outline.specs.Job.{Job}
use Rattle.sn_outline.specs.declared.job.StepJob.{StepJob}
use Rattle.sn_raster.specs.Heights.{Pass, IsMaterial, IsCount}
use Rattle.sn_open.specs.declared.stroke.Stroke.{Stroke}
use Rattle.sn_link.specs.declared.moves.Move.{Move}
use Rattle.sn_link.specs.declared.planner.PlannedStep.{PlannedStep}
use Rattle.sn_link.specs.Layers.{IsFreeWay, AreStrokes, AreStepLayers}
use Rattle.sn_link.specs.Moves.{tip_for, tool_after, tip_after_step}
use Rattle.sn_link.specs.Plan.{IsHighest, passes_by}

-- how often the tool is lifted in a layer, from the start of a stroke on: where the way to the next stroke is not free, and at
-- the end
abbrev pub IsLiftCountFrom : Job → StepJob → Stroke → List Stroke → ℕ → Type 0
IsLiftCountFrom job step stroke [] n = n ≡ 1
IsLiftCountFrom job step stroke (next ∷ strokes) n =
    (IsFreeWay job step stroke.to next.from × IsLiftCountFrom job step next strokes n)
    ⊎ ((¬ IsFreeWay job step stroke.to next.from) × ((m : ℕ) × (n ≡ m + 1) × IsLiftCountFrom job step next strokes m))

abbrev pub IsLiftCount : Job → StepJob → List Stroke → ℕ → Type 0
IsLiftCount job step [] n = n ≡ 0
IsLiftCount job step (first ∷ strokes) n = IsLiftCountFrom job step first strokes n

-- The strokes in a layer, the layers and the lifts of a step: all are 0 where it has no moves.
pub record AreCounts (job : Job) (step : StepJob) (passes : List Pass) (moves : List Move) (strokes layers lifts : ℕ) : Type 0 where
  pub rests : moves ≡ [] → (strokes ≡ 0) × (layers ≡ 0) × (lifts ≡ 0)
  pub cuts : moves ≢ [] → (above : ℤ) → IsHighest job step passes above → (own : List Stroke) → AreStrokes job step own
      → (tips : List ℤ) → AreStepLayers step above tips → (n : ℕ) → IsLiftCount job step own n
      → (strokes ≡ length own) × (layers ≡ length tips) × (lifts ≡ length tips * n)

-- how many cells the moves of a step take away
pub record IsRemoved (job : Job) (step : StepJob) (passes : List Pass) (tip : Tip) (moves : List Move) (cells : ℕ) : Type 0 where
  pub before : ℕ
  pub after : ℕ
  pub all : IsCount (IsMaterial job passes) before
  pub rest : IsCount (IsMaterial job (passes ++ passes_by step.body tip moves)) after
  pub taken : cells + after ≡ before

-- how many strokes are gone along in a layer of moves: none where there are no moves
abbrev pub strokes_in : List Move → List Stroke → ℕ
strokes_in [] strokes = 0
strokes_in (move ∷ moves) strokes = length strokes

-- the moves of planned steps
abbrev pub moves_of : List PlannedStep → List (List Move)
moves_of plans = map (λ (planned : PlannedStep). planned.moves) plans

-- the counts of a planned step are those of its moves
pub record IsCountedStep (job : Job) (step : StepJob) (passes : List Pass) (tip : Tip) (planned : PlannedStep) : Type 0 where
  pub counts : AreCounts job step passes planned.moves planned.strokes planned.layers planned.lifts
  pub removed : IsRemoved job step passes tip planned.moves planned.cells

-- The counts of the steps, one planned step for each, from a tool in the spindle and a tip, as the moves of the steps follow
-- one another.
abbrev pub AreCountedPlans : Job → List Pass → Option ℕ → Tip → List StepJob → List PlannedStep → Type 0
AreCountedPlans job passes tool tip [] plans = plans ≡ []
AreCountedPlans job passes tool tip (step ∷ steps) [] = ⊥
AreCountedPlans job passes tool tip (step ∷ steps) (planned ∷ plans) =
    IsCountedStep job step passes (tip_for job tool tip step) planned
    × AreCountedPlans job (passes ++ passes_by step.body (tip_for job tool tip step) planned.moves) (tool_after tool step planned.moves)
    (tip_after_step job tool tip step planned.moves) steps plans
