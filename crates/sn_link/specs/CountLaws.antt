-- MEANING: laws of what is counted.
use Rattle.std.specs.Prelude.{◌≢◌, ℕ, ℤ, List, []}
use Rattle.sn_geom.specs.declared.tip.Tip.{Tip}
use Rattle.sn_outline.specs.Job.{Job}
use Rattle.sn_outline.specs.declared.job.StepJob.{StepJob}
use Rattle.sn_raster.specs.Heights.{Pass}
use Rattle.sn_open.specs.declared.stroke.Stroke.{Stroke}
use Rattle.sn_link.specs.declared.moves.Move.{Move}
use Rattle.sn_link.specs.Counts.{IsLiftCount}
use Rattle.sn_link.specs.Layers.{AreStrokes, AreStepLayers}
use Rattle.sn_link.specs.Plan.{IsHighest, IsStepPlan}

-- where a step has moves there are a height, strokes, layers and a count of lifts that its counts are taken from
abbrev pub EachStepWithMovesIsCounted : Type 0
EachStepWithMovesIsCounted =
    (job : Job) (step : StepJob) (passes : List Pass) (tip : Tip) (moves : List Move) → IsStepPlan job step passes tip moves → moves ≢ []
    → (above : ℤ) × (own : List Stroke) × (tips : List ℤ) × (n : ℕ)
    × IsHighest job step passes above × AreStrokes job step own × AreStepLayers step above tips × IsLiftCount job step own n
