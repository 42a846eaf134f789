-- MEANING: laws of the strokes of the clearing steps of a job (this project's own).
use Rattle.std.specs.Prelude.{◌≡◌, List, Contains}
use Rattle.sn_outline.specs.Job.{Job}
use Rattle.sn_outline.specs.JobRule.{IsJob}
use Rattle.sn_outline.specs.declared.job.StepJob.{StepJob}
use Rattle.sn_outline.specs.declared.job.Way.TheVariants as way
use Rattle.sn_raster.specs.Plane.{Plane}
use Rattle.sn_open.specs.Planes.{AreCentres}
use Rattle.sn_open.specs.declared.stroke.Stroke.{Stroke}
use Rattle.sn_clear.specs.ThriftyStrokes.{AreThriftyStrokes}
use Rattle.sn_link.specs.Layers.{AreTargets, IsClearing}

-- The strokes are thrifty over the free centres of the step, for its targets.
pub record IsThriftyClearing (job : Job) (step : StepJob) (strokes : List Stroke) : Type 0 where
  pub centres : Plane
  pub targets : Plane
  pub are_centres : AreCentres centres job step
  pub are_targets : AreTargets targets job step
  pub thrifty : AreThriftyStrokes step centres.grid centres targets strokes

-- in a job the strokes of a clearing step are thrifty
abbrev pub ClearingStepsAreThrifty : Type 0
ClearingStepsAreThrifty =
    (job : Job) (step : StepJob) (strokes : List Stroke) → IsJob job → Contains job.steps step → step.way ≡ way.Clear
    → IsClearing job step strokes → IsThriftyClearing job step strokes
