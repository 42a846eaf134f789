-- PRIVATE: what is kept while the steps of a job are planned one after the other.
use Rattle.std.specs.Prelude.{◌≡◌, ℕ, List}
use Rattle.sn_geom.specs.declared.tip.Tip.{Tip}
use Rattle.sn_outline.specs.Job.{Job}
use Rattle.sn_outline.specs.declared.job.StepJob.{StepJob}
use Rattle.sn_outline.specs.declared.job.Way.TheVariants as way
use Rattle.sn_raster.specs.Grid.{Grid}
use Rattle.sn_raster.specs.Heights.{Pass, StandsFor}
use Rattle.sn_open.specs.Planes.{AreAllowed, AreCentres, IsOpeningPlane}
use Rattle.sn_link.specs.declared.planes.Planes.{Planes}
use Rattle.sn_link.specs.declared.planner.Progress.{Progress}
use Rattle.sn_link.specs.declared.step_plan.Planned.{Planned}
use Rattle.sn_link.specs.Counts.{AreCounts}
use Rattle.sn_link.specs.Layers.{AreTargets}
use Rattle.sn_link.specs.Moves.{tip_for}
use Rattle.sn_link.specs.Plan.{IsStepPlan}
use Rattle.sn_link.specs.Safe.{IsAtSecurity}

-- the planes are over a grid
pub record ArePlanesOver (g : Grid) (planes : Planes) : Type 0 where
  pub allowed : planes.allowed.plane.grid ≡ g
  pub opening : planes.opening.grid ≡ g
  pub centres : planes.centres.grid ≡ g
  pub required : planes.required.grid ≡ g
  pub targets : planes.targets.grid ≡ g

-- the planes are those of a step
pub record ArePlanesOf (planes : Planes) (job : Job) (step : StepJob) : Type 0 where
  pub allowed : AreAllowed planes.allowed job step
  pub opening : IsOpeningPlane planes.opening job step
  pub centres : step.way ≡ way.Clear → AreCentres planes.centres job step
  pub targets : step.way ≡ way.Clear → AreTargets planes.targets job step

-- what is kept after some passes: the material that they left, planes over its grid, and a tip from which each step can
-- begin at the security height
pub record IsAfter (g : Grid) (job : Job) (passes : List Pass) (progress : Progress) : Type 0 where
  pub heights : progress.heights.grid ≡ g
  pub planes : ArePlanesOver g progress.planes
  pub material : StandsFor progress.heights job passes
  pub above : (step : StepJob) → IsAtSecurity job (tip_for job progress.tool progress.tip step)

-- what is planned of a step from a tip, with the number of strokes in a layer
pub record IsPlannedFrom (job : Job) (step : StepJob) (passes : List Pass) (tip : Tip) (planned : Planned) (strokes : ℕ) : Type 0 where
  pub plan : IsStepPlan job step passes tip planned.moves
  pub counts : AreCounts job step passes planned.moves strokes planned.layers planned.lifts
