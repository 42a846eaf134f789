-- The parts of a step, by its way.
use Rattle.std.proofs.Common.{◌≡◌, List, [], ◌∷◌, ℤ}
use Rattle.sn_outline.specs.Job.{Job, tip_floor}
use Rattle.sn_outline.specs.declared.job.StepJob.{StepJob}
use Rattle.sn_outline.specs.declared.job.Way.{Way}
use Rattle.sn_outline.specs.declared.job.Way.TheVariants as way
use Rattle.sn_raster.specs.Grid.{Node, Nodes, place, InDisc}
use Rattle.sn_open.specs.Region.{IsDrilledAtCentre, IsFollowed, IsFreeCentre}
use Rattle.sn_open.specs.declared.stroke.Stroke.{Stroke}
use Rattle.sn_fit.specs.Fit.{strokes_of_trail, AreDrillStrokes}
use Rattle.sn_link.specs.Layers.{IsClearing, AreLayers}

-- the nodes that a step can open
abbrev pub reached_by : Job → StepJob → Way → Nodes
reached_by job step w n = elim w [
  | way.Clear ↦ (c : Node) × IsFreeCentre job step c × InDisc job.pitch step.body.d (place job.pitch c) n
  | way.Trail ↦ IsFollowed job step step.outline.shape n
  | way.Drill ↦ IsDrilledAtCentre job step step.outline.shape n
]

-- its strokes
abbrev pub strokes_by : Job → StepJob → Way → List Stroke → Type 0
strokes_by job step w strokes = elim w [
  | way.Clear ↦ IsClearing job step strokes
  | way.Trail ↦ strokes ≡ strokes_of_trail step.outline.shape
  | way.Drill ↦ AreDrillStrokes job step strokes
]

-- the tips of its layers
abbrev pub layers_by : StepJob → Way → ℤ → List ℤ → Type 0
layers_by step w above tips = elim w [
  | way.Clear ↦ AreLayers step.axial (tip_floor step) above tips
  | way.Trail ↦ AreLayers step.axial (tip_floor step) above tips
  | way.Drill ↦ tips ≡ tip_floor step ∷ []
]
