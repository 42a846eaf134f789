-- MEANING: the strokes of a step, its layers, and the moves of a layer and between its strokes (this project's own).
use Rattle.std.specs.Prelude.{◌≡◌, ◌↔◌, ◌⊎◌, ℕ, ℤ, pos, ◌+ℤ◌, ◌-ℤ◌, ◌≤ℤ◌, ◌<ℤ◌, List, [], ◌∷◌, ◌++◌}
use Rattle.sn_geom.specs.declared.units.Pt.{Pt}
use Rattle.sn_geom.specs.Sweep.{Near}
use Rattle.sn_outline.specs.Job.{Job, tip_floor}
use Rattle.sn_outline.specs.declared.job.StepJob.{StepJob}
use Rattle.sn_outline.specs.declared.job.Way.TheVariants as way
use Rattle.sn_raster.specs.Grid.{Node, place, IsGridOf}
use Rattle.sn_raster.specs.Plane.{Plane, Has}
use Rattle.sn_open.specs.Planes.{AreCentres}
use Rattle.sn_open.specs.Region.{InAllowed, IsOpening, IsRequiredNode}
use Rattle.sn_open.specs.declared.stroke.Stroke.{Stroke}
use Rattle.sn_clear.specs.Strokes.{clearing_strokes}
use Rattle.sn_fit.specs.Fit.{strokes_of_trail, AreDrillStrokes}
use Rattle.sn_link.specs.declared.moves.Move.{Move}
use Rattle.sn_link.specs.declared.moves.Move.TheVariants.{Feed}
use Rattle.sn_link.specs.Moves.{over, approach, lift}

-- Strokes.

-- the nodes that are required for the feature of the step, and that the step opens
pub record AreTargets (plane : Plane) (job : Job) (step : StepJob) : Type 0 where
  pub grid : IsGridOf plane.grid job
  pub nodes : (n : Node) → Has plane n ↔ (IsRequiredNode job step.feature n × IsOpening job step n)

-- the strokes are those of the step over its free centres, for its targets
pub record IsClearing (job : Job) (step : StepJob) (strokes : List Stroke) : Type 0 where
  pub centres : Plane
  pub targets : Plane
  pub are_centres : AreCentres centres job step
  pub are_targets : AreTargets targets job step
  pub strokes_are : strokes ≡ clearing_strokes step centres.grid centres targets

-- the strokes of a step by its way
abbrev pub AreStrokes : Job → StepJob → List Stroke → Type 0
AreStrokes job step strokes = elim step.way [
  | way.Clear ↦ IsClearing job step strokes
  | way.Trail ↦ strokes ≡ strokes_of_trail step.outline.shape
  | way.Drill ↦ AreDrillStrokes job step strokes
]

-- Layers.

-- the tips of the layers: an axial depth under the height above, and each an axial depth under the one before, while they
-- are over the floor, and then at the floor
abbrev pub AreLayers : ℕ → ℤ → ℤ → List ℤ → Type 0
AreLayers axial floor above [] = ⊥
AreLayers axial floor above (tip ∷ []) = (tip ≡ floor) × ((above -ℤ pos axial) ≤ℤ floor)
AreLayers axial floor above (tip ∷ next ∷ tips) = (tip ≡ above -ℤ pos axial) × (floor <ℤ tip) × AreLayers axial floor tip (next ∷ tips)

-- the tips of the layers of a step from a height down: a drill goes down to the floor at once
abbrev pub AreStepLayers : StepJob → ℤ → List ℤ → Type 0
AreStepLayers step above tips = elim step.way [
  | way.Clear ↦ AreLayers step.axial (tip_floor step) above tips
  | way.Trail ↦ AreLayers step.axial (tip_floor step) above tips
  | way.Drill ↦ tips ≡ tip_floor step ∷ []
]

-- Links.

-- along the segment the whole tool is over nodes over which the step may cut
abbrev pub IsFreeWay : Job → StepJob → Pt → Pt → Type 0
IsFreeWay job step a b = (n : Node) → Near step.body.d a b (place job.pitch n) → InAllowed job step n

-- from the end of a stroke to the start of the next: at feed where the way is free, and else up, across and down again
abbrev pub IsLink : Job → StepJob → ℤ → ℤ → Pt → Pt → List Move → Type 0
IsLink job step above tip a b moves =
    (IsFreeWay job step a b × (moves ≡ Feed (over b tip) ∷ []))
    ⊎ ((¬ IsFreeWay job step a b) × (moves ≡ lift job.sec a tip step.body.e ++ approach job.sec b above tip))

-- Moves; above is the height over which no material is left under the strokes and the free ways.

-- from the start of a stroke at the tip of a layer along it and the strokes after it, and up
abbrev pub AreStrokeMoves : Job → StepJob → ℤ → ℤ → Stroke → List Stroke → List Move → Type 0
AreStrokeMoves job step above tip stroke [] moves = moves ≡ Feed (over stroke.to tip) ∷ lift job.sec stroke.to tip step.body.e
AreStrokeMoves job step above tip stroke (next ∷ strokes) moves =
    (link : List Move) × (rest : List Move) × IsLink job step above tip stroke.to next.from link
    × AreStrokeMoves job step above tip next strokes rest × (moves ≡ Feed (over stroke.to tip) ∷ link ++ rest)

-- the moves of a layer
abbrev pub IsLayer : Job → StepJob → ℤ → ℤ → List Stroke → List Move → Type 0
IsLayer job step above tip [] moves = moves ≡ []
IsLayer job step above tip (first ∷ strokes) moves =
    (rest : List Move) × AreStrokeMoves job step above tip first strokes rest × (moves ≡ approach job.sec first.from above tip ++ rest)

-- the moves of layers at these tips: after each nothing is left there over where the tool cut with its whole diameter
abbrev pub AreLayerMoves : Job → StepJob → List Stroke → ℤ → List ℤ → List Move → Type 0
AreLayerMoves job step strokes above [] moves = moves ≡ []
AreLayerMoves job step strokes above (tip ∷ tips) moves =
    (layer : List Move) × (rest : List Move) × IsLayer job step above tip strokes layer
    × AreLayerMoves job step strokes (tip +ℤ pos step.body.e) tips rest × (moves ≡ layer ++ rest)
