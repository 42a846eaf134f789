-- MEANING: laws of the strokes of steps that follow a trail or that drill.
use Rattle.std.specs.Prelude.{◌≡◌, ◌∷◌, ◌++◌, ℕ, List, [], map}
use Rattle.sn_geom.specs.declared.units.Pt.{Pt}
use Rattle.sn_outline.specs.Job.{Job}
use Rattle.sn_outline.specs.declared.job.StepJob.{StepJob}
use Rattle.sn_outline.specs.declared.outline.Shape.TheVariants.{Circle}
use Rattle.sn_open.specs.declared.stroke.Stroke.{Stroke}
use Rattle.sn_fit.specs.Fit.{strokes_along, OpensSome, AreDrillStrokes}

-- the strokes begin at all points but the last, and end at all but the first
abbrev pub StrokesGoFromPointToPoint : Type 0
StrokesGoFromPointToPoint =
    ((points : List Pt) (last : Pt) → map (λ stroke. stroke.from) (strokes_along (points ++ last ∷ [])) ≡ points)
    × ((first : Pt) (points : List Pt) → map (λ stroke. stroke.to) (strokes_along (first ∷ points)) ≡ points)

-- a step that drills has one stroke, from its centre to its centre, where it opens a node, and no other
abbrev pub DrillsHaveOneStroke : Type 0
DrillsHaveOneStroke =
    (job : Job) (step : StepJob) (centre : Pt) (d : ℕ) (strokes : List Stroke) → step.outline.shape ≡ Circle centre d → AreDrillStrokes job step strokes
    → (OpensSome job step → strokes ≡ record { from = centre; to = centre } ∷ []) × ((¬ OpensSome job step) → strokes ≡ [])
