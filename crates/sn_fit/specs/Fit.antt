-- MEANING: the strokes of steps that follow a trail or that drill (this project's own).
use Rattle.std.specs.Prelude.{◌≡◌, ◌⊎◌, List, [], ◌∷◌}
use Rattle.sn_geom.specs.declared.units.Pt.{Pt}
use Rattle.sn_outline.specs.Job.{Job}
use Rattle.sn_outline.specs.declared.job.StepJob.{StepJob}
use Rattle.sn_outline.specs.declared.outline.Shape.{Shape}
use Rattle.sn_outline.specs.declared.outline.Shape.TheVariants.{Rect, Circle, Polygon, Trail}
use Rattle.sn_raster.specs.Grid.{Node}
use Rattle.sn_open.specs.Region.{IsOpening}
use Rattle.sn_open.specs.declared.stroke.Stroke.{Stroke}

-- from each of the points to the next
abbrev pub strokes_along : List Pt → List Stroke
strokes_along [] = []
strokes_along (a ∷ []) = []
strokes_along (a ∷ b ∷ points) = record { from = a; to = b } ∷ strokes_along (b ∷ points)

-- the strokes of a step that follows the trail of its outline: the segments of the trail in order; only a trail has some
abbrev pub strokes_of_trail : Shape → List Stroke
strokes_of_trail (Rect low high) = []
strokes_of_trail (Circle centre d) = []
strokes_of_trail (Polygon points) = []
strokes_of_trail (Trail points width) = strokes_along points

-- a stroke of no length at the centre of a circle; only a circle has one
abbrev pub strokes_at_centre : Shape → List Stroke
strokes_at_centre (Rect low high) = []
strokes_at_centre (Circle centre d) = record { from = centre; to = centre } ∷ []
strokes_at_centre (Polygon points) = []
strokes_at_centre (Trail points width) = []

-- the step opens a node
abbrev pub OpensSome : Job → StepJob → Type 0
OpensSome job step = (n : Node) × IsOpening job step n

-- the strokes of a step that drills: one at its centre where it opens a node, and none where it opens none
abbrev pub AreDrillStrokes : Job → StepJob → List Stroke → Type 0
AreDrillStrokes job step strokes = (OpensSome job step × (strokes ≡ strokes_at_centre step.outline.shape)) ⊎ ((¬ OpensSome job step) × (strokes ≡ []))
