-- MEANING: laws of plans.
use Rattle.std.specs.Prelude.{◌≡◌, ◌≢◌, ℕ, ◌+◌, ◌*◌, ◌≤◌, ◌<◌, ◌+ℤ◌, ◌≤ℤ◌, ◌<ℤ◌, ◌∷◌, ◌++◌, ℤ, pos, List, [], length, Contains, Some, None}
use Rattle.std.specs.Int.{int_min}
use Rattle.sn_geom.specs.declared.units.Pt.{Pt}
use Rattle.sn_geom.specs.declared.units.Pt3.{Pt3}
use Rattle.sn_geom.specs.declared.units.Cell.{Cell}
use Rattle.sn_geom.specs.declared.units.Body.{Body}
use Rattle.sn_geom.specs.declared.limits.TheConstants.{GAP, PER_MM, REACH}
use Rattle.sn_outline.specs.Job.{Job, tip_floor}
use Rattle.sn_outline.specs.JobRule.{IsJob}
use Rattle.sn_outline.specs.declared.job.StepJob.{StepJob}
use Rattle.sn_outline.specs.declared.job.Way.TheVariants as way
use Rattle.sn_outline.specs.declared.outline.Shape.TheVariants.{Circle, Trail}
use Rattle.sn_raster.specs.Grid.{Node}
use Rattle.sn_raster.specs.Heights.{node_of, IsRawCell, Pass, IsCutBy, IsMaterial}
use Rattle.sn_open.specs.Region.{InAllowed, IsOpening, IsRequiredNode}
use Rattle.sn_open.specs.declared.stroke.Stroke.{Stroke}
use Rattle.sn_fit.specs.Fit.{strokes_along, OpensSome}
use Rattle.sn_geom.specs.declared.tip.Tip.{Tip}
use Rattle.sn_geom.specs.declared.tip.Tip.TheVariants.{Unknown, Height, At}
use Rattle.sn_link.specs.declared.moves.Move.{Move}
use Rattle.sn_link.specs.declared.moves.Move.TheVariants.{Rapid, Feed}
use Rattle.sn_link.specs.Layers.{AreLayers, AreStrokes, IsFreeWay, IsLink, IsLayer, AreLayerMoves}
use Rattle.sn_link.specs.Moves.{over, approach, lift, made, plunge, tip_for, tip_after_moves}
use Rattle.sn_link.specs.Plan.{IsHighest, IsCutInLayers, IsStepPlan, passes_by, ArePlans, IsPlan}
use Rattle.sn_link.specs.Examples.{plate, drill, trail, at, mm}

-- the tip of a step is where the last step left it where the step's tool is in the spindle already, and else at the
-- security height; moves leave it at the end of the last one
abbrev pub TipsAreKept : Type 0
TipsAreKept =
    (job : Job) (step : StepJob) (tip : Tip)
    → (tip_for job (Some step.tool) tip step ≡ tip) × ((tool : ℕ) → tool ≢ step.tool → tip_for job (Some tool) tip step ≡ Height job.sec)
    × (tip_for job None tip step ≡ Height job.sec)
    × ((p q r : Pt3)
    → (tip_after_moves (At p) (Rapid q ∷ Feed r ∷ []) ≡ At r) × (tip_after_moves (At p) [] ≡ At p)
    × (tip_after_moves (Height job.sec) (Rapid q ∷ []) ≡ At q))

-- moves cut in their passes at feed alone, each from where the move before it ends
abbrev pub OnlyFeedsOfMovesCut : Type 0
OnlyFeedsOfMovesCut =
    (body : Body) (z : ℤ) (p q r : Pt3)
    → (passes_by body (At p) (Feed q ∷ Rapid r ∷ Feed p ∷ [])
    ≡ record { body = body; from = p; to = q } ∷ record { body = body; from = r; to = p } ∷ [])
    × (passes_by body (Height z) (Rapid q ∷ Feed r ∷ []) ≡ record { body = body; from = q; to = r } ∷ [])

-- after some passes there is one height over which no material is left
abbrev pub OneHighest : Type 0
OneHighest = (job : Job) (step : StepJob) (passes : List Pass) (a b : ℤ) → IsHighest job step passes a → IsHighest job step passes b → a ≡ b

-- a job has one plan
abbrev pub OnePlan : Type 0
OnePlan = (job : Job) (some others : List (StepJob × List Move)) → IsPlan job some → IsPlan job others → some ≡ others

-- a step makes no moves where no material is left over its allowed nodes from its tip floor up, and none where it has no
-- stroke: where it drills and opens no node, where it clears and opens no node that is required for its feature, or where it
-- follows a trail of fewer than two points
abbrev pub NothingToCutNoMoves : Type 0
NothingToCutNoMoves =
    (job : Job) (step : StepJob) (passes : List Pass) (tip : Tip) (moves : List Move) → IsStepPlan job step passes tip moves
    → (job.low.z ≤ℤ tip_floor step → ((c : Cell) → IsMaterial job passes c → InAllowed job step (node_of c) → c.z <ℤ tip_floor step) → moves ≡ [])
    × (AreStrokes job step [] → moves ≡ [])
    × (step.way ≡ way.Drill → ((n : Node) → ¬ IsOpening job step n) → moves ≡ [])
    × (IsJob job → step.way ≡ way.Clear → ((n : Node) → IsRequiredNode job step.feature n → ¬ IsOpening job step n) → moves ≡ [])
    × ((points : List Pt) (width : ℕ) → step.way ≡ way.Trail → step.outline.shape ≡ Trail points width → length points < 2 → moves ≡ [])

-- a step that is repeated makes no moves where those of the first time cut all raw cells over its allowed nodes from its
-- floor up
abbrev pub RepeatedStepsRest : Type 0
RepeatedStepsRest =
    (job : Job) (step : StepJob) (first : Move) (some others : List Move)
    → job.low.z ≤ℤ tip_floor step → ArePlans job [] None Unknown ((step, first ∷ some) ∷ (step, others) ∷ [])
    → ((c : Cell) → IsRawCell job c → InAllowed job step (node_of c) → tip_floor step ≤ℤ c.z
    → (pass : Pass) × Contains (passes_by step.body (Height job.sec) (first ∷ some)) pass × IsCutBy job.pitch pass c)
    → others ≡ []

-- the moves are those of the layers of the step over some strokes, made from the tip
abbrev pub AreMadeFrom : Job → StepJob → Tip → List Move → Type 0
AreMadeFrom job step tip moves = (strokes : List Stroke) × (above : ℤ) × IsCutInLayers job step strokes above tip moves

-- a step begins where the last step with moves left the tip, where that had its tool, and otherwise at the security height
abbrev pub StepsBeginAtTheTip : Type 0
StepsBeginAtTheTip =
    (job : Job) (step other : StepJob) (first : Move) (some others : List Move) → others ≢ []
    → (ArePlans job [] None Unknown ((step, first ∷ some) ∷ (other, []) ∷ (step, others) ∷ [])
    → AreMadeFrom job step (tip_after_moves (Height job.sec) (first ∷ some)) others)
    × (step.tool ≢ other.tool → ArePlans job [] None Unknown ((step, first ∷ some) ∷ (other, others) ∷ []) → AreMadeFrom job other (Height job.sec) others)

-- Layers.

-- worked: layers of 2 mm down to the height 4 mm: the last is at the floor, and not deeper than the others
abbrev pub LayersAreAnAxialDepthApart : Type 0
LayersAreAnAxialDepthApart =
    AreLayers (2 * PER_MM) (mm 4) (mm 9) (mm 7 ∷ mm 5 ∷ mm 4 ∷ [])
    × AreLayers (2 * PER_MM) (mm 4) (mm 8) (mm 6 ∷ mm 4 ∷ [])
    × AreLayers (2 * PER_MM) (mm 4) (pos (4 * PER_MM + 1)) (mm 4 ∷ [])

-- from each height over a floor there are layers down to it
abbrev pub LayersComeToTheFloor : Type 0
LayersComeToTheFloor = (axial : ℕ) (floor above : ℤ) → 1 ≤ axial → floor <ℤ above → (tips : List ℤ) × AreLayers axial floor above tips

abbrev pub OneListOfLayers : Type 0
OneListOfLayers =
    (axial : ℕ) (floor above : ℤ) (some others : List ℤ) → AreLayers axial floor above some → AreLayers axial floor above others → some ≡ others

-- to the next stroke at feed where the way is free, and else up by the point length, and over it at the security height
abbrev pub LinksAreFedOrLifted : Type 0
LinksAreFedOrLifted =
    (job : Job) (step : StepJob) (above tip : ℤ) (a b : Pt) (moves : List Move) → IsLink job step above tip a b moves
    → (IsFreeWay job step a b → moves ≡ Feed (over b tip) ∷ [])
    × ((¬ IsFreeWay job step a b)
    → moves ≡ Feed (over a (int_min (tip +ℤ pos step.body.e) (pos REACH))) ∷ Rapid (over a job.sec)
    ∷ Rapid (over b job.sec) ∷ Rapid (over b (int_min job.sec (above +ℤ pos GAP))) ∷ Feed (over b tip) ∷ [])

-- a layer of two strokes with a free way from the first to the second
abbrev pub LayersGoAlongTheirStrokes : Type 0
LayersGoAlongTheirStrokes =
    (job : Job) (step : StepJob) (above tip : ℤ) (s t : Stroke) (moves : List Move) → IsFreeWay job step s.to t.from
    → IsLayer job step above tip (s ∷ t ∷ []) moves
    → moves ≡ approach job.sec s.from above tip ++ Feed (over s.to tip) ∷ Feed (over t.from tip) ∷ Feed (over t.to tip) ∷ lift job.sec t.to tip step.body.e

-- down to a stroke, along it, and up
abbrev pub along_one : Job → StepJob → ℤ → ℤ → Stroke → List Move
along_one job step above tip s = approach job.sec s.from above tip ++ Feed (over s.to tip) ∷ lift job.sec s.to tip step.body.e

-- in rapid a later layer is approached down to where the one before it cut with the whole diameter
abbrev pub LaterLayersBeginWhereTheLastCut : Type 0
LaterLayersBeginWhereTheLastCut =
    (job : Job) (step : StepJob) (above tip next : ℤ) (s : Stroke) (moves : List Move)
    → AreLayerMoves job step (s ∷ []) above (tip ∷ next ∷ []) moves
    → moves ≡ along_one job step above tip s ++ along_one job step (tip +ℤ pos step.body.e) next s

-- Drilling.

-- a drilling step that has something to do plunges at the centre of its outline; and the plan of a job that drills one hole
abbrev pub DrillsPlunge : Type 0
DrillsPlunge =
    ((job : Job) (step : StepJob) (centre : Pt) (d : ℕ) (passes : List Pass) (tip : Tip) (moves : List Move) (above : ℤ)
    → step.way ≡ way.Drill → step.outline.shape ≡ Circle centre d → IsHighest job step passes above → tip_floor step <ℤ above → OpensSome job step
    → IsStepPlan job step passes tip moves → moves ≡ made tip (plunge job step centre above))
    × (let p = at (mm 10) (mm 10) in
    IsPlan (plate drill)
    ((drill, Rapid (over p (mm 20)) ∷ Rapid (over p (pos (10 * PER_MM + GAP))) ∷ Feed (over p (mm 4)) ∷ Feed (over p (mm 5)) ∷ Rapid (over p (mm 20)) ∷ []) ∷ []))

-- Trails.

-- a step that follows a trail cuts along its segments in layers; and the plan of a job that follows a trail of three points in
-- one layer: down at the first point, along the two segments, and up at the last
abbrev pub TrailsAreFollowedInLayers : Type 0
TrailsAreFollowedInLayers =
    ((job : Job) (step : StepJob) (points : List Pt) (width : ℕ) (passes : List Pass) (tip : Tip) (moves : List Move) (above : ℤ)
    → step.way ≡ way.Trail → step.outline.shape ≡ Trail points width → IsHighest job step passes above → tip_floor step <ℤ above → 2 ≤ length points
    → IsStepPlan job step passes tip moves → IsCutInLayers job step (strokes_along points) above tip moves)
    × (let a = at (mm 10) (mm 10) in
    let b = at (mm 30) (mm 10) in
    let c = at (mm 30) (mm 25) in
    IsPlan (plate trail)
    ((
      trail,
      Rapid (over a (mm 20)) ∷ Rapid (over a (pos (10 * PER_MM + GAP))) ∷ Feed (over a (mm 8)) ∷ Feed (over b (mm 8)) ∷ Feed (over c (mm 8))
          ∷ Feed (over c (mm 9)) ∷ Rapid (over c (mm 20)) ∷ [],
    ) ∷ []))
