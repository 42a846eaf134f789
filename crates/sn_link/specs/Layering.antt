-- PRIVATE: what is said of the parts of the layers of a step.
use Rattle.std.specs.Prelude.{◌≡◌, ℕ, ◌+◌, ℤ, pos, ◌+ℤ◌, ◌<ℤ◌, Bool, true, false, List, [], ◌∷◌, ◌++◌, length}
use Rattle.std.specs.Int.{int_min}
use Rattle.sn_geom.specs.declared.limits.TheConstants.{GAP, REACH}
use Rattle.sn_geom.specs.declared.units.Seg.{Seg}
use Rattle.sn_geom.specs.Sweep.{Near}
use Rattle.sn_geom.specs.declared.tip.Tip.{Tip}
use Rattle.sn_outline.specs.Job.{Job, tip_floor}
use Rattle.sn_outline.specs.declared.job.StepJob.{StepJob}
use Rattle.sn_raster.specs.Grid.{Node, IsInWindow, place}
use Rattle.sn_raster.specs.Plane.{Plane, Has}
use Rattle.sn_open.specs.declared.stroke.Stroke.{Stroke}
use Rattle.sn_link.specs.declared.layers.Layer.{Layer}
use Rattle.sn_link.specs.declared.moves.Move.{Move}
use Rattle.sn_link.specs.declared.moves.Move.TheVariants.{Rapid, Feed}
use Rattle.sn_link.specs.declared.step_plan.Planned.{Planned}
use Rattle.sn_link.specs.Layers.{AreStepLayers, AreLayerMoves}
use Rattle.sn_link.specs.Plan.{IsCutInLayers}
use Rattle.sn_link.specs.Safe.{AreWithin}

-- a node of the window within half of d of a segment, that the plane lacks
pub record IsLacking (plane : Plane) (d : ℕ) (way : Seg) (n : Node) : Type 0 where
  pub window : IsInWindow plane.grid n
  pub near : Near d way.a way.b (place plane.grid.pitch n)
  pub lacks : ¬ Has plane n

-- the heights are those of a layer of a step, under a height over which no material is left
pub record IsLayerOf (job : Job) (step : StepJob) (above : ℤ) (layer : Layer) : Type 0 where
  pub sec : layer.sec ≡ job.sec
  pub start : layer.start ≡ int_min job.sec (above +ℤ pos GAP)
  pub end : layer.end ≡ int_min (layer.low +ℤ pos step.body.e) (pos REACH)

-- moves came after others, with ends in the range
pub record IsAdded (before added after : List Move) : Type 0 where
  pub is : after ≡ before ++ added
  pub within : AreWithin added

-- moves came after others, and this is so of them
pub record Grows (P : List Move → Type 0) (before after : List Move) : Type 0 where
  pub added : List Move
  pub is_added : IsAdded before added after
  pub holds : P added

-- moves of so many layers of a step came after others
pub record GrowsByLayers (job : Job) (step : StepJob) (strokes : List Stroke) (above : ℤ) (before after : List Move) (layers : ℕ) : Type 0 where
  pub tips : List ℤ
  pub are_layers : AreStepLayers step above tips
  pub moves : Grows (AreLayerMoves job step strokes above tips) before after
  pub count : layers ≡ length tips

-- the tip of a layer of the step over its floor, the first one from a height down
pub record IsNextTip (step : StepJob) (top low : ℤ) : Type 0 where
  pub over_floor : tip_floor step <ℤ low
  pub lower : low <ℤ top
  pub first : (tips : List ℤ) → AreStepLayers step low tips → AreStepLayers step top (low ∷ tips)

abbrev pub is_feed : Move → Bool
is_feed (Rapid p) = false
is_feed (Feed p) = true

-- how often a rapid comes right after a feed, where the move before these is a feed or is not
abbrev pub lifts_after : Bool → List Move → ℕ
lifts_after fed [] = 0
lifts_after fed (Feed p ∷ moves) = lifts_after true moves
lifts_after false (Rapid p ∷ moves) = lifts_after false moves
lifts_after true (Rapid p ∷ moves) = 1 + lifts_after false moves

-- what is planned of a step is cut in layers, and counted
pub record IsCutAs (job : Job) (step : StepJob) (strokes : List Stroke) (above : ℤ) (tip : Tip) (planned : Planned) : Type 0 where
  pub cut : IsCutInLayers job step strokes above tip planned.moves
  pub layers : planned.layers ≡ length cut.tips
  pub lifts : planned.lifts ≡ lifts_after false cut.all
