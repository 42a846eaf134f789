-- MEANING: laws of the strokes of a step on its grid (this project's own).
use Rattle.std.specs.Prelude.{◌≡◌, ◌↔◌, ℕ, List, [], Contains}
use Rattle.std.specs.List.{All}
use Rattle.sn_geom.specs.Sweep.{Near}
use Rattle.sn_outline.specs.JobRule.{IsPitch}
use Rattle.sn_outline.specs.declared.job.StepJob.{StepJob}
use Rattle.sn_raster.specs.Grid.{Grid, Node, place, InDisc, IsInWindow}
use Rattle.sn_raster.specs.Plane.{Plane, Has}
use Rattle.sn_open.specs.declared.stroke.Stroke.{Stroke}
use Rattle.sn_clear.specs.Strokes.{clearing_strokes}
use Rattle.sn_clear.specs.ThriftyStrokes.{AreThriftyStrokes}

-- the planes of free centres and of targets are over the grid, whose pitch is that of a job
pub record AreOver (g : Grid) (centres targets : Plane) : Type 0 where
  pub pitch : IsPitch g.pitch
  pub of_centres : centres.grid ≡ g
  pub of_targets : targets.grid ≡ g

-- a free centre whose disc of diameter d has the node
abbrev pub IsHeld : Grid → ℕ → Plane → Node → Type 0
IsHeld g d centres n = (c : Node) × Has centres c × InDisc g.pitch d (place g.pitch c) n

-- what is under the tool along a stroke
abbrev pub IsAlong : Grid → ℕ → Stroke → Node → Type 0
IsAlong g d s n = Near d s.from s.to (place g.pitch n)

-- along each stroke what is under the tool is in the disc of a free centre
abbrev pub StrokesLieOnCentres : Type 0
StrokesLieOnCentres =
    (step : StepJob) (g : Grid) (centres targets : Plane) → AreOver g centres targets
    → All (λ (s : Stroke). (n : Node) → IsAlong g step.body.d s n → IsHeld g step.body.d centres n) (clearing_strokes step g centres targets)

-- where each target is in the disc of a free centre each is along a stroke
abbrev pub TargetsAreAlongStrokes : Type 0
TargetsAreAlongStrokes =
    (step : StepJob) (g : Grid) (centres targets : Plane) → AreOver g centres targets
    → ((t : Node) → Has targets t → IsHeld g step.body.d centres t)
    → (t : Node) → Has targets t → (s : Stroke) × Contains (clearing_strokes step g centres targets) s × IsAlong g step.body.d s t

-- and the strokes are thrifty
abbrev pub ClearingStrokesAreThrifty : Type 0
ClearingStrokesAreThrifty =
    (step : StepJob) (g : Grid) (centres targets : Plane) → AreOver g centres targets
    → ((t : Node) → Has targets t → IsHeld g step.body.d centres t)
    → AreThriftyStrokes step g centres targets (clearing_strokes step g centres targets)

-- without a target there is no stroke
abbrev pub NoStrokesWithoutTargets : Type 0
NoStrokesWithoutTargets =
    (step : StepJob) (g : Grid) (centres targets : Plane) → AreOver g centres targets
    → ((n : Node) → ¬ Has targets n) → clearing_strokes step g centres targets ≡ []

-- planes over one grid have the same nodes of its window
abbrev pub HaveSameNodes : Grid → Plane → Plane → Type 0
HaveSameNodes g a b = (n : Node) → IsInWindow g n → Has a n ↔ Has b n

-- planes with the same nodes give the same strokes
abbrev pub SameNodesSameStrokes : Type 0
SameNodesSameStrokes =
    (step : StepJob) (g : Grid) (centres targets centres' targets' : Plane)
    → centres.grid ≡ g → targets.grid ≡ g → centres'.grid ≡ g → targets'.grid ≡ g
    → HaveSameNodes g centres centres' → HaveSameNodes g targets targets'
    → clearing_strokes step g centres targets ≡ clearing_strokes step g centres' targets'
