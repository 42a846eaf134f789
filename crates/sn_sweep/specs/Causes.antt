-- PRIVATE: how the first cause of an act is told, and the causes of a feed by what a checker keeps (this project's own).
use Rattle.std.specs.Prelude.{◌≡◌, ◌≢◌, ℕ, ◌+◌, ℤ, pos, ◌+ℤ◌, List, Option, None, Some, slice_get}
use Rattle.std.specs.Int.{int_min}
use Rattle.sn_geom.specs.declared.units.Cell.{Cell}
use Rattle.sn_geom.specs.declared.units.Pt3.{Pt3}
use Rattle.sn_geom.specs.Sweep.{IsVertical}
use Rattle.sn_outline.specs.declared.job.StepJob.{StepJob}
use Rattle.sn_raster.specs.Heights.{HeightMap, IsFirst, IsTouchedCell}
use Rattle.sn_open.specs.Gouged.{IsGougedCell}
use Rattle.sn_open.specs.Planes.{CellSet}
use Rattle.sn_open.specs.Verdict.{IsFirstCause}
use Rattle.sn_open.specs.declared.verdict.Cause.{Cause}
use Rattle.sn_open.specs.declared.verdict.Cause.TheVariants.{OtherTool, OtherFeed, OtherSpeed, Gouge, Deep}

-- the first of the causes that P holds of is told, and no cause where P holds of none
abbrev pub TellsFirst : (Cause → Type 0) → Option Cause → Type 0
TellsFirst P None = (cause : Cause) → ¬ P cause
TellsFirst P (Some cause) = IsFirstCause P cause

-- the step at this place of the steps has this instance number
abbrev pub NamesStep : List StepJob → ℕ → ℕ → Type 0
NamesStep steps place ws = (step : StepJob) × (slice_get steps place ≡ Some step) × (step.ws ≡ ws)

-- a cell that is left, and that a tool of diameter d touches, its tip moving from a to b
abbrev pub IsTouchedLeft : HeightMap → ℕ → Pt3 → Pt3 → Cell → Type 0
IsTouchedLeft map d a b c = IsTouchedCell map d a b map.grid.bottom c

-- the height from which a cell is too deep for the step: the point length and the axial depth above the lower end of the way
abbrev pub deep_from : StepJob → ℤ → ℤ → ℤ
deep_from step a b = int_min a b +ℤ pos (step.body.e + step.axial)

-- a cell that is too deep for the step on a way that is not one of Z alone
pub record IsDeepCell (map : HeightMap) (step : StepJob) (from to : Pt3) (c : Cell) : Type 0 where
  pub sideways : ¬ IsVertical from to
  pub touched : IsTouchedCell map step.body.d from to (deep_from step from.z to.z) c

-- a cause of a feed of the step, by what is kept
abbrev pub IsStepCause : HeightMap → CellSet → StepJob → Pt3 → Pt3 → ℕ → ℕ → ℕ → Cause → Type 0
IsStepCause map cells step from to feed speed tool OtherTool = tool ≢ step.tool
IsStepCause map cells step from to feed speed tool OtherFeed = feed ≢ step.feed
IsStepCause map cells step from to feed speed tool OtherSpeed = speed ≢ step.speed
IsStepCause map cells step from to feed speed tool (Gouge c) = IsFirst (IsGougedCell map step.body.d from to cells) c
IsStepCause map cells step from to feed speed tool (Deep c) = IsFirst (IsDeepCell map step from to) c
IsStepCause map cells step from to feed speed tool _ = ⊥
