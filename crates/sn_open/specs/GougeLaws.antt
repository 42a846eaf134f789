-- Laws of gouged cells: they are those that a feed of a step may not touch.
use Rattle.std.specs.Prelude.{◌≡◌, ◌↔◌, List}
use Rattle.sn_geom.specs.declared.units.Cell.{Cell}
use Rattle.sn_geom.specs.declared.units.Pt3.{Pt3}
use Rattle.sn_geom.specs.Acts.{Act}
use Rattle.sn_outline.specs.Job.{Job}
use Rattle.sn_outline.specs.declared.job.StepJob.{StepJob}
use Rattle.sn_raster.specs.Heights.{HeightMap, IsFirst, StandsFor}
use Rattle.sn_open.specs.Good.{passes, StaysAllowed}
use Rattle.sn_open.specs.Gouged.{IsGougedCell}
use Rattle.sn_open.specs.Planes.{CellSet, AreAllowed}
use Rattle.sn_open.specs.Verdict.{IsMetForbidden}

-- The heights stand for what some acts leave, and the cells are those that the step may cut.
pub record AreOf (map : HeightMap) (cells : CellSet) (job : Job) (before : List Act) (step : StepJob) : Type 0 where
  pub left : StandsFor map job (passes job.steps before)
  pub allowed : AreAllowed cells job step
  pub grid : cells.plane.grid ≡ map.grid

-- the cells that a move of the step's tool gouges are those that it meets and the step may not cut
abbrev pub GougesAreForbidden : Type 0
GougesAreForbidden =
    (map : HeightMap) (cells : CellSet) (job : Job) (before : List Act) (step : StepJob) (a b : Pt3) (c : Cell) → AreOf map cells job before step
    → (IsGougedCell map step.body.d a b cells c ↔ IsMetForbidden job before step a b c)
    × (IsFirst (IsGougedCell map step.body.d a b cells) c → IsFirst (IsMetForbidden job before step a b) c)

-- a move that gouges no cell stays allowed
abbrev pub NoGougeStaysAllowed : Type 0
NoGougeStaysAllowed =
    (map : HeightMap) (cells : CellSet) (job : Job) (before : List Act) (step : StepJob) (a b : Pt3) → AreOf map cells job before step
    → ((c : Cell) → ¬ IsGougedCell map step.body.d a b cells c) → StaysAllowed job before step a b
