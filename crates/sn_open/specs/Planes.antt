-- MEANING: which regions the planes of a step and of a feature stand for, over the grid of their job (this project's own).
use Rattle.std.specs.Prelude.{◌↔◌, ℕ, ℤ, ◌≤ℤ◌, Option, Contains}
use Rattle.std.specs.Option.{IfSome}
use Rattle.sn_geom.specs.declared.units.Cell.{Cell}
use Rattle.sn_outline.specs.declared.job.StepJob.{StepJob}
use Rattle.sn_outline.specs.Job.{Job}
use Rattle.sn_outline.specs.JobRule.{IsJob}
use Rattle.sn_raster.specs.Grid.{Grid, Node, IsGridOf, IsInWindow}
use Rattle.sn_raster.specs.Plane.{Plane, Has}
use Rattle.sn_raster.specs.Heights.{node_of}
use Rattle.sn_open.specs.Region.{InAllowed, IsAllowedHeight, IsFreeCentre, IsOpening, IsRequiredNode}

-- The grid is that of a job in which the step is executed.
pub record IsGridWith (g : Grid) (step : StepJob) : Type 0 where
  pub job : Job
  pub rule : IsJob job
  pub grid : IsGridOf g job
  pub executed : Contains job.steps step

-- Cells by their nodes and the lowest height; where there is none, all heights.
pub record CellSet : Type 0 where
  pub plane : Plane
  pub lowest : Option ℤ

abbrev pub IsHigh : Option ℤ → ℤ → Type 0
IsHigh lowest z = IfSome lowest (λ low. low ≤ℤ z)

-- the cells of such a set
pub record HasIn (cells : CellSet) (c : Cell) : Type 0 where
  pub node : Has cells.plane (node_of c)
  pub height : IsHigh cells.lowest c.z

-- the cells, as far as the window goes, that a step may cut: nodes outside the window are allowed, and have no material
pub record AreAllowed (cells : CellSet) (job : Job) (step : StepJob) : Type 0 where
  pub grid : IsGridOf cells.plane.grid job
  pub nodes : (n : Node) → IsInWindow cells.plane.grid n → Has cells.plane n ↔ InAllowed job step n
  pub heights : (z : ℤ) → IsHigh cells.lowest z ↔ IsAllowedHeight step z

-- the free centres of a step in the window
pub record AreCentres (plane : Plane) (job : Job) (step : StepJob) : Type 0 where
  pub grid : IsGridOf plane.grid job
  pub nodes : (n : Node) → IsInWindow plane.grid n → Has plane n ↔ IsFreeCentre job step n

-- the opening of a step
pub record IsOpeningPlane (plane : Plane) (job : Job) (step : StepJob) : Type 0 where
  pub grid : IsGridOf plane.grid job
  pub nodes : (n : Node) → Has plane n ↔ IsOpening job step n

-- the required nodes of a feature
pub record AreRequired (plane : Plane) (job : Job) (feature : ℕ) : Type 0 where
  pub grid : IsGridOf plane.grid job
  pub nodes : (n : Node) → Has plane n ↔ IsRequiredNode job feature n
