-- PRIVATE: the search for cells that have to be cut and are left.
use Rattle.std.specs.Prelude.{◌≡◌, ℕ, ◌≤◌, pos, ◌+ℤ◌, ◌≤ℤ◌, ◌<ℤ◌, List, Contains}
use Rattle.sn_geom.specs.declared.units.Cell.{Cell}
use Rattle.sn_outline.specs.declared.job.StepJob.{StepJob}
use Rattle.sn_outline.specs.Job.{Job}
use Rattle.sn_raster.specs.Plane.{Plane, Has}
use Rattle.sn_raster.specs.Heights.{HeightMap, HasCell, node_of}
use Rattle.sn_open.specs.Region.{HasLeastUnder, IsRequiredNode, IsRequiredHeight}
use Rattle.sn_sweep.specs.declared.left.Band.{Band}

-- a cell that is left, over a node and at a height at which the feature has to be cut
pub record IsStanding (job : Job) (map : HeightMap) (feature : ℕ) (c : Cell) : Type 0 where
  pub node : IsRequiredNode job feature (node_of c)
  pub deepest : StepJob
  pub least : HasLeastUnder job feature deepest
  pub height : IsRequiredHeight deepest c.z
  pub left : HasCell map c

-- a cell of the heights of the band that is left over a node of the plane
pub record IsStandingIn (plane : Plane) (map : HeightMap) (band : Band) (c : Cell) : Type 0 where
  pub node : Has plane (node_of c)
  pub left : HasCell map c
  pub from : band.from ≤ℤ c.z
  pub below : c.z <ℤ band.below

-- the least bottom allowance of the steps of the feature
pub record IsLeastUnder (steps : List StepJob) (feature under : ℕ) : Type 0 where
  pub deepest : StepJob
  pub among : Contains steps deepest
  pub cuts : deepest.feature ≡ feature
  pub own : deepest.under ≡ under
  pub least : (other : StepJob) → Contains steps other → other.feature ≡ feature → under ≤ other.under

-- the heights at which the feature of the step has to be cut
pub record IsBandOf (steps : List StepJob) (step : StepJob) (band : Band) : Type 0 where
  pub under : ℕ
  pub least : IsLeastUnder steps step.feature under
  pub from : band.from ≡ step.floor +ℤ pos under
  pub below : band.below ≡ step.top
