-- PRIVATE: what a checker is made of, and the rule that it keeps.
use Rattle.std.specs.Prelude.{◌≡◌, ◌<◌, ◌≤◌, ◌^◌, List, [], length, Option, None, Some}
use Rattle.sn_outline.specs.declared.job.StepJob.{StepJob}
use Rattle.sn_raster.specs.Grid.{Grid, IsGridOf}
use Rattle.sn_open.specs.Planes.{CellSet}
use Rattle.sn_sweep.specs.declared.planes.Planes.{Planes}
use Rattle.sn_sweep.specs.declared.checker.Checker.TheInside.{Inside}

-- the cells that the current step may cut; a job without steps has none
abbrev pub allowed_of : Grid → Option Planes → CellSet
allowed_of grid None = record { plane = record { grid = grid; marks = [] }; lowest = None }
allowed_of grid (Some planes) = planes.allowed

-- planes over the grid, where a job has steps
abbrev pub HasPlanes : Grid → List StepJob → Option Planes → Type 0
HasPlanes grid steps None = steps ≡ []
HasPlanes grid steps (Some planes) = (planes.allowed.plane.grid ≡ grid) × (planes.required.grid ≡ grid)

-- The rule that each checker keeps. Where bytes are held, one more line can be counted.
pub record IsChecker (kept : Inside) : Type 0 where
  pub grid : IsGridOf kept.grid.now kept.job.now
  pub heights : kept.heights.grid ≡ kept.grid.now
  pub planes : HasPlanes kept.grid.now kept.job.now.steps kept.planes
  pub lines : kept.lines ≤ 2 ^ 63
  pub marks : kept.marks ≤ length kept.job.now.steps
  pub rest : 0 < length kept.rest.items → kept.lines < 2 ^ 63
