-- Laws of regions over the window of a grid (this project's own).
use Rattle.std.specs.Prelude.{◌↔◌, ◌*◌, ◌≤◌, ◌⊎◌, ℕ}
use Rattle.sn_geom.specs.declared.units.Cell.{Cell}
use Rattle.sn_outline.specs.Job.{Job}
use Rattle.sn_outline.specs.JobRule.{IsJob}
use Rattle.sn_outline.specs.declared.job.StepJob.{StepJob}
use Rattle.sn_raster.specs.Grid.{Grid, Node, place, InDisc, IsGridOf, IsInWindow, IsRawNode, greatest_margin}
use Rattle.sn_raster.specs.Heights.{node_of}
use Rattle.sn_open.specs.Region.{InAllowed, IsAllowed}
use Rattle.sn_open.specs.Planes.{IsGridWith, CellSet, HasIn, AreAllowed}

-- a step may cut over all nodes outside the window
abbrev pub OutsideIsAllowed : Type 0
OutsideIsAllowed =
    (g : Grid) (job : Job) (step : StepJob) (n : Node) → IsGridWith g step → IsGridOf g job
    → IsInWindow g n ⊎ InAllowed job step n

-- what a disc that is not greater than twice the margin has to do with a raw node is in the window
abbrev pub WindowHasDiscs : Type 0
WindowHasDiscs =
    (g : Grid) (job : Job) (c n : Node) (d : ℕ) → IsJob job → IsGridOf g job → d ≤ 2 * greatest_margin job.steps
    → IsRawNode job n → InDisc job.pitch d (place job.pitch c) n → IsInWindow g c

-- the cells of a set that stands for the allowed ones are those that the step may cut, in the window
abbrev pub AllowedCellsAreTheSteps : Type 0
AllowedCellsAreTheSteps =
    (cells : CellSet) (job : Job) (step : StepJob) (c : Cell) → AreAllowed cells job step → IsInWindow cells.plane.grid (node_of c)
    → HasIn cells c ↔ IsAllowed job step c
