-- MEANING: thrifty strokes of a step on its grid (this project's own).
use Rattle.std.specs.Prelude.{◌≡◌, ℕ, List, map, Contains}
use Rattle.sn_outline.specs.declared.job.StepJob.{StepJob}
use Rattle.sn_raster.specs.Grid.{Grid, Node, place, InDisc}
use Rattle.sn_raster.specs.Plane.{Plane, Has}
use Rattle.sn_open.specs.declared.stroke.Stroke.{Stroke}
use Rattle.sn_clear.specs.declared.spot.Run.{Run}
use Rattle.sn_clear.specs.declared.spot.Spot.{Spot}
use Rattle.sn_clear.specs.Window.{node_at}
use Rattle.sn_clear.specs.Columns.{IsCentreOf}
use Rattle.sn_clear.specs.Strokes.{field_of, row_step, stroke_of}
use Rattle.sn_clear.specs.Thrift.{AreThrifty}

-- a free centre whose disc holds a target
pub record HoldsTarget (g : Grid) (d : ℕ) (centres targets : Plane) (c : Node) : Type 0 where
  pub centre : Has centres c
  pub target : Node
  pub is_target : Has targets target
  pub near : InDisc g.pitch d (place g.pitch c) target

-- The strokes are those of thrifty runs over the free centres, for the targets, and each node of a run holds a target.
pub record AreThriftyStrokes (step : StepJob) (g : Grid) (centres targets : Plane) (strokes : List Stroke) : Type 0 where
  pub runs : List Run
  pub strokes_are : strokes ≡ map (stroke_of g) runs
  pub thrifty : AreThrifty (field_of g step.body.d centres targets) (row_step step g.pitch) targets.marks runs
  pub hold : (run : Run) → Contains runs run → (c : Spot) → IsCentreOf run c → HoldsTarget g step.body.d centres targets (node_at g c.column c.row)
