-- MEANING (this project's own): an executed machining workingstep as a step of a job, and why it is refused.
use Rattle.std.specs.Prelude.{ℕ, ℤ, ◌+ℤ◌, int_lt, [], Result, Ok}
use Rattle.sn_model.specs.ModelContent.{ModelContent}
use Rattle.sn_frame.specs.declared.frame.FrameFault.{FrameFault}
use Rattle.sn_frame.specs.Frame.{Transform}
use Rattle.sn_outline.specs.declared.job.StepJob.{StepJob}
use Rattle.sn_outline.specs.Job.{tip_floor}
use Rattle.sn_feature.specs.declared.entities.Feature.{Feature}
use Rattle.sn_feature.specs.declared.entities.Task.{Task}
use Rattle.sn_feature.specs.declared.fault.StepFault.{StepFault}
use Rattle.sn_feature.specs.declared.fault.StepFault.TheVariants.{Depth, BadOutline, WrongTool, ShortTool}
use Rattle.sn_feature.specs.declared.parts.PlacedFeature.{PlacedFeature}
use Rattle.sn_feature.specs.declared.parts.StepParts.{StepParts}
use Rattle.sn_feature.specs.Entities.{feed_of, speed_of, workingstep_of, task_of}
use Rattle.sn_feature.specs.Outline.{sketch_of, is_bad_outline, shape_at, straight_path, site_of, outline_site}
use Rattle.sn_feature.specs.Placement.{upright_frame, plane_height}
use Rattle.sn_feature.specs.Refusal.{◌>>=◌, refused_where, length_in_range, as_step_fault}
use Rattle.sn_feature.specs.Tooling.{bottom_of, corner_of, body_of, axial_depth, radial_depth, way_of, is_wrong_tool, is_short_tool}

-- The feature in the setup, whose workpiece stands in this frame: where its placement is, then whether its path has a
-- direction, where its outline is, and its floor.
unfoldable pub placed_feature : ModelContent → Transform → Feature → Result PlacedFeature FrameFault
placed_feature m workpiece f = do
  frame ← upright_frame m workpiece f.placement
  _ ← straight_path m f.form
  site ← outline_site m (site_of frame f.placement) f.form
  shape ← shape_at site (sketch_of m f.form)
  floor ← length_in_range (frame.shift.z +ℤ plane_height m f.depth) f.placement
  Ok (record { top = frame.shift.z; floor = floor; outline = record { shape = shape; islands = [] } })

-- what a workingstep gives a step of a job
unfoldable pub parts_of : ModelContent → Task → PlacedFeature → StepParts
parts_of m t placed =
    record {
      ws = t.ws;
      feature = t.names.feature;
      outline = placed.outline;
      top = placed.top;
      floor = placed.floor;
      bottom = bottom_of m t.feature.form;
      corner = corner_of m t.feature.form;
      side = t.operation.side;
      under = t.operation.under;
      axial = axial_depth t.operation;
      radial = radial_depth t.operation t.tool.diameter;
      tool = t.operation.tool;
      body = body_of t.tool;
      feed = feed_of m t.operation.technology;
      speed = speed_of m t.operation.technology;
      way = way_of m t.feature.form t.operation t.tool.diameter;
    }

-- the step with the number of its tool in the program, and its corner diameter
abbrev pub step_with : StepParts → ℕ → ℕ → StepJob
step_with p tool corner =
    record {
      ws = p.ws;
      feature = p.feature;
      outline = p.outline;
      top = p.top;
      floor = p.floor;
      bottom = p.bottom;
      corner = corner;
      side = p.side;
      under = p.under;
      axial = p.axial;
      radial = p.radial;
      tool = tool;
      body = p.body;
      feed = p.feed;
      speed = p.speed;
      way = p.way;
    }

-- the lowest height of the tip in the step, which depends on neither
abbrev pub lowest_tip : StepParts → ℤ
lowest_tip p = tip_floor (step_with p 0 0)

-- What is refused of a workingstep whose feature stands in the setup, in order: the lowest tip leaves the range, the floor
-- lies above the top, the outline is bad, the tool is wrong, or it is too short.
unfoldable pub judged : ModelContent → Task → ℤ → StepParts → Result (Unit {0}) StepFault
judged m t raw_top p = do
  tip ← as_step_fault (length_in_range (lowest_tip p) t.feature.placement)
  _ ← refused_where (int_lt p.top p.floor) (Depth t.names.feature)
  _ ← refused_where (is_bad_outline m t.feature.form) (BadOutline t.names.feature)
  _ ← refused_where (is_wrong_tool t.feature.form t.operation t.tool) (WrongTool t.ws)
  refused_where (is_short_tool t.tool.length raw_top tip) (ShortTool t.ws)

unfoldable pub step_by : ModelContent → Transform → ℤ → Task → Result StepParts StepFault
step_by m workpiece raw_top t = do
  placed ← as_step_fault (placed_feature m workpiece t.feature)
  _ ← judged m t raw_top (parts_of m t placed)
  Ok (parts_of m t placed)

-- The step of a workingstep in a setup in which the workpiece stands in this frame and the raw box has this top.
unfoldable pub step_of : ModelContent → Transform → ℤ → ℕ → Result StepParts StepFault
step_of m workpiece raw_top ws = step_by m workpiece raw_top (task_of m ws)

-- the Z of the location of a workingstep's security plane
unfoldable pub security_of : ModelContent → ℕ → ℤ
security_of m ws = plane_height m (workingstep_of m ws).security
