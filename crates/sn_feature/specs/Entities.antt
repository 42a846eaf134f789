-- MEANING (after ISO 14649-10 and ISO 14649-11, by the table of entities): what the instances show that an executed step
-- leads to. Values are told by the order in which the row of an instance reads them, from 0.
use Rattle.std.specs.Prelude.{ℕ, pos, unsigned_abs, List, Option, Some, None, unwrap_or, option_map}
use Rattle.sn_entity.specs.declared.row.RowId.{RowId}
use Rattle.sn_entity.specs.declared.row.RowId.TheVariants as row
use Rattle.sn_entity.specs.declared.value.Triple.{Triple}
use Rattle.sn_entity.specs.Given.{num_at, triple_at, one_at, many_at}
use Rattle.sn_model.specs.ModelContent.{ModelContent, row_of_number}
use Rattle.sn_refs.specs.Target.{values_of}
use Rattle.sn_outline.specs.declared.job.Bottom.{Bottom}
use Rattle.sn_outline.specs.declared.job.Bottom.TheVariants.{Flat, Conical, Through}
use Rattle.sn_feature.specs.declared.entities.Workingstep.{Workingstep}
use Rattle.sn_feature.specs.declared.entities.Feature.{Feature}
use Rattle.sn_feature.specs.declared.entities.Form.{Form}
use Rattle.sn_feature.specs.declared.entities.Form.TheVariants as form
use Rattle.sn_feature.specs.declared.entities.Face.{Face}
use Rattle.sn_feature.specs.declared.entities.Pocket.{Pocket}
use Rattle.sn_feature.specs.declared.entities.Slot.{Slot}
use Rattle.sn_feature.specs.declared.entities.Hole.{Hole}
use Rattle.sn_feature.specs.declared.entities.LinearCourse.{LinearCourse}
use Rattle.sn_feature.specs.declared.entities.Rectangular.{Rectangular}
use Rattle.sn_feature.specs.declared.entities.Course.{Course}
use Rattle.sn_feature.specs.declared.entities.Course.TheVariants as course
use Rattle.sn_feature.specs.declared.entities.Profile.{Profile}
use Rattle.sn_feature.specs.declared.entities.Boundary.{Boundary}
use Rattle.sn_feature.specs.declared.entities.Boundary.TheVariants as boundary
use Rattle.sn_feature.specs.declared.entities.Operation.{Operation}
use Rattle.sn_feature.specs.declared.entities.Cutting.TheVariants as cutting
use Rattle.sn_feature.specs.declared.entities.Tool.{Tool}
use Rattle.sn_feature.specs.declared.entities.Task.{Task}
use Rattle.sn_feature.specs.declared.entities.Cutter.{Cutter}
use Rattle.sn_feature.specs.declared.entities.Cutter.TheVariants as cutter

-- Values.

-- the instance that is named, if one is
abbrev pub named_if : ModelContent → ℕ → ℕ → Option ℕ
named_if m n k = one_at (values_of n m) k

abbrev pub named : ModelContent → ℕ → ℕ → ℕ
named m n k = unwrap_or (named_if m n k) 0

-- the instances that are named in a list
abbrev pub listed : ModelContent → ℕ → ℕ → List ℕ
listed m n k = many_at (values_of n m) k

-- the size of the number that is given, if one is
abbrev pub amount_if : ModelContent → ℕ → ℕ → Option ℕ
amount_if m n k = option_map unsigned_abs (num_at (values_of n m) k)

-- the same, 0 where none is given
abbrev pub amount : ModelContent → ℕ → ℕ → ℕ
amount m n k = unwrap_or (amount_if m n k) 0

abbrev pub zero_triple : Triple
zero_triple = record { x = pos 0; y = pos 0; z = pos 0 }

-- the point or the direction that is given
abbrev pub triple : ModelContent → ℕ → ℕ → Triple
triple m n k = unwrap_or (triple_at (values_of n m) k) zero_triple

-- What a workingstep names.
unfoldable pub workingstep_of : ModelContent → ℕ → Workingstep
workingstep_of m n = record { security = named m n 0; feature = named m n 1; operation = named m n 2 }

-- Features.

unfoldable pub face_of : ModelContent → ℕ → Face
face_of m n = record { course = named m n 2; boundary = named m n 3 }

unfoldable pub pocket_of : ModelContent → ℕ → Pocket
pocket_of m n = record { bottom = named m n 4; planar_radius = named_if m n 5; orthogonal_radius = named_if m n 6; boundary = named m n 7 }

unfoldable pub slot_of : ModelContent → ℕ → Slot
slot_of m n = record { course = named m n 2; swept = named m n 3 }

unfoldable pub hole_of : ModelContent → ℕ → Hole
hole_of m n = record { diameter = named m n 2; bottom = named m n 4 }

-- what a feature shows by its row
abbrev pub form_from : Option RowId → ModelContent → ℕ → Form
form_from (Some row.PlanarFace) m n = form.Face (face_of m n)
form_from (Some row.ClosedPocket) m n = form.Pocket (pocket_of m n)
form_from (Some row.Slot) m n = form.Slot (slot_of m n)
form_from _ m n = form.Hole (hole_of m n)

unfoldable pub form_of : ModelContent → ℕ → Form
form_of m n = form_from (row_of_number n m) m n

unfoldable pub feature_of : ModelContent → ℕ → Feature
feature_of m n = record { placement = named m n 0; depth = named m n 1; form = form_of m n }

unfoldable pub linear_course_of : ModelContent → ℕ → LinearCourse
linear_course_of m n = record { distance = named m n 1; direction = named m n 2 }

-- a linear path or a polyline
abbrev pub course_from : Option RowId → ModelContent → ℕ → Course
course_from (Some row.LinearPath) m n = course.Linear (linear_course_of m n)
course_from _ m n = course.General (named m n 1)

unfoldable pub course_of : ModelContent → ℕ → Course
course_of m n = course_from (row_of_number n m) m n

unfoldable pub rectangular_of : ModelContent → ℕ → Rectangular
rectangular_of m n = record { width = named m n 1; length = named m n 2 }

abbrev pub boundary_from : Option RowId → ModelContent → ℕ → Boundary
boundary_from (Some row.GeneralClosedProfile) m n = boundary.General (named m n 1)
boundary_from (Some row.RectangularClosedProfile) m n = boundary.Rectangular (rectangular_of m n)
boundary_from _ m n = boundary.Circular (named m n 1)

unfoldable pub boundary_of : ModelContent → ℕ → Boundary
boundary_of m n = boundary_from (row_of_number n m) m n

-- a closed profile, with its placement, if it has one
unfoldable pub profile_of : ModelContent → ℕ → Profile
profile_of m n = record { placement = named_if m n 0; boundary = boundary_of m n }

-- what a TOLERANCED_LENGTH_MEASURE or a NUMERIC_PARAMETER gives, in tenths of a micrometre
unfoldable pub length_of : ModelContent → ℕ → ℕ
length_of m n = amount m n 0

-- the length of a LINEAR_PROFILE, and the width of a SQUARE_U_PROFILE
unfoldable pub profile_length_of : ModelContent → ℕ → ℕ
profile_length_of m n = length_of m (named m n 1)

-- the bottom of a hole or of a pocket
abbrev pub bottom_from : Option RowId → Bottom
bottom_from (Some row.ConicalHoleBottom) = Conical
bottom_from (Some row.ThroughBottomCondition) = Through
bottom_from (Some row.ThroughPocketBottomCondition) = Through
bottom_from _ = Flat

-- Operations and tools.

-- Depths of cut may lack. Milling in a plane has no side allowance, and drilling has no allowance at all.
unfoldable pub plane_milling : ModelContent → ℕ → Operation
plane_milling m n =
    record { cutting = cutting.Plane; tool = named m n 0; technology = named m n 1; axial = amount_if m n 2; radial = None; side = 0; under = amount m n 3 }

unfoldable pub side_milling : ModelContent → ℕ → Operation
side_milling m n =
    record { cutting = cutting.BottomAndSide; tool = named m n 0; technology = named m n 1; axial = amount_if m n 2; radial = amount_if m n 3; side = amount m n 4; under = amount m n 5 }

unfoldable pub drilling : ModelContent → ℕ → Operation
drilling m n =
    record { cutting = cutting.Drilling; tool = named m n 0; technology = named m n 1; axial = None; radial = None; side = 0; under = 0 }

abbrev pub operation_from : Option RowId → ModelContent → ℕ → Operation
operation_from (Some row.PlaneRoughMilling) m n = plane_milling m n
operation_from (Some row.PlaneFinishMilling) m n = plane_milling m n
operation_from (Some row.BottomAndSideRoughMilling) m n = side_milling m n
operation_from (Some row.BottomAndSideFinishMilling) m n = side_milling m n
operation_from _ m n = drilling m n

unfoldable pub operation_of : ModelContent → ℕ → Operation
operation_of m n = operation_from (row_of_number n m) m n

abbrev pub cutter_from : Option RowId → Cutter
cutter_from (Some row.TwistDrill) = cutter.TwistDrill
cutter_from _ = cutter.Endmill

-- the tool of a body and a dimension, and its overall length, if one is given
abbrev pub tool_by : ModelContent → ℕ → ℕ → Option ℕ → Tool
tool_by m body dimension length =
    record { cutter = cutter_from (row_of_number body m); diameter = amount m dimension 0; edge = amount m dimension 1; length = length }

unfoldable pub tool_of : ModelContent → ℕ → Tool
tool_of m n = tool_by m (named m n 0) (named m (named m n 0) 0) (amount_if m n 1)

-- in mm/min
unfoldable pub feed_of : ModelContent → ℕ → ℕ
feed_of m technology = amount m technology 0

-- in rev/min
unfoldable pub speed_of : ModelContent → ℕ → ℕ
speed_of m technology = amount m technology 1

-- what a workingstep leads to
unfoldable pub task_of : ModelContent → ℕ → Task
task_of m ws =
    let names = workingstep_of m ws in
    let operation = operation_of m names.operation in
    record { ws = ws; names = names; feature = feature_of m names.feature; operation = operation; tool = tool_of m operation.tool }
