-- MEANING (this project's own): each row of the groups that a step leads to has a form, a bottom, a way of cutting or a cutter.
use Rattle.std.specs.Prelude.{ℕ, Some}
use Rattle.sn_entity.specs.declared.row.Group.TheVariants as group
use Rattle.sn_entity.specs.declared.row.RowId.{RowId}
use Rattle.sn_entity.specs.declared.row.RowId.TheVariants as row
use Rattle.sn_entity.specs.Table.{IsInGroup}
use Rattle.sn_model.specs.ModelContent.{ModelContent}
use Rattle.sn_outline.specs.declared.job.Bottom.{Bottom}
use Rattle.sn_outline.specs.declared.job.Bottom.TheVariants.{Flat, Conical, Through}
use Rattle.sn_feature.specs.declared.entities.Form.{Form}
use Rattle.sn_feature.specs.declared.entities.Form.TheVariants as form
use Rattle.sn_feature.specs.declared.entities.Course.{Course}
use Rattle.sn_feature.specs.declared.entities.Course.TheVariants as course
use Rattle.sn_feature.specs.declared.entities.Boundary.{Boundary}
use Rattle.sn_feature.specs.declared.entities.Boundary.TheVariants as boundary
use Rattle.sn_feature.specs.declared.entities.Cutting.{Cutting}
use Rattle.sn_feature.specs.declared.entities.Cutting.TheVariants as cutting
use Rattle.sn_feature.specs.declared.entities.Cutter.{Cutter}
use Rattle.sn_feature.specs.declared.entities.Cutter.TheVariants as cutter
use Rattle.sn_feature.specs.Entities.{form_from, course_from, boundary_from, bottom_from, operation_from, cutter_from}

-- What is that of a row. A row that is not named here has none.

abbrev pub IsFormOf : RowId → Form → Type 0
IsFormOf row.PlanarFace (form.Face f) = Unit {0}
IsFormOf row.ClosedPocket (form.Pocket p) = Unit {0}
IsFormOf row.Slot (form.Slot s) = Unit {0}
IsFormOf row.RoundHole (form.Hole h) = Unit {0}
IsFormOf _ _ = ⊥

abbrev pub IsCourseOf : RowId → Course → Type 0
IsCourseOf row.LinearPath (course.Linear c) = Unit {0}
IsCourseOf row.GeneralPath (course.General n) = Unit {0}
IsCourseOf _ _ = ⊥

abbrev pub IsBoundaryOf : RowId → Boundary → Type 0
IsBoundaryOf row.GeneralClosedProfile (boundary.General n) = Unit {0}
IsBoundaryOf row.RectangularClosedProfile (boundary.Rectangular r) = Unit {0}
IsBoundaryOf row.CircularClosedProfile (boundary.Circular n) = Unit {0}
IsBoundaryOf _ _ = ⊥

abbrev pub IsBottomOf : RowId → Bottom → Type 0
IsBottomOf row.FlatHoleBottom Flat = Unit {0}
IsBottomOf row.ConicalHoleBottom Conical = Unit {0}
IsBottomOf row.ThroughBottomCondition Through = Unit {0}
IsBottomOf row.PlanarPocketBottomCondition Flat = Unit {0}
IsBottomOf row.ThroughPocketBottomCondition Through = Unit {0}
IsBottomOf _ _ = ⊥

abbrev pub IsCuttingOf : RowId → Cutting → Type 0
IsCuttingOf row.PlaneRoughMilling cutting.Plane = Unit {0}
IsCuttingOf row.PlaneFinishMilling cutting.Plane = Unit {0}
IsCuttingOf row.BottomAndSideRoughMilling cutting.BottomAndSide = Unit {0}
IsCuttingOf row.BottomAndSideFinishMilling cutting.BottomAndSide = Unit {0}
IsCuttingOf row.Drilling cutting.Drilling = Unit {0}
IsCuttingOf _ _ = ⊥

abbrev pub IsCutterOf : RowId → Cutter → Type 0
IsCutterOf row.Endmill cutter.Endmill = Unit {0}
IsCutterOf row.TwistDrill cutter.TwistDrill = Unit {0}
IsCutterOf _ _ = ⊥

-- each row of a group has its own
pub record RowsHaveForms : Type 0 where
  pub features : (m : ModelContent) (n : ℕ) (id : RowId) → IsInGroup group.Feat id → IsFormOf id (form_from (Some id) m n)
  pub paths : (m : ModelContent) (n : ℕ) (id : RowId) → IsInGroup group.Path id → IsCourseOf id (course_from (Some id) m n)
  pub profiles : (m : ModelContent) (n : ℕ) (id : RowId) → IsInGroup group.Prof id → IsBoundaryOf id (boundary_from (Some id) m n)
  pub hole_bottoms : (id : RowId) → IsInGroup group.Hbot id → IsBottomOf id (bottom_from (Some id))
  pub pocket_bottoms : (id : RowId) → IsInGroup group.Pbot id → IsBottomOf id (bottom_from (Some id))
  pub operations : (m : ModelContent) (n : ℕ) (id : RowId) → IsInGroup group.Op id → IsCuttingOf id (operation_from (Some id) m n).cutting
  pub bodies : (id : RowId) → IsInGroup group.Body id → IsCutterOf id (cutter_from (Some id))
