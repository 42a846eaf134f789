-- PRIVATE: what the instances lead to that a step reads, and the limits of what they give.
use Rattle.std.specs.Prelude.{◌≡◌, ℕ, ◌<◌, ◌≤◌, ◌⊎◌, length, Option, Some, None, IfSome}
use Rattle.sn_geom.specs.declared.limits.TheConstants.{REACH, LEAST_DIAMETER, MOST_DIAMETER}
use Rattle.sn_entity.specs.declared.row.Group.TheVariants as group
use Rattle.sn_entity.specs.declared.row.Kind.TheVariants.{L0}
use Rattle.sn_entity.specs.declared.row.Read.{Read}
use Rattle.sn_entity.specs.declared.row.RowId.TheVariants as row
use Rattle.sn_model.specs.ModelContent.{ModelContent}
use Rattle.sn_refs.specs.Target.{IsTarget}
use Rattle.sn_feature.specs.declared.entities.Boundary.{Boundary}
use Rattle.sn_feature.specs.declared.entities.Boundary.TheVariants as boundary
use Rattle.sn_feature.specs.declared.entities.Course.{Course}
use Rattle.sn_feature.specs.declared.entities.Course.TheVariants as course
use Rattle.sn_feature.specs.declared.entities.Face.{Face}
use Rattle.sn_feature.specs.declared.entities.Form.{Form}
use Rattle.sn_feature.specs.declared.entities.Form.TheVariants as form
use Rattle.sn_feature.specs.declared.entities.Hole.{Hole}
use Rattle.sn_feature.specs.declared.entities.LinearCourse.{LinearCourse}
use Rattle.sn_feature.specs.declared.entities.Operation.{Operation}
use Rattle.sn_feature.specs.declared.entities.Pocket.{Pocket}
use Rattle.sn_feature.specs.declared.entities.Rectangular.{Rectangular}
use Rattle.sn_feature.specs.declared.entities.Slot.{Slot}
use Rattle.sn_feature.specs.declared.entities.Task.{Task}
use Rattle.sn_feature.specs.declared.entities.Tool.{Tool}
use Rattle.sn_feature.specs.declared.entities.Workingstep.{Workingstep}
use Rattle.sn_feature.specs.declared.sketch.Sketch.{Sketch}
use Rattle.sn_feature.specs.declared.sketch.Sketch.TheVariants.{Rectangle, Circle, Polygon, Trail}

pub record LeadsWorkingstep (m : ModelContent) (s : Workingstep) : Type 0 where
  pub security : IsTarget m group.Surf s.security
  pub feature : IsTarget m group.Feat s.feature
  pub operation : IsTarget m group.Op s.operation

pub record LeadsFace (m : ModelContent) (f : Face) : Type 0 where
  pub course : IsTarget m (group.One row.LinearPath) f.course
  pub boundary : IsTarget m (group.One row.LinearProfile) f.boundary

pub record LeadsPocket (m : ModelContent) (p : Pocket) : Type 0 where
  pub bottom : IsTarget m group.Pbot p.bottom
  pub planar_radius : IfSome p.planar_radius (IsTarget m (group.One row.TolerancedLengthMeasure))
  pub orthogonal_radius : IfSome p.orthogonal_radius (IsTarget m (group.One row.TolerancedLengthMeasure))
  pub boundary : IsTarget m group.Prof p.boundary

pub record LeadsSlot (m : ModelContent) (s : Slot) : Type 0 where
  pub course : IsTarget m group.Path s.course
  pub swept : IsTarget m (group.One row.SquareUProfile) s.swept

pub record LeadsHole (m : ModelContent) (h : Hole) : Type 0 where
  pub diameter : IsTarget m group.Len h.diameter
  pub bottom : IsTarget m group.Hbot h.bottom

abbrev pub LeadsForm : ModelContent → Form → Type 0
LeadsForm m (form.Face f) = LeadsFace m f
LeadsForm m (form.Pocket p) = LeadsPocket m p
LeadsForm m (form.Slot s) = LeadsSlot m s
LeadsForm m (form.Hole h) = LeadsHole m h

pub record LeadsLinearCourse (m : ModelContent) (c : LinearCourse) : Type 0 where
  pub distance : IsTarget m group.Len c.distance
  pub direction : IsTarget m (group.One row.Direction) c.direction

abbrev pub LeadsCourse : ModelContent → Course → Type 0
LeadsCourse m (course.Linear c) = LeadsLinearCourse m c
LeadsCourse m (course.General n) = IsTarget m (group.One row.Polyline) n

pub record LeadsRectangular (m : ModelContent) (r : Rectangular) : Type 0 where
  pub width : IsTarget m group.Len r.width
  pub length : IsTarget m group.Len r.length

abbrev pub LeadsBoundary : ModelContent → Boundary → Type 0
LeadsBoundary m (boundary.General n) = IsTarget m (group.One row.Polyline) n
LeadsBoundary m (boundary.Rectangular r) = LeadsRectangular m r
LeadsBoundary m (boundary.Circular n) = IsTarget m group.Len n

-- a profile with one length
abbrev pub IsLinearProfile : ModelContent → ℕ → Type 0
IsLinearProfile m n = IsTarget m (group.One row.LinearProfile) n ⊎ IsTarget m (group.One row.SquareUProfile) n

abbrev pub IsPlaneMilling : ModelContent → ℕ → Type 0
IsPlaneMilling m n = IsTarget m (group.One row.PlaneRoughMilling) n ⊎ IsTarget m (group.One row.PlaneFinishMilling) n

abbrev pub IsSideMilling : ModelContent → ℕ → Type 0
IsSideMilling m n = IsTarget m (group.One row.BottomAndSideRoughMilling) n ⊎ IsTarget m (group.One row.BottomAndSideFinishMilling) n

-- a length from 0 is read
abbrev pub IsAllowance : Option Read → Type 0
IsAllowance (Some r) = r.kind ≡ L0
IsAllowance None = ⊥

pub record LeadsOperation (m : ModelContent) (o : Operation) : Type 0 where
  pub tool : IsTarget m group.Tool o.tool
  pub technology : IsTarget m (group.One row.MillingTechnology) o.technology
  pub axial : IfSome o.axial (λ z. (1 ≤ z) × (z ≤ REACH))
  pub side : o.side ≤ REACH
  pub under : o.under ≤ REACH

-- the diameter of a tool is within its limits
pub record HasDiameter (t : Tool) : Type 0 where
  pub at_least : LEAST_DIAMETER ≤ t.diameter
  pub at_most : t.diameter ≤ MOST_DIAMETER

pub record LeadsTask (m : ModelContent) (t : Task) : Type 0 where
  pub numbered : 0 < t.ws
  pub security : IsTarget m group.Surf t.names.security
  pub placement : IsTarget m (group.One row.Axis2Placement3d) t.feature.placement
  pub depth : IsTarget m group.Surf t.feature.depth
  pub form : LeadsForm m t.feature.form
  pub operation : LeadsOperation m t.operation
  pub diameter : HasDiameter t.tool

-- the diameter or the width of the outline is a length
abbrev pub IsSized : Sketch → Type 0
IsSized (Rectangle a b) = Unit {0}
IsSized (Circle d) = d ≤ REACH
IsSized (Polygon ps) = Unit {0}
IsSized (Trail ps width) = width ≤ REACH

-- the corners of a polygon
abbrev pub corner_count : Sketch → ℕ
corner_count (Rectangle a b) = 0
corner_count (Circle d) = 0
corner_count (Polygon ps) = length ps
corner_count (Trail ps width) = 0
