-- Laws of steps and of their refusals (this project's own).
use Rattle.std.specs.Prelude.{◌≡◌, ◌≢◌, ℕ, ◌≤◌, ◌*◌, ◌+◌, true, false, ℤ, pos, ◌+ℤ◌, ◌-ℤ◌, ◌≤ℤ◌, ◌<ℤ◌, Some, Ok, Err}
use Rattle.std.specs.List.{Contains}
use Rattle.sn_geom.specs.declared.units.Pt.{Pt}
use Rattle.sn_geom.specs.Length.{IsLength}
use Rattle.sn_model.specs.ModelContent.{ModelContent}
use Rattle.sn_frame.specs.declared.frame.FrameFault.{FrameFault}
use Rattle.sn_frame.specs.declared.frame.FrameFault.TheVariants.{Skew, OutOfRange}
use Rattle.sn_frame.specs.Frame.{Transform, composed, is_axis, is_in_range, is_skew, is_upright}
use Rattle.sn_outline.specs.declared.outline.Shape.{Shape}
use Rattle.sn_feature.specs.declared.entities.Cutter.TheVariants.{TwistDrill}
use Rattle.sn_feature.specs.declared.entities.Feature.{Feature}
use Rattle.sn_feature.specs.declared.entities.Task.{Task}
use Rattle.sn_feature.specs.declared.entities.Tool.{Tool}
use Rattle.sn_feature.specs.declared.fault.StepFault.TheVariants.{Frame, Depth, BadOutline, WrongTool, ShortTool, Memory}
use Rattle.sn_feature.specs.declared.parts.PlacedFeature.{PlacedFeature}
use Rattle.sn_feature.specs.declared.parts.StepParts.{StepParts}
use Rattle.sn_feature.specs.declared.site.Site.{Site}
use Rattle.sn_feature.specs.Entities.{workingstep_of, feature_of, operation_of, tool_of}
use Rattle.sn_feature.specs.Outline.{sketch_of, is_bad_outline, lands_in_range, outline_points, shape_at, path_direction, straight_path, profile_placement, site_of, outline_site}
use Rattle.sn_feature.specs.Placement.{axis_of, reference_of, placement_of, ratios, upright_frame, plane_height}
use Rattle.sn_feature.specs.Step.{placed_feature, parts_of, lowest_tip, step_by, step_of}
use Rattle.sn_feature.specs.Tooling.{point_length, is_wrong_tool}

-- Steps.

-- the parts tell the workingstep, and the feature and the tool that it names
pub record IsStepOf (m : ModelContent) (n : ℕ) (p : StepParts) : Type 0 where
  pub ws : p.ws ≡ n
  pub feature : p.feature ≡ (workingstep_of m n).feature
  pub tool : p.tool ≡ (operation_of m (workingstep_of m n).operation).tool
  pub floor : p.floor ≡ (p.top +ℤ plane_height m (feature_of m p.feature).depth)

abbrev pub PartsTell : Type 0
PartsTell = (m : ModelContent) (w : Transform) (raw_top : ℤ) (ws : ℕ) (p : StepParts) → step_of m w raw_top ws ≡ Ok p → IsStepOf m ws p

-- what steps of one feature have in common
pub record IsSamePlace (p q : StepParts) : Type 0 where
  pub outline : p.outline ≡ q.outline
  pub top : p.top ≡ q.top
  pub floor : p.floor ≡ q.floor
  pub bottom : p.bottom ≡ q.bottom
  pub corner : p.corner ≡ q.corner

-- steps of one feature cut it at one place, and steps with one tool have one body
pub record StepsAgree : Type 0 where
  pub feature : (m : ModelContent) (w : Transform) (raw_top : ℤ) (a b : ℕ) (p q : StepParts) → step_of m w raw_top a ≡ Ok p → step_of m w raw_top b ≡ Ok q → p.feature ≡ q.feature → IsSamePlace p q
  pub tool : (m : ModelContent) (w : Transform) (raw_top : ℤ) (a b : ℕ) (p q : StepParts) → step_of m w raw_top a ≡ Ok p → step_of m w raw_top b ≡ Ok q → p.tool ≡ q.tool → p.body ≡ q.body

-- want of memory is no refusal of a workingstep
abbrev pub NeverMemory : Type 0
NeverMemory = (m : ModelContent) (w : Transform) (raw_top : ℤ) (ws : ℕ) → step_of m w raw_top ws ≢ Err Memory

-- the tip stays in the range, the floor is not above the top, the outline is good, and the tool is right and long enough
pub record IsFit (m : ModelContent) (raw_top : ℤ) (ws : ℕ) (p : StepParts) : Type 0 where
  pub tip : IsLength (lowest_tip p)
  pub depth : p.floor ≤ℤ p.top
  pub outline : is_bad_outline m (feature_of m p.feature).form ≡ false
  pub tool : is_wrong_tool (feature_of m p.feature).form (operation_of m (workingstep_of m ws).operation) (tool_of m p.tool) ≡ false
  pub length : (l : ℕ) → (tool_of m p.tool).length ≡ Some l → (raw_top -ℤ lowest_tip p) ≤ℤ pos l

abbrev pub StepsAreFit : Type 0
StepsAreFit = (m : ModelContent) (w : Transform) (raw_top : ℤ) (ws : ℕ) (p : StepParts) → step_of m w raw_top ws ≡ Ok p → IsFit m raw_top ws p

-- a drill's point is half its diameter long, rounded up
abbrev pub PointOfDrill : Type 0
PointOfDrill = (t : Tool) → t.cutter ≡ TwistDrill → (t.diameter ≤ 2 * point_length t) × (2 * point_length t ≤ t.diameter + 1)

-- The faults of frames in their order, each where the ones before it do not come. A step has the first of its feature.
pub record FrameFaultsInOrder (m : ModelContent) (w : Transform) (f : Feature) : Type 0 where
  -- the feature's placement is skew
  pub skew : is_skew (axis_of m f.placement) (reference_of m f.placement) ≡ true → placed_feature m w f ≡ Err (Skew f.placement)
  -- its frame leaves the range
  pub range : (inner : Transform) → placement_of m f.placement ≡ Ok inner → is_in_range (composed w inner).shift ≡ false → placed_feature m w f ≡ Err (OutOfRange f.placement)
  -- its frame turns +Z elsewhere
  pub upright : (inner : Transform) → placement_of m f.placement ≡ Ok inner → is_in_range (composed w inner).shift ≡ true → is_upright (composed w inner) ≡ false → placed_feature m w f ≡ Err (Skew f.placement)
  -- the direction of its path is no axis
  pub path : (frame : Transform) (n : ℕ) → upright_frame m w f.placement ≡ Ok frame → path_direction m f.form ≡ Some n → is_axis (ratios m n) ≡ false → placed_feature m w f ≡ Err (Skew n)
  -- the placement of its profile is skew, leaves the range or turns +Z elsewhere
  pub profile : (frame : Transform) (n : ℕ) (why : FrameFault) → upright_frame m w f.placement ≡ Ok frame → straight_path m f.form ≡ Ok tt → profile_placement m f.form ≡ Some n → upright_frame m frame n ≡ Err why → placed_feature m w f ≡ Err why
  -- a point of its outline leaves the range
  pub point : (frame : Transform) (site : Site) (p : Pt) → upright_frame m w f.placement ≡ Ok frame → straight_path m f.form ≡ Ok tt → outline_site m (site_of frame f.placement) f.form ≡ Ok site → Contains (outline_points (sketch_of m f.form)) p → lands_in_range site.frame p ≡ false → placed_feature m w f ≡ Err (OutOfRange site.placement)
  -- its floor leaves the range
  pub floor : (frame : Transform) (site : Site) (s : Shape) → upright_frame m w f.placement ≡ Ok frame → straight_path m f.form ≡ Ok tt → outline_site m (site_of frame f.placement) f.form ≡ Ok site → shape_at site (sketch_of m f.form) ≡ Ok s → ¬ IsLength (frame.shift.z +ℤ plane_height m f.depth) → placed_feature m w f ≡ Err (OutOfRange f.placement)

-- The refusals of a workingstep whose feature stands in the setup, each where the ones before it do not come.
pub record RefusalsInOrder (m : ModelContent) (w : Transform) (raw_top : ℤ) (t : Task) (p : StepParts) : Type 0 where
  -- the lowest tip leaves the range
  pub tip : ¬ IsLength (lowest_tip p) → step_by m w raw_top t ≡ Err (Frame (OutOfRange t.feature.placement))
  -- the floor is above the top
  pub depth : IsLength (lowest_tip p) → p.top <ℤ p.floor → step_by m w raw_top t ≡ Err (Depth t.names.feature)
  -- the outline is bad
  pub outline : IsLength (lowest_tip p) → p.floor ≤ℤ p.top → is_bad_outline m t.feature.form ≡ true → step_by m w raw_top t ≡ Err (BadOutline t.names.feature)
  -- the tool is wrong
  pub tool : IsLength (lowest_tip p) → p.floor ≤ℤ p.top → is_bad_outline m t.feature.form ≡ false → is_wrong_tool t.feature.form t.operation t.tool ≡ true → step_by m w raw_top t ≡ Err (WrongTool t.ws)
  -- the tool is too short
  pub short : (l : ℕ) → IsLength (lowest_tip p) → p.floor ≤ℤ p.top → is_bad_outline m t.feature.form ≡ false → is_wrong_tool t.feature.form t.operation t.tool ≡ false → t.tool.length ≡ Some l → pos l <ℤ (raw_top -ℤ lowest_tip p) → step_by m w raw_top t ≡ Err (ShortTool t.ws)

abbrev pub FaultsInOrder : Type 0
FaultsInOrder =
    ((m : ModelContent) (w : Transform) (f : Feature) → FrameFaultsInOrder m w f)
    × ((m : ModelContent) (w : Transform) (raw_top : ℤ) (t : Task) (why : FrameFault) → placed_feature m w t.feature ≡ Err why → step_by m w raw_top t ≡ Err (Frame why))
    × ((m : ModelContent) (w : Transform) (raw_top : ℤ) (t : Task) (placed : PlacedFeature) → placed_feature m w t.feature ≡ Ok placed → RefusalsInOrder m w raw_top t (parts_of m t placed))
