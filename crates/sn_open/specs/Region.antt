-- MEANING: the regions of a job and of its steps: sets of nodes and of cells, over the whole plane (this project's own).
use Rattle.std.specs.Prelude.{◌≡◌, ℕ, ◌*◌, ◌≤◌, ℤ, pos, ◌+ℤ◌, ◌-ℤ◌, ◌≤ℤ◌, ◌<ℤ◌, unsigned_abs, Contains}
use Rattle.sn_geom.specs.declared.units.Pt.{Pt}
use Rattle.sn_geom.specs.declared.units.Cell.{Cell}
use Rattle.sn_outline.specs.declared.job.StepJob.{StepJob}
use Rattle.sn_outline.specs.declared.job.Bottom.TheVariants.{Flat, Conical, Through}
use Rattle.sn_outline.specs.declared.job.Way.TheVariants as way
use Rattle.sn_outline.specs.declared.outline.Outline.{Outline}
use Rattle.sn_outline.specs.declared.outline.Shape.{Shape}
use Rattle.sn_outline.specs.declared.outline.Shape.TheVariants.{Rect, Circle, Polygon, Trail}
use Rattle.sn_outline.specs.Job.{Job, tip_floor}
use Rattle.sn_outline.specs.Outline.{InOutline, NearTrail}
use Rattle.sn_raster.specs.Grid.{Node, Nodes, place, InDisc, IsRawNode}
use Rattle.sn_raster.specs.Heights.{node_of, IsRawCell}

-- the nodes in the outline, and all nodes outside the raw rectangle
abbrev pub InOutlineOrOutside : Job → Outline → Nodes
InOutlineOrOutside job outline n = IsRawNode job n → InOutline outline (place job.pitch n)

-- the nodes whose disc of twice the side allowance lies in the outline or outside
abbrev pub KeepsSide : Job → Outline → ℕ → Nodes
KeepsSide job outline side q = (n : Node) → InDisc job.pitch (2 * side) (place job.pitch q) n → InOutlineOrOutside job outline n

-- the nodes over which a step may cut
abbrev pub InAllowed : Job → StepJob → Nodes
InAllowed job step = KeepsSide job step.outline step.side

-- the heights at which a step may cut: all of them where it goes through
abbrev pub IsAllowedHeight : StepJob → ℤ → Type 0
IsAllowedHeight step z = elim step.bottom [
  | Flat ↦ tip_floor step ≤ℤ z
  | Conical ↦ tip_floor step ≤ℤ z
  | Through ↦ Unit {0}
]

-- the cells that a step may cut
pub record IsAllowed (job : Job) (step : StepJob) (c : Cell) : Type 0 where
  pub node : InAllowed job step (node_of c)
  pub height : IsAllowedHeight step c.z

-- the step may cut over all nodes of the disc of its tool about the point
abbrev pub HasRoom : Job → StepJob → Pt → Type 0
HasRoom job step p = (n : Node) → InDisc job.pitch step.body.d p n → InAllowed job step n

-- the nodes at which the whole tool is over allowed nodes
abbrev pub IsFreeCentre : Job → StepJob → Nodes
IsFreeCentre job step c = HasRoom job step (place job.pitch c)

-- the nodes that a drill at a point opens: its disc, and none where a node of it is not allowed
pub record IsDrilled (job : Job) (step : StepJob) (centre : Pt) (n : Node) : Type 0 where
  pub under : InDisc job.pitch step.body.d centre n
  pub free : HasRoom job step centre

-- the nodes that a step at the centre of its outline opens; only a circle has one
abbrev pub IsDrilledAtCentre : Job → StepJob → Shape → Nodes
IsDrilledAtCentre job step (Rect low high) n = ⊥
IsDrilledAtCentre job step (Circle centre d) n = IsDrilled job step centre n
IsDrilledAtCentre job step (Polygon points) n = ⊥
IsDrilledAtCentre job step (Trail points width) n = ⊥

-- the nodes of a grid of this pitch within half the tool's diameter of the trail of the outline; only a trail has one
abbrev pub IsFollowedAt : ℕ → StepJob → Shape → Nodes
IsFollowedAt pitch step (Rect low high) n = ⊥
IsFollowedAt pitch step (Circle centre d) n = ⊥
IsFollowedAt pitch step (Polygon points) n = ⊥
IsFollowedAt pitch step (Trail points width) n = NearTrail points step.body.d (place pitch n)

abbrev pub IsFollowed : Job → StepJob → Shape → Nodes
IsFollowed job = IsFollowedAt job.pitch

-- the nodes that a step can open, by its way
abbrev pub IsReached : Job → StepJob → Nodes
IsReached job step n = elim step.way [
  | way.Clear ↦ (c : Node) × IsFreeCentre job step c × InDisc job.pitch step.body.d (place job.pitch c) n
  | way.Trail ↦ IsFollowed job step step.outline.shape n
  | way.Drill ↦ IsDrilledAtCentre job step step.outline.shape n
]

-- the opening of a step: raw nodes alone
pub record IsOpening (job : Job) (step : StepJob) (n : Node) : Type 0 where
  pub raw : IsRawNode job n
  pub reached : IsReached job step n

-- an executed step of a feature
pub record IsStepOf (job : Job) (feature : ℕ) (step : StepJob) : Type 0 where
  pub executed : Contains job.steps step
  pub cuts : step.feature ≡ feature

-- The step has the least side allowance of its feature's executed steps.
pub record HasLeastSide (job : Job) (feature : ℕ) (step : StepJob) : Type 0 where
  pub of_feature : IsStepOf job feature step
  pub least : (other : StepJob) → IsStepOf job feature other → step.side ≤ other.side

-- The step has the least bottom allowance of its feature's executed steps.
pub record HasLeastUnder (job : Job) (feature : ℕ) (step : StepJob) : Type 0 where
  pub of_feature : IsStepOf job feature step
  pub least : (other : StepJob) → IsStepOf job feature other → step.under ≤ other.under

-- the allowed nodes, their corners as round as the corner diameter asks: the discs of that diameter which lie in them
abbrev pub InRounded : Job → StepJob → Nodes
InRounded job step q = (c : Node) × InDisc job.pitch step.corner (place job.pitch c) q
    × ((n : Node) → InDisc job.pitch step.corner (place job.pitch c) n → InAllowed job step n)

-- m is at most two columns and two rows from n
pub record InBlock (n m : Node) : Type 0 where
  pub columns : unsigned_abs (m.i -ℤ n.i) ≤ 2
  pub rows : unsigned_abs (m.j -ℤ n.j) ≤ 2

-- the raw nodes about which the raw nodes of the five by five block are all in the rounded nodes of the step
pub record IsRequiredBy (job : Job) (step : StepJob) (n : Node) : Type 0 where
  pub raw : IsRawNode job n
  pub block : (m : Node) → InBlock n m → IsRawNode job m → InRounded job step m

-- the nodes over which a feature has to be cut
abbrev pub IsRequiredNode : Job → ℕ → Nodes
IsRequiredNode job feature n = (step : StepJob) × HasLeastSide job feature step × IsRequiredBy job step n

-- the heights at which a feature has to be cut: from its floor with the least bottom allowance up to its top
pub record IsRequiredHeight (step : StepJob) (z : ℤ) : Type 0 where
  pub above : (step.floor +ℤ pos step.under) ≤ℤ z
  pub below : z <ℤ step.top

-- the cells of a feature that have to be cut
pub record IsRequiredCell (job : Job) (feature : ℕ) (c : Cell) : Type 0 where
  pub raw : IsRawCell job c
  pub node : IsRequiredNode job feature (node_of c)
  pub deepest : StepJob
  pub least : HasLeastUnder job feature deepest
  pub height : IsRequiredHeight deepest c.z
