-- MEANING: when an executed step is proper, and the rule that each job keeps (this project's own).
use Rattle.std.specs.Prelude.{◌≡◌, ◌↔◌, ℕ, ◌+◌, ◌*◌, ◌≤◌, ℤ, ◌≤ℤ◌, ◌<ℤ◌, List, length}
use Rattle.std.specs.List.{All, Any, Contains}
use Rattle.sn_geom.specs.declared.limits.TheConstants.{REACH, LEAST_PITCH, MOST_PITCH, LEAST_DIAMETER, MOST_DIAMETER, NO_DEPTH, MOST_RATE}
use Rattle.sn_geom.specs.declared.units.Body.{Body}
use Rattle.sn_geom.specs.declared.units.Pt3.{Pt3}
use Rattle.sn_geom.specs.Length.{IsLength}
use Rattle.sn_outline.specs.declared.outline.Shape.{Shape}
use Rattle.sn_outline.specs.declared.outline.Shape.TheVariants.{Rect, Circle, Polygon, Trail}
use Rattle.sn_outline.specs.declared.job.Way.{Way}
use Rattle.sn_outline.specs.declared.job.Way.TheVariants as way
use Rattle.sn_outline.specs.declared.job.StepJob.{StepJob}
use Rattle.sn_outline.specs.declared.limits.TheConstants.{MOST_STEPS}
use Rattle.sn_outline.specs.Job.{Job, tip_floor}

-- Steps.

-- a tool's body: its point is at most half its diameter long, where half is rounded up
pub record IsToolBody (body : Body) : Type 0 where
  pub at_least : LEAST_DIAMETER ≤ body.d
  pub at_most : body.d ≤ MOST_DIAMETER
  pub point : 2 * body.e ≤ body.d + 1

-- the side and the bottom allowance and the corner diameter are within their limits
pub record HasAllowances (step : StepJob) : Type 0 where
  pub side : step.side ≤ REACH
  pub under : step.under ≤ REACH
  pub corner : step.corner ≤ 2 * REACH

-- the depths of cut are within their limits; NO_DEPTH stands where the part gives no axial one
pub record HasDepths (step : StepJob) : Type 0 where
  pub axial_at_least : 1 ≤ step.axial
  pub axial_at_most : step.axial ≤ NO_DEPTH
  pub radial : step.radial ≤ step.body.d

-- the heights of the feature and of the lowest tip are lengths, and the floor is not above the top
pub record HasHeights (step : StepJob) : Type 0 where
  pub top : IsLength step.top
  pub floor : IsLength step.floor
  pub tip : IsLength (tip_floor step)
  pub floor_below_top : step.floor ≤ℤ step.top

-- a feed in mm/min or a speed in rev/min
pub record IsRate (rate : ℕ) : Type 0 where
  pub at_least : 1 ≤ rate
  pub at_most : rate ≤ MOST_RATE

-- a diameter or a width of the shape is a length
abbrev pub HasSize : Shape → Type 0
HasSize (Rect low high) = Unit {0}
HasSize (Circle centre d) = d ≤ REACH
HasSize (Polygon points) = Unit {0}
HasSize (Trail points width) = width ≤ REACH

abbrev pub IsCircle : Shape → Type 0
IsCircle (Rect low high) = ⊥
IsCircle (Circle centre d) = Unit {0}
IsCircle (Polygon points) = ⊥
IsCircle (Trail points width) = ⊥

-- a trail of this width with a segment
abbrev pub IsTrailOf : ℕ → Shape → Type 0
IsTrailOf w (Rect low high) = ⊥
IsTrailOf w (Circle centre d) = ⊥
IsTrailOf w (Polygon points) = ⊥
IsTrailOf w (Trail points width) = (2 ≤ length points) × (width ≡ w)

-- what the way asks of the shape: a hole is drilled, and along a trail goes a tool that is as wide as the trail
-- without its side allowances
abbrev pub IsShapeFor : Way → ℕ → Shape → Type 0
IsShapeFor way.Clear w shape = Unit {0}
IsShapeFor way.Trail w shape = IsTrailOf w shape
IsShapeFor way.Drill w shape = IsCircle shape

-- a proper step
pub record IsProper (step : StepJob) : Type 0 where
  pub numbered : 1 ≤ step.ws
  pub body : IsToolBody step.body
  pub allowances : HasAllowances step
  pub depths : HasDepths step
  pub heights : HasHeights step
  pub rates : IsRate step.feed × IsRate step.speed
  pub size : HasSize step.outline.shape
  pub shape : IsShapeFor step.way (step.body.d + 2 * step.side) step.outline.shape

-- Jobs.

pub record IsPitch (pitch : ℕ) : Type 0 where
  pub at_least : LEAST_PITCH ≤ pitch
  pub at_most : pitch ≤ MOST_PITCH

-- low is the low and high the high corner of a box that is not flat
pub record AreCorners (low high : Pt3) : Type 0 where
  pub x : low.x <ℤ high.x
  pub y : low.y <ℤ high.y
  pub z : low.z <ℤ high.z

-- the numbers of the tools that the steps use are those from 1 to the count of tools
abbrev pub AreNumbered : List StepJob → ℕ → Type 0
AreNumbered steps count = (k : ℕ) → Any (λ s. s.tool ≡ k) steps ↔ ((1 ≤ k) × (k ≤ count))

-- steps of one tool have one body
abbrev pub HaveOneBody : List StepJob → Type 0
HaveOneBody steps = (s t : StepJob) → Contains steps s → Contains steps t → s.tool ≡ t.tool → s.body ≡ t.body

-- two steps cut the same feature
pub record IsSameFeature (s t : StepJob) : Type 0 where
  pub outline : s.outline ≡ t.outline
  pub top : s.top ≡ t.top
  pub floor : s.floor ≡ t.floor
  pub bottom : s.bottom ≡ t.bottom
  pub corner : s.corner ≡ t.corner

-- steps of one feature have one outline, top, floor, bottom and corner
abbrev pub HaveOneFeature : List StepJob → Type 0
HaveOneFeature steps = (s t : StepJob) → Contains steps s → Contains steps t → s.feature ≡ t.feature → IsSameFeature s t

-- the security height is a length, and not below the raw box
pub record IsSecurityHeight (sec top : ℤ) : Type 0 where
  pub length : IsLength sec
  pub above : top ≤ℤ sec

-- the steps of a job with a count of tools
pub record KeepRule (steps : List StepJob) (tools : ℕ) : Type 0 where
  pub few : length steps ≤ MOST_STEPS
  pub numbered : AreNumbered steps tools
  pub bodies : HaveOneBody steps
  pub features : HaveOneFeature steps
  pub proper : All IsProper steps

pub record IsJob (job : Job) : Type 0 where
  pub pitch : IsPitch job.pitch
  pub raw_box : AreCorners job.low job.high
  pub security : IsSecurityHeight job.sec job.high.z
  pub few_steps : length job.steps ≤ MOST_STEPS
  pub tools : AreNumbered job.steps (length job.tools)
  pub bodies : HaveOneBody job.steps
  pub features : HaveOneFeature job.steps
  pub proper : All IsProper job.steps
