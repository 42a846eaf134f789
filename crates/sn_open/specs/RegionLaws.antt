-- Laws of where a step may cut, what it opens, and what has to be cut.
use Rattle.std.specs.Prelude.{◌≡◌, ◌↔◌, ◌+◌, ◌*◌, ◌/◌, ◌≤◌, ◌<◌, ◌+ℤ◌, ◌-ℤ◌, ◌≤ℤ◌, ◌<ℤ◌, ◌∷◌, ℕ, ℤ, pos, neg_ℤ, [], Contains}
use Rattle.sn_geom.specs.declared.limits.TheConstants.{PER_MM}
use Rattle.sn_geom.specs.declared.units.Pt.{Pt}
use Rattle.sn_geom.specs.declared.units.Cell.{Cell}
use Rattle.sn_geom.specs.Sweep.{Near, square}
use Rattle.sn_outline.specs.Job.{Job, tip_floor}
use Rattle.sn_outline.specs.declared.job.StepJob.{StepJob}
use Rattle.sn_outline.specs.declared.job.Bottom.{Bottom}
use Rattle.sn_outline.specs.declared.job.Bottom.TheVariants.{Flat, Conical, Through}
use Rattle.sn_outline.specs.declared.outline.Shape.TheVariants.{Circle, Trail}
use Rattle.sn_outline.specs.Outline.{InOutline}
use Rattle.sn_raster.specs.Grid.{Node, place, InDisc, IsRawNode}
use Rattle.sn_raster.specs.Heights.{node_of, IsRawCell}
use Rattle.sn_open.specs.Region.{InAllowed, HasRoom, IsAllowedHeight, IsOpening, InRounded, IsRequiredCell}
use Rattle.sn_outline.specs.declared.job.Way.TheVariants as way

abbrev pub squared_distance : Pt → Pt → ℕ
squared_distance p q = square (q.x -ℤ p.x) + square (q.y -ℤ p.y)

-- a step may cut over the nodes about which all raw nodes at most the side allowance away are in the outline; nodes
-- outside the raw rectangle do not matter
abbrev pub AllowedKeepsTheSide : Type 0
AllowedKeepsTheSide =
    (job : Job) (step : StepJob) (q : Node)
    → InAllowed job step q ↔ ((n : Node) → IsRawNode job n → squared_distance (place job.pitch q) (place job.pitch n) ≤ step.side * step.side
    → InOutline step.outline (place job.pitch n))

-- micrometres in units of length
abbrev pub um : ℕ → ℕ
um n = n * PER_MM / 1000

-- a floor 6 mm below zero with a bottom allowance of 0.2 mm, and a tool with a point length of 0.3 mm
abbrev pub pointed : StepJob → Bottom → StepJob
pointed step bottom = record step { bottom = bottom; floor = neg_ℤ (pos (um 6000)); under = um 200; body = record { d = um 8000; e = um 300 } }

-- the lowest height at which it may cut: the point of the tool passes the floor where the bottom is conical, and a bottom
-- that goes through has none
abbrev pub HeightsBeginAtTheTip : Type 0
HeightsBeginAtTheTip =
    (step : StepJob)
    → IsAllowedHeight (pointed step Flat) (neg_ℤ (pos (um 5800))) × (¬ IsAllowedHeight (pointed step Flat) (neg_ℤ (pos (um 5800 + 1))))
    × IsAllowedHeight (pointed step Conical) (neg_ℤ (pos (um 6100))) × (¬ IsAllowedHeight (pointed step Conical) (neg_ℤ (pos (um 6100 + 1))))
    × (tip_floor (pointed step Through) ≡ neg_ℤ (pos (um 6100))) × ((z : ℤ) → IsAllowedHeight (pointed step Through) z)

abbrev pub drilling : StepJob → Pt → ℕ → StepJob
drilling step centre d = record step { way = way.Drill; outline = record { shape = Circle centre d; islands = [] } }

abbrev pub following : StepJob → Pt → Pt → ℕ → StepJob
following step a b width = record step { way = way.Trail; outline = record { shape = Trail (a ∷ b ∷ []) width; islands = [] } }

abbrev pub clearing : StepJob → StepJob
clearing step = record step { way = way.Clear }

-- a drill with room opens the raw nodes of its disc, and nothing without room
abbrev pub DrillOpensItsDisc : Type 0
DrillOpensItsDisc =
    (job : Job) (step : StepJob) (centre : Pt) (d : ℕ) (n : Node)
    → (HasRoom job (drilling step centre d) centre
    → (IsOpening job (drilling step centre d) n ↔ (IsRawNode job n × InDisc job.pitch step.body.d centre n)))
    × ((¬ HasRoom job (drilling step centre d) centre) → ¬ IsOpening job (drilling step centre d) n)

-- a tool that follows a segment opens the raw nodes within half its diameter, whatever the width of the trail
abbrev pub FollowerOpensItsWay : Type 0
FollowerOpensItsWay =
    (job : Job) (step : StepJob) (a b : Pt) (width : ℕ) (n : Node)
    → IsOpening job (following step a b width) n ↔ (IsRawNode job n × Near step.body.d a b (place job.pitch n))

-- clearing opens the raw nodes of each disc with room about a node, and only nodes over which the step may cut
abbrev pub ClearingOpensDiscs : Type 0
ClearingOpensDiscs =
    (job : Job) (step : StepJob) (n : Node)
    → ((c : Node) → HasRoom job (clearing step) (place job.pitch c) → IsRawNode job n → InDisc job.pitch step.body.d (place job.pitch c) n
    → IsOpening job (clearing step) n)
    × (IsOpening job (clearing step) n → IsRawNode job n × InAllowed job (clearing step) n)
    × (((c : Node) → ¬ HasRoom job (clearing step) (place job.pitch c)) → ¬ IsOpening job (clearing step) n)

-- rounded nodes are those of the discs of the corner diameter about nodes which lie over allowed nodes: there are none
-- where no such disc fits, and a corner diameter of 0 leaves all allowed nodes
abbrev pub RoundedFitsDiscs : Type 0
RoundedFitsDiscs =
    (job : Job) (step : StepJob) (q : Node)
    → (InRounded job step q → InAllowed job step q)
    × (((c : Node) → (m : Node) × InDisc job.pitch step.corner (place job.pitch c) m × (¬ InAllowed job step m)) → ¬ InRounded job step q)
    × (step.corner ≡ 0 → InAllowed job step q → InRounded job step q)

-- the node is at most two columns and two rows away
abbrev pub IsWithinTwo : Node → Node → Type 0
IsWithinTwo n m = (n.i ≤ℤ (m.i +ℤ pos 2)) × (m.i ≤ℤ (n.i +ℤ pos 2)) × (n.j ≤ℤ (m.j +ℤ pos 2)) × (m.j ≤ℤ (n.j +ℤ pos 2))

-- the raw cells between two steps' floor and top: the nodes about them are those of the first step, the heights those of
-- the other
abbrev pub IsBetween : Job → StepJob → StepJob → Cell → Type 0
IsBetween job side under c =
    IsRawCell job c × ((m : Node) → IsWithinTwo (node_of c) m → IsRawNode job m → InRounded job side m)
    × ((under.floor +ℤ pos under.under) ≤ℤ c.z) × (c.z <ℤ under.top)

abbrev pub IsOnlyStepOf : Job → ℕ → StepJob → Type 0
IsOnlyStepOf job feature step = Contains job.steps step × (step.feature ≡ feature) × ((other : StepJob) → Contains job.steps other → other.feature ≡ feature → other ≡ step)

-- a feature with one step has to be cut as that step says, whatever the steps of other features say
abbrev pub OneStepIsRequired : Type 0
OneStepIsRequired =
    (job : Job) (feature : ℕ) (step : StepJob) (c : Cell) → IsOnlyStepOf job feature step
    → IsRequiredCell job feature c ↔ IsBetween job step step c

-- of two steps of a feature the one with the lesser side allowance says over which nodes, and the one with the lesser
-- bottom allowance at which heights the feature has to be cut
abbrev pub LeastAllowancesCount : Type 0
LeastAllowancesCount =
    (job : Job) (feature : ℕ) (a b : StepJob) (c : Cell) → job.steps ≡ a ∷ b ∷ [] → a.feature ≡ feature → b.feature ≡ feature
    → a.side < b.side → b.under < a.under
    → IsRequiredCell job feature c ↔ IsBetween job a b c
