-- MEANING: the grid of a job: nodes, places, raw nodes and the window (this project's own).
use Rattle.std.specs.Prelude.{◌≡◌, ℕ, ◌+◌, ◌*◌, ◌/◌, ◌≤◌, ◌<◌, max, ℤ, pos, ◌+ℤ◌, ◌-ℤ◌, ◌*ℤ◌, ◌≤ℤ◌, neg_ℤ, unsigned_abs, List, [], ◌∷◌}
use Rattle.std.specs.Int.{int_div_euclid, int_max}
use Rattle.sn_geom.specs.declared.limits.TheConstants.{MOST_NODES}
use Rattle.sn_geom.specs.declared.units.Pt.{Pt}
use Rattle.sn_geom.specs.Length.{IsLength}
use Rattle.sn_geom.specs.Sweep.{Disc}
use Rattle.sn_outline.specs.declared.job.StepJob.{StepJob}
use Rattle.sn_outline.specs.Job.{Job}
use Rattle.sn_outline.specs.JobRule.{IsPitch}

-- Nodes.

-- a node of the grid: a column and a row
pub record Node : Type 0 where
  pub i : ℤ
  pub j : ℤ

-- a set of nodes, given by a test
abbrev pub Nodes : Type 1
Nodes = Node → Type 0

-- where a node is
abbrev pub place : ℕ → Node → Pt
place pitch n = record { x = n.i *ℤ pos pitch; y = n.j *ℤ pos pitch }

-- the nodes of the disc of a diameter about a point
abbrev pub InDisc : ℕ → ℕ → Pt → Nodes
InDisc pitch d p n = Disc d p (place pitch n)

-- the nodes of the raw rectangle, its border counted in
pub record IsRawNode (job : Job) (n : Node) : Type 0 where
  pub left : job.low.x ≤ℤ (n.i *ℤ pos job.pitch)
  pub right : (n.i *ℤ pos job.pitch) ≤ℤ job.high.x
  pub front : job.low.y ≤ℤ (n.j *ℤ pos job.pitch)
  pub back : (n.j *ℤ pos job.pitch) ≤ℤ job.high.y

-- The window: the nodes that the steps of a job may have to do with.

-- half of a diameter, rounded up
abbrev pub half_up : ℕ → ℕ
half_up d = (d + 1) / 2

-- how far a step may have to do with nodes outside the raw rectangle
abbrev pub margin_of : StepJob → ℕ
margin_of step = max (half_up step.body.d) (max step.side (half_up step.corner))

abbrev pub greatest_margin : List StepJob → ℕ
greatest_margin [] = 0
greatest_margin (step ∷ steps) = max (margin_of step) (greatest_margin steps)

-- the first column or row whose coordinate is not below low
abbrev pub first_place : ℕ → ℤ → ℤ
first_place pitch low = neg_ℤ (int_div_euclid (neg_ℤ low) (pos pitch))

-- the last column or row whose coordinate is not above high
abbrev pub last_place : ℕ → ℤ → ℤ
last_place pitch high = int_div_euclid high (pos pitch)

-- how many places there are from the first to the last
abbrev pub places : ℤ → ℤ → ℕ
places first last = unsigned_abs (int_max (pos 0) (last +ℤ pos 1 -ℤ first))

-- the first and the last place have coordinates in the range, and so have those between them
abbrev pub AreInRange : ℕ → ℤ → ℤ → Type 0
AreInRange pitch first last = IsLength (first *ℤ pos pitch) × IsLength (last *ℤ pos pitch)

-- The window is the raw rectangle grown on each side by the greatest margin.
abbrev pub first_column : Job → ℤ
first_column job = first_place job.pitch (job.low.x -ℤ pos (greatest_margin job.steps))

abbrev pub last_column : Job → ℤ
last_column job = last_place job.pitch (job.high.x +ℤ pos (greatest_margin job.steps))

abbrev pub first_row : Job → ℤ
first_row job = first_place job.pitch (job.low.y -ℤ pos (greatest_margin job.steps))

abbrev pub last_row : Job → ℤ
last_row job = last_place job.pitch (job.high.y +ℤ pos (greatest_margin job.steps))

abbrev pub window_nodes : Job → ℕ
window_nodes job = places (first_column job) (last_column job) * places (first_row job) (last_row job)

-- The window has not too many nodes, and each is in the range of coordinates.
pub record FitsGrid (job : Job) : Type 0 where
  pub few : window_nodes job ≤ MOST_NODES
  pub across : 0 < window_nodes job → AreInRange job.pitch (first_column job) (last_column job)
  pub up : 0 < window_nodes job → AreInRange job.pitch (first_row job) (last_row job)

-- Grids.

-- A grid: its pitch, the first and the last columns and rows of its window and of its raw nodes, and its raw heights.
-- Where there are no raw nodes, a first place is greater than its last.
pub record Grid : Type 0 where
  pub pitch : ℕ
  pub i0 : ℤ
  pub i1 : ℤ
  pub j0 : ℤ
  pub j1 : ℤ
  pub ri0 : ℤ
  pub ri1 : ℤ
  pub rj0 : ℤ
  pub rj1 : ℤ
  pub bottom : ℤ
  pub top : ℤ

-- the nodes of the window
pub record IsInWindow (g : Grid) (n : Node) : Type 0 where
  pub left : g.i0 ≤ℤ n.i
  pub right : n.i ≤ℤ g.i1
  pub front : g.j0 ≤ℤ n.j
  pub back : n.j ≤ℤ g.j1

-- the raw nodes
pub record IsInRaw (g : Grid) (n : Node) : Type 0 where
  pub left : g.ri0 ≤ℤ n.i
  pub right : n.i ≤ℤ g.ri1
  pub front : g.rj0 ≤ℤ n.j
  pub back : n.j ≤ℤ g.rj1

-- the places of the window and of the raw nodes are in the range
pub record HasPlaces (g : Grid) : Type 0 where
  pub columns : IsLength g.i0 × IsLength g.i1
  pub rows : IsLength g.j0 × IsLength g.j1
  pub raw_columns : IsLength g.ri0 × IsLength g.ri1
  pub raw_rows : IsLength g.rj0 × IsLength g.rj1

-- a point whose coordinates are in the range
pub record IsPoint (p : Pt) : Type 0 where
  pub x : IsLength p.x
  pub y : IsLength p.y

-- the rule that each grid keeps
pub record IsGrid (g : Grid) : Type 0 where
  pub pitch : IsPitch g.pitch
  pub ends : HasPlaces g
  pub heights : IsLength g.bottom × IsLength g.top
  pub few : places g.i0 g.i1 * places g.j0 g.j1 ≤ MOST_NODES
  pub in_range : (n : Node) → IsInWindow g n → IsPoint (place g.pitch n)
  pub raw : (n : Node) → IsInRaw g n → IsInWindow g n

-- the grid of a job: its window and its raw nodes
pub record IsGridOf (g : Grid) (job : Job) : Type 0 where
  pub pitch : g.pitch ≡ job.pitch
  pub columns : (g.i0 ≡ first_column job) × (g.i1 ≡ last_column job)
  pub rows : (g.j0 ≡ first_row job) × (g.j1 ≡ last_row job)
  pub raw_columns : (g.ri0 ≡ first_place job.pitch job.low.x) × (g.ri1 ≡ last_place job.pitch job.high.x)
  pub raw_rows : (g.rj0 ≡ first_place job.pitch job.low.y) × (g.rj1 ≡ last_place job.pitch job.high.y)
  pub heights : (g.bottom ≡ job.low.z) × (g.top ≡ job.high.z)
