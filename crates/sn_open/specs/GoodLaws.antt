-- MEANING: laws of good programs, by their acts, and of what acts leave of the material.
use Rattle.std.specs.Prelude.{◌≡◌, ◌≢◌, ◌↔◌, ◌⊎◌, ◌+◌, ◌<◌, ◌+ℤ◌, ◌≤ℤ◌, ◌<ℤ◌, ◌∷◌, ◌++◌, ℕ, ℤ, pos, List, [], map, length, Contains, Some, slice_get}
use Rattle.std.specs.Int.{int_min}
use Rattle.sn_geom.specs.declared.units.Pt.{Pt}
use Rattle.sn_geom.specs.declared.units.Pt3.{Pt3}
use Rattle.sn_geom.specs.declared.units.Cell.{Cell}
use Rattle.sn_geom.specs.Sweep.{Touch, IsVertical}
use Rattle.sn_geom.specs.Block.{Block, lines_of}
use Rattle.sn_outline.specs.Job.{Job}
use Rattle.sn_outline.specs.JobRule.{HaveOneBody}
use Rattle.sn_outline.specs.declared.job.StepJob.{StepJob}
use Rattle.sn_raster.specs.Heights.{node_of, low_end, IsRawCell}
use Rattle.sn_open.specs.Region.{InAllowed, IsAllowedHeight}
use Rattle.sn_geom.specs.Acts.{Act}
use Rattle.sn_geom.specs.Acts.Act.{Enter, Locate, Rapid, Feed}
use Rattle.sn_open.specs.Good.{body_of, marks, passes, IsCurrent, IsLeft, AreGood, Good}
use Rattle.sn_geom.specs.LineText.{LineText}

-- the current step is one of the executed steps, and the marks are one more than the steps before it
abbrev pub CurrentStepIsMarked : Type 0
CurrentStepIsMarked =
    (job : Job) (before : List Act) (step : StepJob)
    → IsCurrent job before step
    ↔ ((front : List StepJob) × (back : List StepJob) × (job.steps ≡ front ++ step ∷ back) × (length (marks before) ≡ length front + 1))

-- the marks and the passes of acts in a row are those of the first of them and then those of the others
abbrev pub ActsGoInARow : Type 0
ActsGoInARow =
    (steps : List StepJob) (some others : List Act)
    → (marks (some ++ others) ≡ marks some ++ marks others) × (passes steps (some ++ others) ≡ passes steps some ++ passes steps others)

-- where steps of one tool have one body, that of a step's tool is the step's
abbrev pub BodiesAreTheSteps : Type 0
BodiesAreTheSteps =
    (steps : List StepJob) (step : StepJob) → HaveOneBody steps → Contains steps step → body_of steps step.tool ≡ Some step.body

-- a missing mark, one too many, or one of another step
abbrev pub GoodMarksAreTheSteps : Type 0
GoodMarksAreTheSteps =
    (job : Job) (acts : List Act) (k : ℕ)
    → (length (marks acts) ≢ length job.steps → ¬ AreGood job acts)
    × (slice_get (marks acts) k ≢ slice_get (map (λ step. step.ws) job.steps) k → ¬ AreGood job acts)

-- after a tool change the tip stays at or above the security height
abbrev pub GoodEntriesAreSafe : Type 0
GoodEntriesAreSafe =
    (job : Job) (before after : List Act)
    → ((z : ℤ) → z <ℤ job.sec → ¬ AreGood job (before ++ Enter z ∷ after))
    × ((p : Pt3) → p.z <ℤ job.sec → ¬ AreGood job (before ++ Locate p ∷ after))

-- no tool but the job's moves in rapid, and none of them touches a material cell there
abbrev pub GoodRapidsAreClear : Type 0
GoodRapidsAreClear =
    (job : Job) (before after : List Act) (from to : Pt3) (tool : ℕ)
    → ((tool ≡ 0) ⊎ (length job.tools < tool) → ¬ AreGood job (before ++ Rapid from to tool ∷ after))
    × ((step : StepJob) (c : Cell) → Contains job.steps step → step.tool ≡ tool → IsLeft job before c
    → Touch step.body.d from to (low_end job.pitch c) → ¬ AreGood job (before ++ Rapid from to tool ∷ after))

-- no feed comes before the first mark, or with another tool, feed or speed than those of the last mark's step
abbrev pub GoodFeedsAreTheirSteps : Type 0
GoodFeedsAreTheirSteps =
    (job : Job) (before after : List Act) (from to : Pt3) (feed speed tool : ℕ)
    → (marks before ≡ [] → ¬ AreGood job (before ++ Feed from to feed speed tool ∷ after))
    × ((step : StepJob) → IsCurrent job before step → (tool ≢ step.tool) ⊎ ((feed ≢ step.feed) ⊎ (speed ≢ step.speed))
    → ¬ AreGood job (before ++ Feed from to feed speed tool ∷ after))

-- no feed touches a material cell over a node or at a height where the step may not cut, or, but where it changes Z alone,
-- one that is at least the point length and the axial depth above the lower end of the way
abbrev pub GoodFeedsStayAllowed : Type 0
GoodFeedsStayAllowed =
    (job : Job) (before after : List Act) (from to : Pt3) (feed speed tool : ℕ) (step : StepJob) (c : Cell)
    → IsCurrent job before step → IsLeft job before c → Touch step.body.d from to (low_end job.pitch c)
    → ((¬ InAllowed job step (node_of c)) ⊎ (¬ IsAllowedHeight step c.z) → ¬ AreGood job (before ++ Feed from to feed speed tool ∷ after))
    × ((¬ IsVertical from to) → (int_min from.z to.z +ℤ pos step.body.e +ℤ pos step.axial) ≤ℤ c.z
    → ¬ AreGood job (before ++ Feed from to feed speed tool ∷ after))

-- a point over a place in the plane
abbrev pub over : Pt → ℤ → Pt3
over p z = record { x = p.x; y = p.y; z = z }

-- Where the security height is not below the raw top, no motion in rapid of a good program touches material, entries after
-- a tool change included: down to their height from any height not below the security height, at any place, and at their
-- height from any place.
pub record RapidsTouchNothing (job : Job) (before : List Act) (act : Act) : Type 0 where
  pub enters : (z : ℤ) → act ≡ Enter z → (d : ℕ) (p : Pt) (from : ℤ) (c : Cell) → job.sec ≤ℤ from → IsLeft job before c
      → ¬ Touch d (over p from) (over p z) (low_end job.pitch c)
  pub locates : (to : Pt3) → act ≡ Locate to → (d : ℕ) (from : Pt) (c : Cell) → IsLeft job before c
      → ¬ Touch d (over from to.z) to (low_end job.pitch c)
  pub moves : (from to : Pt3) (tool : ℕ) → act ≡ Rapid from to tool → (step : StepJob) (c : Cell) → Contains job.steps step → step.tool ≡ tool
      → IsLeft job before c → ¬ Touch step.body.d from to (low_end job.pitch c)

abbrev pub GoodProgramsMoveClear : Type 0
GoodProgramsMoveClear =
    (job : Job) (before after : List Act) (act : Act) → job.high.z ≤ℤ job.sec → AreGood job (before ++ act ∷ after)
    → RapidsTouchNothing job before act

-- a program without lines is good for no job, and so is one with a line that says nothing
abbrev pub GoodProgramsAreRead : Type 0
GoodProgramsAreRead =
    (job : Job) (line program : List ℕ)
    → (¬ Good job []) × (((block : Block) → ¬ LineText line block) → Contains (lines_of program) line → ¬ Good job program)

-- What is left of the material.

abbrev pub raised_by : ℕ → Cell → Cell
raised_by e c = record c { z = c.z +ℤ pos e }

-- before any cut the raw cells are left
abbrev pub AllIsLeftAtFirst : Type 0
AllIsLeftAtFirst = (job : Job) (c : Cell) → IsLeft job [] c ↔ IsRawCell job c

-- the cells that a feed cuts surely lie by the point length of the tool higher than those that it touches
abbrev pub FeedCutsAboveItsPoint : Type 0
FeedCutsAboveItsPoint =
    (job : Job) (acts : List Act) (from to : Pt3) (feed speed : ℕ) (step : StepJob) (c : Cell) → HaveOneBody job.steps
    → Contains job.steps step → Contains acts (Feed from to feed speed step.tool)
    → Touch step.body.d from to (low_end job.pitch c) → ¬ IsLeft job acts (raised_by step.body.e c)

-- nothing else cuts
abbrev pub OnlyFeedsCut : Type 0
OnlyFeedsCut =
    (job : Job) (acts : List Act) (c : Cell) → IsRawCell job c
    → ((from to : Pt3) (feed speed : ℕ) (step : StepJob) (touched : Cell) → Contains job.steps step → Contains acts (Feed from to feed speed step.tool)
    → Touch step.body.d from to (low_end job.pitch touched) → raised_by step.body.e touched ≢ c)
    → IsLeft job acts c

-- what was cut stays cut
abbrev pub CutStaysCut : Type 0
CutStaysCut = (job : Job) (before after : List Act) (c : Cell) → IsLeft job (before ++ after) c → IsLeft job before c

-- neither the order of acts nor how often one comes matters for what is left: the same acts leave the same
abbrev pub SameActsLeaveTheSame : Type 0
SameActsLeaveTheSame =
    (job : Job) (some others : List Act) (c : Cell) → ((act : Act) → Contains some act ↔ Contains others act)
    → IsLeft job some c ↔ IsLeft job others c
