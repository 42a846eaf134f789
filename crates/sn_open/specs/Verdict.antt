-- MEANING: the verdict on a program for a job: good, or its first line at fault with the first cause, or what the whole program
-- lacks (this project's own).
use Rattle.std.specs.Prelude.{◌≡◌, ◌≢◌, ℕ, ◌+◌, ◌≤◌, ◌<◌, ◌<ℤ◌, List, [], ◌∷◌, ◌++◌, length, Contains, None, Some, slice_get}
use Rattle.sn_geom.specs.declared.units.Cell.{Cell}
use Rattle.sn_geom.specs.declared.units.Pt3.{Pt3}
use Rattle.sn_geom.specs.Acts.{Act, act_list, RunsTo}
use Rattle.sn_geom.specs.Acts.Act.{Mark, PutTool, Enter, Locate, Rapid, Feed, End}
use Rattle.sn_geom.specs.Block.{Block, lines_of}
use Rattle.sn_geom.specs.LineText.{LineText, IsLineFault}
use Rattle.sn_geom.specs.Machine.{State, start, fault_of, acts_of, state_after_all}
use Rattle.sn_geom.specs.Meaning.{AreBlocks, Means}
use Rattle.sn_geom.specs.Sweep.{Touch, IsVertical}
use Rattle.sn_outline.specs.Job.{Job}
use Rattle.sn_outline.specs.declared.job.StepJob.{StepJob}
use Rattle.sn_raster.specs.Heights.{low_end, IsFirst}
use Rattle.sn_open.specs.Region.{IsAllowed, IsRequiredCell}
use Rattle.sn_open.specs.Good.{marks, IsCurrent, IsLeft, IsJobTool, IsShallow, Good}
use Rattle.sn_open.specs.declared.verdict.Cause.{Cause}
use Rattle.sn_open.specs.declared.verdict.Cause.TheVariants.{LineFault, MachFault, WrongMark, LowEntry, Early, OtherTool, OtherFeed, OtherSpeed, Gouge, Deep, Crash}
use Rattle.sn_open.specs.declared.verdict.Verdict.{Verdict}
use Rattle.sn_open.specs.declared.verdict.Verdict.TheVariants.{Yes, Line, NoEnd, Missing, Uncovered}

-- Steps.

-- of the executed steps in order, the one after those that the acts have marked
abbrev pub IsNext : Job → List Act → StepJob → Type 0
IsNext job acts step = slice_get job.steps (length (marks acts)) ≡ Some step

-- the number is that of the next step
abbrev pub NamesNext : Job → List Act → ℕ → Type 0
NamesNext job before n = (step : StepJob) × IsNext job before step × (step.ws ≡ n)

-- the current step has the property
abbrev pub OfCurrent : Job → List Act → (StepJob → Type 0) → Type 0
OfCurrent job before P = (step : StepJob) × IsCurrent job before step × P step

-- Cells.

-- a cell that is left, and that the body of the step touches on the way
pub record IsMet (job : Job) (before : List Act) (step : StepJob) (from to : Pt3) (c : Cell) : Type 0 where
  pub left : IsLeft job before c
  pub touched : Touch step.body.d from to (low_end job.pitch c)

-- such a cell that the step may not cut
pub record IsMetForbidden (job : Job) (before : List Act) (step : StepJob) (from to : Pt3) (c : Cell) : Type 0 where
  pub met : IsMet job before step from to c
  pub forbidden : ¬ IsAllowed job step c

-- such a cell that is too deep for the step
pub record IsMetDeep (job : Job) (before : List Act) (step : StepJob) (from to : Pt3) (c : Cell) : Type 0 where
  pub met : IsMet job before step from to c
  pub deep : ¬ IsShallow step from to c

-- such a cell on a way in rapid, the body being that of a step with the tool
pub record IsMetInRapid (job : Job) (before : List Act) (from to : Pt3) (tool : ℕ) (c : Cell) : Type 0 where
  pub step : StepJob
  pub executed : Contains job.steps step
  pub own : step.tool ≡ tool
  pub met : IsMet job before step from to c

-- a required cell of the feature that is left
pub record IsRequiredLeft (job : Job) (acts : List Act) (feature : ℕ) (c : Cell) : Type 0 where
  pub required : IsRequiredCell job feature c
  pub left : IsLeft job acts c

-- Causes.

-- a cause of a motion in rapid between known places
abbrev pub IsRapidCause : Job → List Act → Pt3 → Pt3 → ℕ → Cause → Type 0
IsRapidCause job before from to tool OtherTool = ¬ IsJobTool job tool
IsRapidCause job before from to tool (Crash c) = IsFirst (IsMetInRapid job before from to tool) c
IsRapidCause job before from to tool _ = ⊥

-- a cause of a motion at feed
abbrev pub IsFeedCause : Job → List Act → Pt3 → Pt3 → ℕ → ℕ → ℕ → Cause → Type 0
IsFeedCause job before from to feed speed tool Early = marks before ≡ []
IsFeedCause job before from to feed speed tool OtherTool = OfCurrent job before (λ step. tool ≢ step.tool)
IsFeedCause job before from to feed speed tool OtherFeed = OfCurrent job before (λ step. feed ≢ step.feed)
IsFeedCause job before from to feed speed tool OtherSpeed = OfCurrent job before (λ step. speed ≢ step.speed)
IsFeedCause job before from to feed speed tool (Gouge c) = OfCurrent job before (λ step. IsFirst (IsMetForbidden job before step from to) c)
IsFeedCause job before from to feed speed tool (Deep c) =
    OfCurrent job before (λ step. (¬ IsVertical from to) × IsFirst (IsMetDeep job before step from to) c)
IsFeedCause job before from to feed speed tool _ = ⊥

-- a cause of an act after the acts before it
abbrev pub IsActCause : Job → List Act → Act → Cause → Type 0
IsActCause job before (Mark n) cause = (cause ≡ WrongMark) × (¬ NamesNext job before n)
IsActCause job before (PutTool k) cause = ⊥
IsActCause job before (Enter z) cause = (cause ≡ LowEntry) × (z <ℤ job.sec)
IsActCause job before (Locate p) cause = (cause ≡ LowEntry) × (p.z <ℤ job.sec)
IsActCause job before (Rapid from to tool) cause = IsRapidCause job before from to tool cause
IsActCause job before (Feed from to feed speed tool) cause = IsFeedCause job before from to feed speed tool cause
IsActCause job before End cause = ⊥

-- a cause of one of the acts, after those before them
pub record IsCauseAmong (job : Job) (before acts : List Act) (cause : Cause) : Type 0 where
  pub front : List Act
  pub act : Act
  pub back : List Act
  pub all : acts ≡ front ++ act ∷ back
  pub causes : IsActCause job (before ++ front) act cause

-- no act has a cause
abbrev pub AreRight : Job → List Act → Type 0
AreRight job acts = (cause : Cause) → ¬ IsCauseAmong job [] acts cause

-- the line is read as a block that the machine accepts, and one of its acts has the cause
pub record IsCauseOfActs (job : Job) (state : State) (before : List Act) (line : List ℕ) (cause : Cause) : Type 0 where
  pub block : Block
  pub says : LineText line block
  pub accepted : fault_of state block ≡ None
  pub among : IsCauseAmong job before (act_list (acts_of state block)) cause

-- a cause of a line, from the state and after the acts of the lines before it
abbrev pub IsLineCause : Job → State → List Act → List ℕ → Cause → Type 0
IsLineCause job state before line (LineFault fault) = IsLineFault line fault
IsLineCause job state before line (MachFault fault) = (block : Block) × LineText line block × (fault_of state block ≡ Some fault)
IsLineCause job state before line cause = IsCauseOfActs job state before line cause

-- the place of a cause in their order
abbrev pub rank : Cause → ℕ
rank (LineFault fault) = 0
rank (MachFault fault) = 1
rank WrongMark = 2
rank LowEntry = 3
rank Early = 4
rank OtherTool = 5
rank OtherFeed = 6
rank OtherSpeed = 7
rank (Gouge c) = 8
rank (Deep c) = 9
rank (Crash c) = 10

-- the first of the causes that P holds of
pub record IsFirstCause (P : Cause → Type 0) (cause : Cause) : Type 0 where
  pub holds : P cause
  pub first : (other : Cause) → P other → rank cause ≤ rank other

-- The verdict.

-- The n-th line of the program, counted from 1: the machine accepts the lines before it, and no act of theirs has a cause. It
-- comes to this line in the state and after the acts.
pub record ComesTo (job : Job) (program : List ℕ) (n : ℕ) (line : List ℕ) (state : State) (before : List Act) : Type 0 where
  pub front : List (List ℕ)
  pub back : List (List ℕ)
  pub lines : lines_of program ≡ front ++ line ∷ back
  pub counted : n ≡ length front + 1
  pub blocks : List Block
  pub says : AreBlocks front blocks
  pub runs : RunsTo start blocks before
  pub reaches : state ≡ state_after_all start blocks
  pub right : AreRight job before

-- the n-th line is the first at fault, and this is its first cause
pub record IsFirstAtFault (job : Job) (program : List ℕ) (n : ℕ) (cause : Cause) : Type 0 where
  pub line : List ℕ
  pub state : State
  pub before : List Act
  pub comes : ComesTo job program n line state before
  pub first : IsFirstCause (IsLineCause job state before line) cause

-- the program means the acts, and none of them has a cause
pub record MeansRight (job : Job) (program : List ℕ) (acts : List Act) : Type 0 where
  pub means : Means program acts
  pub right : AreRight job acts

-- and it ends
pub record EndsRight (job : Job) (program : List ℕ) (acts : List Act) : Type 0 where
  pub means : MeansRight job program acts
  pub ends : Contains acts End

-- and all steps are marked
pub record MarksAll (job : Job) (program : List ℕ) (acts : List Act) : Type 0 where
  pub ends : EndsRight job program acts
  pub marked : length (marks acts) ≡ length job.steps

-- The feature is the first, by its first executed step, of which a required cell is left, and this is its first such cell.
pub record IsFirstLeft (job : Job) (acts : List Act) (feature : ℕ) (c : Cell) : Type 0 where
  pub place : ℕ
  pub step : StepJob
  pub executed : slice_get job.steps place ≡ Some step
  pub own : step.feature ≡ feature
  pub earlier : (k : ℕ) (other : StepJob) → k < place → slice_get job.steps k ≡ Some other → (c' : Cell) → ¬ IsRequiredLeft job acts other.feature c'
  pub first : IsFirst (IsRequiredLeft job acts feature) c

-- the verdict on the program
abbrev pub IsVerdict : Job → List ℕ → Verdict → Type 0
IsVerdict job program Yes = Good job program
IsVerdict job program (Line n cause) = IsFirstAtFault job program n cause
IsVerdict job program NoEnd = (acts : List Act) × MeansRight job program acts × (¬ Contains acts End)
IsVerdict job program (Missing ws) = (acts : List Act) × EndsRight job program acts × NamesNext job acts ws
IsVerdict job program (Uncovered feature c) = (acts : List Act) × MarksAll job program acts × IsFirstLeft job acts feature c
