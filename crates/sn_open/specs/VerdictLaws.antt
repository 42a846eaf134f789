-- Laws of the verdict on a program and of the causes of its lines.
use Rattle.std.specs.Prelude.{◌≡◌, ◌≢◌, ◌↔◌, ◌⊎◌, ◌<◌, ◌≤◌, ◌+ℤ◌, ◌≤ℤ◌, ◌<ℤ◌, ℕ, ℤ, pos, List, [], ◌∷◌, ◌++◌, map, length, Contains, None, Some, slice_get}
use Rattle.std.specs.Int.{int_min}
use Rattle.sn_geom.specs.declared.block.LineFault.{LineFault}
use Rattle.sn_geom.specs.declared.machine.MachFault.{MachFault}
use Rattle.sn_geom.specs.declared.units.Cell.{Cell}
use Rattle.sn_geom.specs.declared.units.Pt3.{Pt3}
use Rattle.sn_geom.specs.Acts.{Act, act_list}
use Rattle.sn_geom.specs.Acts.Act.{Mark, PutTool, Enter, Locate, Rapid, Feed, End}
use Rattle.sn_geom.specs.Block.{Block, lines_of}
use Rattle.sn_geom.specs.LineText.{LineText, IsLineFault}
use Rattle.sn_geom.specs.Machine.{State, start, fault_of, acts_of, state_after}
use Rattle.sn_geom.specs.Meaning.{Means}
use Rattle.sn_geom.specs.Sweep.{Touch, IsVertical}
use Rattle.sn_outline.specs.Job.{Job}
use Rattle.sn_outline.specs.declared.job.StepJob.{StepJob}
use Rattle.sn_raster.specs.Heights.{low_end, IsBefore, IsFirst}
use Rattle.sn_open.specs.Region.{IsAllowed, IsRequiredCell}
use Rattle.sn_open.specs.Good.{marks, IsCurrent, IsLeft, IsClear, StaysAllowed, StaysShallow, IsRight, AreGood, Good}
use Rattle.sn_open.specs.Verdict.{IsActCause, AreRight, IsLineCause, rank, IsFirstCause, IsFirstAtFault, MarksAll, IsVerdict, IsMetForbidden, IsMetDeep, IsMetInRapid}
use Rattle.sn_open.specs.declared.verdict.Cause.{Cause}
use Rattle.sn_open.specs.declared.verdict.Cause.TheVariants as cause
use Rattle.sn_open.specs.declared.verdict.Verdict.{Verdict}
use Rattle.sn_open.specs.declared.verdict.Verdict.TheVariants as verdict

-- Lines.

-- a line has one first cause
abbrev pub LinesHaveOneFirstCause : Type 0
LinesHaveOneFirstCause =
    (job : Job) (state : State) (before : List Act) (line : List ℕ) (some other : Cause)
    → IsFirstCause (IsLineCause job state before line) some → IsFirstCause (IsLineCause job state before line) other → some ≡ other

-- the causes in order
abbrev pub CausesHaveAnOrder : Type 0
CausesHaveAnOrder =
    (f : LineFault) (m : MachFault) (c : Cell)
    → (rank (cause.LineFault f) < rank (cause.MachFault m)) × (rank (cause.MachFault m) < rank cause.WrongMark) × (rank cause.WrongMark < rank cause.LowEntry)
    × (rank cause.LowEntry < rank cause.Early) × (rank cause.Early < rank cause.OtherTool) × (rank cause.OtherTool < rank cause.OtherFeed)
    × (rank cause.OtherFeed < rank cause.OtherSpeed) × (rank cause.OtherSpeed < rank (cause.Gouge c)) × (rank (cause.Gouge c) < rank (cause.Deep c))
    × (rank (cause.Deep c) < rank (cause.Crash c))

-- a line that is not read has its fault as first cause, whatever the state and the acts before
abbrev pub UnreadLinesAreAtFault : Type 0
UnreadLinesAreAtFault =
    (job : Job) (state : State) (before : List Act) (line : List ℕ) (f : LineFault) → IsLineFault line f
    → IsFirstCause (IsLineCause job state before line) (cause.LineFault f)

-- a line that the machine does not accept has the machine's fault as first cause
abbrev pub RefusedLinesAreAtFault : Type 0
RefusedLinesAreAtFault =
    (job : Job) (state : State) (before : List Act) (line : List ℕ) (block : Block) (m : MachFault) → LineText line block → fault_of state block ≡ Some m
    → IsFirstCause (IsLineCause job state before line) (cause.MachFault m)

-- Acts.

-- a mark is wrong where it is not that of the step after those marked before, and has no other cause
abbrev pub MarksAreInTurn : Type 0
MarksAreInTurn =
    (job : Job) (before : List Act) (n : ℕ) (c : Cause)
    → IsActCause job before (Mark n) c ↔ ((c ≡ cause.WrongMark) × (slice_get (map (λ step. step.ws) job.steps) (length (marks before)) ≢ Some n))

-- an entry is low where it ends below the security height, and has no other cause
abbrev pub EntriesAreLow : Type 0
EntriesAreLow =
    (job : Job) (before : List Act) (c : Cause)
    → ((z : ℤ) → IsActCause job before (Enter z) c ↔ ((c ≡ cause.LowEntry) × (z <ℤ job.sec)))
    × ((p : Pt3) → IsActCause job before (Locate p) c ↔ ((c ≡ cause.LowEntry) × (p.z <ℤ job.sec)))

-- a tool that is put in and the end have no cause
abbrev pub SomeActsHaveNoCause : Type 0
SomeActsHaveNoCause = (job : Job) (before : List Act) (c : Cause) → ((k : ℕ) → ¬ IsActCause job before (PutTool k) c) × (¬ IsActCause job before End c)

-- a feed comes early where no mark stands before it; another tool, feed or speed is one other than those of the last
-- mark's step
abbrev pub FeedsAreTheirSteps : Type 0
FeedsAreTheirSteps =
    (job : Job) (before : List Act) (from to : Pt3) (feed speed tool : ℕ) (step : StepJob)
    → (IsActCause job before (Feed from to feed speed tool) cause.Early ↔ (marks before ≡ []))
    × (IsCurrent job before step
    → (IsActCause job before (Feed from to feed speed tool) cause.OtherTool ↔ (tool ≢ step.tool))
    × (IsActCause job before (Feed from to feed speed tool) cause.OtherFeed ↔ (feed ≢ step.feed))
    × (IsActCause job before (Feed from to feed speed tool) cause.OtherSpeed ↔ (speed ≢ step.speed)))

-- the cell is left, touched on the way, and one that the step may not cut, and each other one such comes after it
abbrev pub FeedsGouge : Type 0
FeedsGouge =
    (job : Job) (before : List Act) (from to : Pt3) (feed speed tool : ℕ) (step : StepJob) (c : Cell) → IsCurrent job before step
    → IsActCause job before (Feed from to feed speed tool) (cause.Gouge c)
    ↔ (IsLeft job before c × Touch step.body.d from to (low_end job.pitch c) × (¬ IsAllowed job step c)
    × ((other : Cell) → IsLeft job before other → Touch step.body.d from to (low_end job.pitch other) → (¬ IsAllowed job step other) → ¬ IsBefore other c))

-- the cell is at least the point length and the axial depth above the lower end of a way that is not one of Z alone, and
-- each other such cell comes after it
abbrev pub FeedsAreDeep : Type 0
FeedsAreDeep =
    (job : Job) (before : List Act) (from to : Pt3) (feed speed tool : ℕ) (step : StepJob) (c : Cell) → IsCurrent job before step
    → (let bound = int_min from.z to.z +ℤ pos step.body.e +ℤ pos step.axial in
    IsActCause job before (Feed from to feed speed tool) (cause.Deep c)
    ↔ ((¬ IsVertical from to) × IsLeft job before c × Touch step.body.d from to (low_end job.pitch c) × (bound ≤ℤ c.z)
    × ((other : Cell) → IsLeft job before other → Touch step.body.d from to (low_end job.pitch other) → bound ≤ℤ other.z → ¬ IsBefore other c)))

-- in rapid a tool is another one where it is 0 or above the count of the job's tools
abbrev pub RapidsHaveAJobsTool : Type 0
RapidsHaveAJobsTool =
    (job : Job) (before : List Act) (from to : Pt3) (tool : ℕ)
    → IsActCause job before (Rapid from to tool) cause.OtherTool ↔ ((tool ≡ 0) ⊎ (length job.tools < tool))

-- in rapid the cell is left and touched by the body of the tool, and each other one such comes after it
abbrev pub RapidsCrash : Type 0
RapidsCrash =
    (job : Job) (before : List Act) (from to : Pt3) (tool : ℕ) (step : StepJob) (c : Cell) → Contains job.steps step → step.tool ≡ tool
    → ((other : StepJob) → Contains job.steps other → other.tool ≡ tool → other.body ≡ step.body)
    → IsActCause job before (Rapid from to tool) (cause.Crash c)
    ↔ (IsLeft job before c × Touch step.body.d from to (low_end job.pitch c)
    × ((other : Cell) → IsLeft job before other → Touch step.body.d from to (low_end job.pitch other) → ¬ IsBefore other c))

-- Programs.

-- a program has one verdict at most
abbrev pub ProgramsHaveOneVerdict : Type 0
ProgramsHaveOneVerdict = (job : Job) (program : List ℕ) (some other : Verdict) → IsVerdict job program some → IsVerdict job program other → some ≡ other

-- Yes is the verdict on a good program
abbrev pub YesIsGood : Type 0
YesIsGood = (job : Job) (program : List ℕ) → IsVerdict job program verdict.Yes ↔ Good job program

-- a right act has no cause, but that of a mark
abbrev pub RightActsHaveNoCause : Type 0
RightActsHaveNoCause = (job : Job) (before : List Act) (act : Act) (c : Cause) → IsRight job before act → IsActCause job before act c → c ≡ cause.WrongMark

-- good acts have no cause
abbrev pub GoodActsHaveNoCause : Type 0
GoodActsHaveNoCause = (job : Job) (acts : List Act) → AreGood job acts → AreRight job acts

-- no line of a good program is at fault
abbrev pub GoodProgramsHaveNoFault : Type 0
GoodProgramsHaveNoFault = (job : Job) (program : List ℕ) (n : ℕ) (c : Cause) → Good job program → ¬ IsFirstAtFault job program n c

-- a good program means acts of which none has a cause, ends, marks all steps, and leaves no required cell
abbrev pub GoodProgramsDoAll : Type 0
GoodProgramsDoAll =
    (job : Job) (program : List ℕ) → Good job program
    → (acts : List Act) × MarksAll job program acts × ((feature : ℕ) (c : Cell) → IsRequiredCell job feature c → ¬ IsLeft job acts c)

-- a line at fault is a line of the program, counted from 1
abbrev pub LinesAreCounted : Type 0
LinesAreCounted = (job : Job) (program : List ℕ) (n : ℕ) (c : Cause) → IsFirstAtFault job program n c → (1 ≤ n) × (n ≤ length (lines_of program))

-- a first line that is not read is at fault as line 1, and a second one that the machine does not accept as line 2, where
-- the first is accepted and gives no acts
abbrev pub FirstLinesAreAtFault : Type 0
FirstLinesAreAtFault =
    (job : Job) (program line next : List ℕ) (back : List (List ℕ))
    → ((f : LineFault) → lines_of program ≡ line ∷ back → IsLineFault line f → IsVerdict job program (verdict.Line 1 (cause.LineFault f)))
    × ((block other : Block) (m : MachFault) → lines_of program ≡ line ∷ next ∷ back → LineText line block → fault_of start block ≡ None
    → act_list (acts_of start block) ≡ [] → LineText next other → fault_of (state_after start block) other ≡ Some m
    → IsVerdict job program (verdict.Line 2 (cause.MachFault m)))

-- a program without lines does not end
abbrev pub NoLinesNoEnd : Type 0
NoLinesNoEnd = (job : Job) → IsVerdict job [] verdict.NoEnd

-- Stages.

-- the program means the acts, and no line is at fault
abbrev pub IsRightProgram : Job → List ℕ → List Act → Type 0
IsRightProgram job program acts = Means program acts × AreRight job acts

-- without an end the verdict is NoEnd; with an end it is Missing with the step after those marked, where there is one
abbrev pub EndsAndMarksAreMissed : Type 0
EndsAndMarksAreMissed =
    (job : Job) (program : List ℕ) (acts : List Act) → IsRightProgram job program acts
    → ((¬ Contains acts End) → IsVerdict job program verdict.NoEnd)
    × ((ws : ℕ) → Contains acts End → slice_get (map (λ step. step.ws) job.steps) (length (marks acts)) ≡ Some ws
    → IsVerdict job program (verdict.Missing ws))

-- the cell is the first required cell of the step's feature that is left
abbrev pub IsFirstLeftOf : Job → List Act → StepJob → Cell → Type 0
IsFirstLeftOf job acts step c = IsFirst (λ c. IsRequiredCell job step.feature c × IsLeft job acts c) c

-- features go by their first steps, whatever their numbers
abbrev pub FeaturesGoByTheirSteps : Type 0
FeaturesGoByTheirSteps =
    (job : Job) (program : List ℕ) (acts : List Act) (a b : StepJob) (c : Cell) → IsRightProgram job program acts → Contains acts End
    → job.steps ≡ a ∷ b ∷ [] → length (marks acts) ≡ 2
    → (IsFirstLeftOf job acts a c → IsVerdict job program (verdict.Uncovered a.feature c))
    × (((other : Cell) → IsRequiredCell job a.feature other → ¬ IsLeft job acts other) → IsFirstLeftOf job acts b c
    → IsVerdict job program (verdict.Uncovered b.feature c))

-- Nothing but causes.

-- For each motion between known places, either it touches no cell that it may not, or there is a first such cell.
pub record IsSearched (job : Job) (before : List Act) (act : Act) : Type 0 where
  pub allowed : (from to : Pt3) (feed speed tool : ℕ) (step : StepJob) → act ≡ Feed from to feed speed tool
      → StaysAllowed job before step from to ⊎ ((c : Cell) × IsFirst (IsMetForbidden job before step from to) c)
  pub shallow : (from to : Pt3) (feed speed tool : ℕ) (step : StepJob) → act ≡ Feed from to feed speed tool
      → StaysShallow job before step from to ⊎ ((¬ IsVertical from to) × ((c : Cell) × IsFirst (IsMetDeep job before step from to) c))
  pub clear : (from to : Pt3) (tool : ℕ) → act ≡ Rapid from to tool
      → IsClear job before from to tool ⊎ ((c : Cell) × IsFirst (IsMetInRapid job before from to tool) c)

-- where the searches of all acts end, the acts are good exactly where none has a cause, the program ends, as many marks
-- stand as there are steps, and no required cell is left
abbrev pub GoodIsWithoutCause : Type 0
GoodIsWithoutCause =
    (job : Job) (acts : List Act) → ((front back : List Act) (act : Act) → acts ≡ front ++ act ∷ back → IsSearched job front act)
    → AreGood job acts ↔ (AreRight job acts × Contains acts End × (length (marks acts) ≡ length job.steps)
    × ((feature : ℕ) (c : Cell) → IsRequiredCell job feature c → ¬ IsLeft job acts c))
