-- MEANING: what a program must be to be good for a job (this project's own). Marks, motions and tools are those of the acts that
-- the machine gives when it runs the program.
use Rattle.std.specs.Prelude.{◌≡◌, ℕ, ◌+◌, ◌≤◌, ◌⊎◌, ◌==◌, pos, ◌+ℤ◌, ◌≤ℤ◌, ◌<ℤ◌, List, [], ◌∷◌, ◌++◌, map, length, Contains, Option, None, Some, slice_get, if◌then◌else◌}
use Rattle.sn_geom.specs.declared.units.Body.{Body}
use Rattle.sn_geom.specs.declared.units.Pt3.{Pt3}
use Rattle.sn_geom.specs.declared.units.Cell.{Cell}
use Rattle.sn_geom.specs.Sweep.{Touch, IsVertical}
use Rattle.sn_outline.specs.Job.{Job}
use Rattle.sn_outline.specs.declared.job.StepJob.{StepJob}
use Rattle.sn_raster.specs.Heights.{low_end, Pass, IsMaterial}
use Rattle.sn_open.specs.Region.{IsAllowed, IsRequiredCell}
use Rattle.sn_geom.specs.Acts.{Act}
use Rattle.sn_geom.specs.Meaning.{Means}
use Rattle.sn_geom.specs.Acts.Act.{Mark, PutTool, Enter, Locate, Rapid, Feed, End}

-- the steps that the marks name, in order
abbrev pub marks : List Act → List ℕ
marks [] = []
marks (Mark n ∷ acts) = n ∷ marks acts
marks (PutTool k ∷ acts) = marks acts
marks (Enter z ∷ acts) = marks acts
marks (Locate p ∷ acts) = marks acts
marks (Rapid a b tool ∷ acts) = marks acts
marks (Feed a b feed speed tool ∷ acts) = marks acts
marks (End ∷ acts) = marks acts

-- the k-th mark makes the k-th executed step current
abbrev pub IsCurrent : Job → List Act → StepJob → Type 0
IsCurrent job before step = (k : ℕ) × (length (marks before) ≡ k + 1) × (slice_get job.steps k ≡ Some step)

-- the body of a tool by its number: that of the first step with it, where one has it
abbrev pub body_of : List StepJob → ℕ → Option Body
body_of [] tool = None
body_of (step ∷ steps) tool = if step.tool == tool then Some step.body else body_of steps tool

-- the pass of a feed; a tool that no step has cuts nothing
abbrev pub pass_of : Option Body → Pt3 → Pt3 → List Pass
pass_of None from to = []
pass_of (Some body) from to = record { body = body; from = from; to = to } ∷ []

-- the passes of some acts, each with the body of its tool
abbrev pub passes : List StepJob → List Act → List Pass
passes steps [] = []
passes steps (Mark n ∷ acts) = passes steps acts
passes steps (PutTool k ∷ acts) = passes steps acts
passes steps (Enter z ∷ acts) = passes steps acts
passes steps (Locate p ∷ acts) = passes steps acts
passes steps (Rapid from to tool ∷ acts) = passes steps acts
passes steps (Feed from to feed speed tool ∷ acts) = pass_of (body_of steps tool) from to ++ passes steps acts
passes steps (End ∷ acts) = passes steps acts

-- the cells that are material after some acts
abbrev pub IsLeft : Job → List Act → Cell → Type 0
IsLeft job acts c = IsMaterial job (passes job.steps acts) c

-- the tool is one of the job's
pub record IsJobTool (job : Job) (tool : ℕ) : Type 0 where
  pub first : 1 ≤ tool
  pub last : tool ≤ length job.tools

-- with the body of the tool the way touches no material
abbrev pub IsClear : Job → List Act → Pt3 → Pt3 → ℕ → Type 0
IsClear job before from to tool =
    (step : StepJob) → Contains job.steps step → step.tool ≡ tool → (c : Cell) → IsLeft job before c → ¬ Touch step.body.d from to (low_end job.pitch c)

-- a rapid is made with a tool of the job, and is clear
pub record IsRightRapid (job : Job) (before : List Act) (from to : Pt3) (tool : ℕ) : Type 0 where
  pub tool_is : IsJobTool job tool
  pub clear : IsClear job before from to tool

-- a feed is made with the tool, the feed and the speed of the step
pub record HasRates (step : StepJob) (feed speed tool : ℕ) : Type 0 where
  pub tool_is : tool ≡ step.tool
  pub feed_is : feed ≡ step.feed
  pub speed_is : speed ≡ step.speed

-- what the feed touches of the material is allowed for the step
abbrev pub StaysAllowed : Job → List Act → StepJob → Pt3 → Pt3 → Type 0
StaysAllowed job before step from to = (c : Cell) → IsLeft job before c → Touch step.body.d from to (low_end job.pitch c) → IsAllowed job step c

-- the cell is not as deep as the axial depth above where the tool cuts with its whole diameter, measured from the lower
-- end of the way
abbrev pub IsShallow : StepJob → Pt3 → Pt3 → Cell → Type 0
IsShallow step from to c = (c.z <ℤ (from.z +ℤ pos step.body.e +ℤ pos step.axial)) × (c.z <ℤ (to.z +ℤ pos step.body.e +ℤ pos step.axial))

-- the feed changes Z alone, or touches no material deeper than the step's axial depth
abbrev pub StaysShallow : Job → List Act → StepJob → Pt3 → Pt3 → Type 0
StaysShallow job before step from to =
    IsVertical from to ⊎ ((c : Cell) → IsLeft job before c → Touch step.body.d from to (low_end job.pitch c) → IsShallow step from to c)

-- a feed is one of the current step, and stays allowed and shallow
pub record IsRightFeed (job : Job) (before : List Act) (from to : Pt3) (feed speed tool : ℕ) : Type 0 where
  pub step : StepJob
  pub current : IsCurrent job before step
  pub rates : HasRates step feed speed tool
  pub allowed : StaysAllowed job before step from to
  pub shallow : StaysShallow job before step from to

-- an act is right after the acts before it
abbrev pub IsRight : Job → List Act → Act → Type 0
IsRight job before (Mark n) = Unit {0}
IsRight job before (PutTool k) = Unit {0}
IsRight job before (Enter z) = job.sec ≤ℤ z
IsRight job before (Locate p) = job.sec ≤ℤ p.z
IsRight job before (Rapid from to tool) = IsRightRapid job before from to tool
IsRight job before (Feed from to feed speed tool) = IsRightFeed job before from to feed speed tool
IsRight job before End = Unit {0}

-- The acts are good for the job: the program ends, the marks are the executed steps in order, each act is right after
-- those before it, and no cell that has to be cut is left.
pub record AreGood (job : Job) (acts : List Act) : Type 0 where
  pub ends : Contains acts End
  pub marked : marks acts ≡ map (λ step. step.ws) job.steps
  pub right : (before : List Act) (act : Act) (after : List Act) → acts ≡ before ++ act ∷ after → IsRight job before act
  pub finished : (feature : ℕ) (c : Cell) → IsRequiredCell job feature c → ¬ IsLeft job acts c

-- the program is good for the job
abbrev pub Good : Job → List ℕ → Type 0
Good job program = (acts : List Act) × Means program acts × AreGood job acts
