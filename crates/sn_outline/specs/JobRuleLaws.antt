-- Laws of proper steps and of the rule of jobs (this project's own).
use Rattle.std.specs.Prelude.{◌≡◌, ◌↔◌, ◌≤◌, pos, ◌-ℤ◌, ◌≤ℤ◌, List, [], length}
use Rattle.std.specs.List.{Contains}
use Rattle.sn_outline.specs.declared.job.StepJob.{StepJob}
use Rattle.sn_outline.specs.Job.{Job, tip_floor}
use Rattle.sn_outline.specs.JobRule.{IsPitch, AreCorners, IsSecurityHeight, IsJob}

-- a job without steps is a raw box below a security height, with a pitch: it has no tools
abbrev pub JobWithoutSteps : Type 0
JobWithoutSteps =
    (job : Job) → job.steps ≡ []
    → IsJob job ↔ (IsPitch job.pitch × AreCorners job.low job.high × IsSecurityHeight job.sec job.high.z × (job.tools ≡ []))

-- neither the order of the steps matters nor how often one of them is executed: the same steps make a job exactly where
-- they are at most 1,000
abbrev pub SameStepsMakeAJob : Type 0
SameStepsMakeAJob =
    (job : Job) (steps : List StepJob) → IsJob job → ((s : StepJob) → Contains steps s ↔ Contains job.steps s)
    → IsJob (record job { steps = steps }) ↔ (length steps ≤ 1000)

-- the tools of steps have numbers in the program's list of tools, from 1
abbrev pub ToolsAreListed : Type 0
ToolsAreListed = (job : Job) (s : StepJob) → IsJob job → Contains job.steps s → (1 ≤ s.tool) × (s.tool ≤ length job.tools)

-- the tip goes below the floor and its allowance by no more than the length of the tool's point
abbrev pub TipNearTheFloor : Type 0
TipNearTheFloor =
    (s : StepJob) → (tip_floor (record s { under = 0 }) ≤ℤ s.floor) × ((s.floor -ℤ pos s.body.e) ≤ℤ tip_floor s)
