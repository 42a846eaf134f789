-- MEANING: laws of the programs of plans (this project's own).
use Rattle.std.specs.Prelude.{ℕ, ◌<◌, ◌^◌, List}
use Rattle.std.specs.List.{All}
use Rattle.sn_outline.specs.Job.{Job}
use Rattle.sn_outline.specs.JobRule.{IsJob}
use Rattle.sn_outline.specs.declared.job.StepJob.{StepJob}
use Rattle.sn_open.specs.Good.{Good}
use Rattle.sn_open.specs.Reach.{IsReachable}
use Rattle.sn_link.specs.declared.moves.Move.{Move}
use Rattle.sn_link.specs.Plan.{IsPlan, with_moves}
use Rattle.sn_link.specs.Safe.{AreWithin}
use Rattle.sn_program.specs.PlanActs.{IsWritableProgram}
use Rattle.sn_program.specs.Text.{program_text}

-- where its steps reach each cell that has to be cut, the program of the plan of a job is good for the job
abbrev pub PlansAreGood : Type 0
PlansAreGood =
    (job : Job) (plan : List (StepJob × List Move)) → IsJob job → IsReachable job → IsPlan job plan → IsWritableProgram job plan
    → Good job (program_text job plan)

-- the numbers that a job shows of workingsteps and tools are numbers of instances
pub record HasInstanceNumbers (job : Job) : Type 0 where
  pub steps : All (λ (step : StepJob). step.ws < 2 ^ 32) job.steps
  pub tools : All (λ (number : ℕ). number < 2 ^ 32) job.tools

-- a plan whose moves end in the range can be written
abbrev pub PlansCanBeWritten : Type 0
PlansCanBeWritten =
    (job : Job) (plans : List (List Move)) → IsJob job → HasInstanceNumbers job → IsPlan job (with_moves job.steps plans) → All AreWithin plans
    → IsWritableProgram job (with_moves job.steps plans)
