-- MEANING (this project's own): the faults of the parts of a job, as faults of the job.
use Rattle.std.specs.Prelude.{Result, Ok, Err}
use Rattle.sn_walk.specs.declared.fault.WalkFault.{WalkFault}
use Rattle.sn_walk.specs.declared.fault.WalkFault.TheVariants as walk
use Rattle.sn_feature.specs.declared.fault.StepFault.{StepFault}
use Rattle.sn_feature.specs.declared.fault.StepFault.TheVariants as step
use Rattle.sn_flow.specs.declared.fault.JobFault.{JobFault}
use Rattle.sn_flow.specs.declared.fault.JobFault.TheVariants as fault

abbrev pub of_walk : WalkFault → JobFault
of_walk (walk.Unset n) = fault.Unset n
of_walk walk.TooManySteps = fault.TooManySteps
of_walk (walk.SecondSetup n) = fault.SecondSetup n
of_walk walk.Memory = fault.Memory

abbrev pub of_step : StepFault → JobFault
of_step (step.Frame why) = fault.Frame why
of_step (step.Depth n) = fault.Depth n
of_step (step.BadOutline n) = fault.BadOutline n
of_step (step.WrongTool ws) = fault.WrongTool ws
of_step (step.ShortTool ws) = fault.ShortTool ws
of_step step.Memory = fault.Memory

-- the value, or the fault as this fault of the job
infixl 20 ◌failing_as◌
abbrev pub ◌failing_as◌ : {A E : Type 0} → Result A E → (E → JobFault) → Result A JobFault
(Ok x) failing_as f = Ok x
(Err e) failing_as f = Err (f e)
