use Rattle.std.proofs.Common.{◌<◌, ◌^◌}
use Rattle.std.specs.List.{AllWithin}
use Rattle.sn_outline.specs.declared.job.StepJob.{StepJob}
use Rattle.sn_program.proofs.numbers.workingstep_numbers.Given as goal

abbrev pub invariant-loop-step : goal.invariant-loop-step
invariant-loop-step l = AllWithin (λ (step : StepJob). step.ws < 2 ^ 32) l.steps 0 l.step-index
