use Rattle.std.specs.List.{AllWithin}
use Rattle.sn_outline.specs.JobRule.{IsProper}
use Rattle.sn_outline.proofs.rule.are_proper.Given as goal

abbrev pub invariant-loop-step : goal.invariant-loop-step
invariant-loop-step l = AllWithin IsProper l.steps 0 l.step-index
