use Rattle.std.proofs.Common.{◌≡◌}
use Rattle.std.specs.List.{AllWithin}
use Rattle.sn_outline.proofs.rule.uses_tool.Given as goal

abbrev pub invariant-loop-step : goal.invariant-loop-step
invariant-loop-step l = AllWithin (λ s. ¬ (s.tool ≡ l.number)) l.steps 0 l.step-index
