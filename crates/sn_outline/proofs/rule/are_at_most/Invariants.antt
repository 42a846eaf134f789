use Rattle.std.proofs.Common.{◌≤◌}
use Rattle.std.specs.List.{AllWithin}
use Rattle.sn_outline.proofs.rule.are_at_most.Given as goal

abbrev pub invariant-loop-step : goal.invariant-loop-step
invariant-loop-step l = AllWithin (λ s. (1 ≤ s.tool) × (s.tool ≤ l.count)) l.steps 0 l.step-index
