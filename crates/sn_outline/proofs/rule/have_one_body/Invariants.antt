use Rattle.std.specs.List.{AllWithin}
use Rattle.sn_outline.proofs.FirstOfKind.{HasBodyOfFirst}
use Rattle.sn_outline.proofs.rule.have_one_body.Given as goal

abbrev pub invariant-loop-step : goal.invariant-loop-step
invariant-loop-step l = AllWithin (HasBodyOfFirst l.steps) l.steps 0 l.step-index
