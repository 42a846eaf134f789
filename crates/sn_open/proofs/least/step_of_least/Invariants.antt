use Rattle.std.proofs.Common.{◌≡◌}
use Rattle.std.specs.List.{All, AllWithin}
use Rattle.sn_open.specs.Least.{IsNotMore}
use Rattle.sn_open.proofs.least.step_of_least.Given as goal

abbrev pub invariant-loop-step : goal.invariant-loop-step
invariant-loop-step l = AllWithin (λ s. s.feature ≡ l.feature → ¬ All (IsNotMore l.allowance s) l.steps) l.steps 0 l.step-index
