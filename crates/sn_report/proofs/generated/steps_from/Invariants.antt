use Rattle.std.proofs.Common.{◌≡◌, ◌++◌, drop}
use Rattle.sn_report.specs.Generated.{steps_from}
use Rattle.sn_report.proofs.generated.steps_from.Given as goal

-- the numbers so far, and those that are left
abbrev pub invariant-loop-place : goal.invariant-loop-place
invariant-loop-place l = l.steps.items ++ steps_from l.place (drop l.place l.features) ≡ steps_from 0 l.features
