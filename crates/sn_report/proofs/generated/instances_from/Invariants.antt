use Rattle.std.proofs.Common.{◌≡◌, ◌++◌, drop}
use Rattle.sn_report.specs.Generated.{instances_from}
use Rattle.sn_report.proofs.generated.instances_from.Given as goal

-- the instances so far, and those that are left
abbrev pub invariant-loop-place : goal.invariant-loop-place
invariant-loop-place l = l.rows.items ++ instances_from l.place (drop l.place l.features) ≡ instances_from 0 l.features
