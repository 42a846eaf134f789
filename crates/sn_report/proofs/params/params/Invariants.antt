use Rattle.std.proofs.Common.{◌≡◌, ◌++◌, map, drop}
use Rattle.sn_report.specs.Fields.{param_of}
use Rattle.sn_report.proofs.params.params.Given as goal

-- the parameters so far, and those that are left
abbrev pub invariant-loop-field : goal.invariant-loop-field
invariant-loop-field l = l.params.items ++ map param_of (drop l.field-index l.fields) ≡ map param_of l.fields
