use Rattle.std.proofs.Common.{◌≡◌, ◌++◌, map, drop}
use Rattle.sn_p21.specs.declared.file.Param.TheVariants as param
use Rattle.sn_report.proofs.params.texts.Given as goal

-- the strings so far, and those that are left
abbrev pub invariant-loop-value : goal.invariant-loop-value
invariant-loop-value l =
    l.params.items ++ map (λ value. param.Text value.now) (drop l.value-index l.values) ≡ map (λ value. param.Text value.now) l.values
