-- PRIVATE: the parameters that fields stand for (the code's own words).
use Rattle.std.specs.Prelude.{map}
use Rattle.sn_p21.specs.declared.file.Param.{Param}
use Rattle.sn_p21.specs.declared.file.Param.TheVariants as param
use Rattle.sn_report.specs.declared.params.Field.{Field}
use Rattle.sn_report.specs.declared.params.Field.TheVariants.{Text, Int, Real, Enum, Whole, BelowZero, Ref, Absent, Texts, Refs}
use Rattle.sn_report.specs.Generated.{whole, below_zero, to}

abbrev pub param_of : Field → Param
param_of (Text value) = param.Text value.now
param_of (Int spelling) = param.Int spelling.now
param_of (Real spelling) = param.Real spelling.now
param_of (Enum name) = param.Enum name.now
param_of (Whole n) = whole n
param_of (BelowZero n) = below_zero n
param_of (Ref n) = to n
param_of Absent = param.Absent
param_of (Texts values) = param.List (map (λ value. param.Text value.now) values.now)
param_of (Refs ns) = param.List (map to ns.now)
