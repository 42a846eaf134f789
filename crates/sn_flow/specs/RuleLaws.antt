-- PRIVATE: the rule of jobs, of the parts of executed steps.
use Rattle.std.specs.Prelude.{List, map, length}
use Rattle.sn_outline.specs.JobRule.{KeepRule}
use Rattle.sn_feature.specs.declared.parts.StepParts.{StepParts}
use Rattle.sn_flow.specs.PartsRule.{KeepPartsRule}
use Rattle.sn_flow.specs.Steps.{tools_of, step_among}

-- the steps of parts keep the rule of jobs
abbrev pub StepsKeepRule : Type 0
StepsKeepRule = (parts : List StepParts) → KeepPartsRule parts → KeepRule (map (step_among parts) parts) (length (tools_of parts))
