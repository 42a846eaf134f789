-- MEANING (this project's own): the steps of a job, made of the parts that all executed steps give.
use Rattle.std.specs.Prelude.{ℕ, min, nat_eq, List, map, unwrap_or}
use Rattle.std.specs.List.{filter, reduce}
use Rattle.sn_outline.specs.declared.job.StepJob.{StepJob}
use Rattle.sn_feature.specs.declared.parts.StepParts.{StepParts}
use Rattle.sn_feature.specs.Step.{step_with}
use Rattle.sn_flow.specs.Tools.{first_uses, number_in}

-- the tools of the steps, in the order of their first uses
abbrev pub tools_of : List StepParts → List ℕ
tools_of parts = first_uses (map (λ p. p.tool) parts)

-- the least tool diameter among the steps of a feature
abbrev pub least_diameter : List StepParts → ℕ → ℕ
least_diameter parts feature = unwrap_or (reduce min (map (λ p. p.body.d) (filter (λ p. nat_eq p.feature feature) parts))) 0

-- the corner diameter that the feature gives, or else the least tool diameter among its steps
abbrev pub corner_among : List StepParts → StepParts → ℕ
corner_among parts p = unwrap_or p.corner (least_diameter parts p.feature)

abbrev pub step_among : List StepParts → StepParts → StepJob
step_among parts p = step_with p (number_in (tools_of parts) p.tool) (corner_among parts p)
