use Rattle.std.proofs.Common.{◌≡◌, ap, ◌∙◌, rules}
use Rattle.std.specs.List.{find}
use Rattle.std.specs.Option.{option_copied, option_map}
use Rattle.std.specs.Prelude.{◌==◌}
use Rattle.sn_outline.specs.declared.job.StepJob.{StepJob}
use Rattle.sn_sweep.proofs.CausesLemmas.{body_found}
use Rattle.sn_sweep.proofs.causes.body_with.Goals as goal

pub returns : goal.returns
returns c =
    let is : c.map.result ≡ option_map (λ (step : StepJob). step.body) (option_copied c.first_with.result) = search rules in
    is
    ∙ ap (option_map (λ (step : StepJob). step.body)) (c.first_with.ensures ∙ ap (find (λ (step : StepJob). step.tool == c.args.tool)) c.steps.ensures)
    ∙ body_found c.args.j.now.steps c.args.tool
