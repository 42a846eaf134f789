use Rattle.sn_walk.proofs.NodeLemmas.{Laws}
use Rattle.sn_walk.proofs.StepLemmas.{executed_are_steps}
use Rattle.sn_walk.proofs.laws.executed_are_steps.Goals as goal

pub returns : goal.returns
returns c =
    let laws : Laws = record { given = c.given_where_wanted.ensures; targets = c.named_are_targets.ensures; names = c.names_at_places.ensures; shown = c.reached_are_shown.ensures } in
    executed_are_steps laws c.project_has_row.ensures c.outcome_tells.ensures.tells
