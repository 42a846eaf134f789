use Rattle.sn_walk.proofs.NodeLemmas.{led}
use Rattle.sn_walk.proofs.laws.instances_lead.Goals as goal

pub returns : goal.returns
returns c = led (record { given = c.given_where_wanted.ensures; targets = c.named_are_targets.ensures; names = c.names_at_places.ensures; shown = c.reached_are_shown.ensures })
