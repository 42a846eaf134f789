use Rattle.sn_refs.proofs.TargetLemmas.{names_at_places}
use Rattle.sn_refs.proofs.laws.names_at_places.Goals as goal

pub returns : goal.returns
returns c = names_at_places
