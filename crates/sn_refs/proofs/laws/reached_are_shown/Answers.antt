use Rattle.sn_refs.proofs.TargetLemmas.{reached_are_shown}
use Rattle.sn_refs.proofs.laws.reached_are_shown.Goals as goal

pub returns : goal.returns
returns c = reached_are_shown c.kept_by_row.ensures
