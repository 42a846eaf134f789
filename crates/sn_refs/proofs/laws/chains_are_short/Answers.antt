use Rattle.sn_refs.proofs.RankLemmas.{chains_are_short}
use Rattle.sn_refs.proofs.laws.chains_are_short.Goals as goal

pub returns : goal.returns
returns c = chains_are_short c.kept_by_row.ensures c.project_has_row.ensures
