use Rattle.sn_refs.proofs.RankLemmas.{sound_is_ranked}
use Rattle.sn_refs.proofs.laws.sound_is_ranked.Goals as goal

pub returns : goal.returns
returns c = sound_is_ranked c.kept_by_row.ensures c.project_has_row.ensures
