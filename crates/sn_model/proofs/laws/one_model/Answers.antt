use Rattle.sn_model.proofs.OneModelLemmas.{one_model_from}
use Rattle.sn_model.proofs.laws.one_model.Goals as goal

pub returns : goal.returns
returns c = one_model_from c.one_showing.ensures c.one_row.ensures
