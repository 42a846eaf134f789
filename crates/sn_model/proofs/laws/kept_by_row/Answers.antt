use Rattle.sn_model.proofs.KeptByRowLemmas.{kept_by_row}
use Rattle.sn_model.proofs.laws.kept_by_row.Goals as goal

pub returns : goal.returns
returns c = kept_by_row c.shows_shape.ensures.shows c.one_row.ensures
