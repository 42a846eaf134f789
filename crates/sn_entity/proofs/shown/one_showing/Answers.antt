use Rattle.sn_entity.proofs.OneShowingLemmas.{one_showing}
use Rattle.sn_entity.proofs.shown.one_showing.Goals as goal

pub returns : goal.returns
returns c = one_showing c.one_reading.ensures.number c.one_rounding.ensures.product
