use Rattle.sn_entity.proofs.BorderLemmas.{kinds_have_borders}
use Rattle.sn_entity.proofs.limits.kinds_have_borders.Goals as goal

pub returns : goal.returns
returns c = kinds_have_borders
