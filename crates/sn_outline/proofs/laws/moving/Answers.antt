use Rattle.sn_outline.proofs.Moving.{moving_together}
use Rattle.sn_outline.proofs.laws.moving.Goals as goal

pub returns : goal.returns
returns c = moving_together
