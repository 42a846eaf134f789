use Rattle.sn_clear.proofs.LieLemmas.{strokes_lie}
use Rattle.sn_clear.proofs.SurfaceLaws.{useful_hold_targets}
use Rattle.sn_clear.proofs.laws.places.Goals as goal

pub returns : goal.returns
returns c = record { lie = strokes_lie; useful = useful_hold_targets }
