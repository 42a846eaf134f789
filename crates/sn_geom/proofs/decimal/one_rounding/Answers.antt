use Rattle.sn_geom.proofs.RoundingLaws.{one_rounding}
use Rattle.sn_geom.proofs.Powers.{one_product}
use Rattle.sn_geom.proofs.decimal.one_rounding.Goals as goal

pub returns : goal.returns
returns c = record { fraction = one_rounding; product = one_product }
