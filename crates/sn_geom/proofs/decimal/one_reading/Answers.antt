use Rattle.sn_geom.proofs.NumberText.{one_reading, one_number}
use Rattle.sn_geom.proofs.decimal.one_reading.Goals as goal

pub returns : goal.returns
returns c = record { parts = one_reading; number = one_number }
