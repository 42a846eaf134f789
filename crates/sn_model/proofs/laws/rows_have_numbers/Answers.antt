use Rattle.sn_model.proofs.NumbersAndLimits.{rows_have_numbers}
use Rattle.sn_model.proofs.laws.rows_have_numbers.Goals as goal

pub returns : goal.returns
returns c = rows_have_numbers
