use Rattle.sn_lex.proofs.Quoted.{one_value}
use Rattle.sn_lex.proofs.laws.one_value.Goals as goal

pub returns : goal.returns
returns c = one_value
