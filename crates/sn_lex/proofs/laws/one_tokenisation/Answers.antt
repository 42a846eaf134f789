use Rattle.sn_lex.proofs.Unique.{one_tokenisation}
use Rattle.sn_lex.proofs.laws.one_tokenisation.Goals as goal

pub returns : goal.returns
returns c = one_tokenisation
