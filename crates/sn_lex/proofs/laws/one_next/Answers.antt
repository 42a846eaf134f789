use Rattle.sn_lex.proofs.SomethingNext.{something_next}
use Rattle.sn_lex.proofs.Unique.{next_token_once, next_fault_once, next_not_both}
use Rattle.sn_lex.proofs.laws.one_next.Goals as goal

pub returns : goal.returns
returns c = (next_token_once, next_fault_once, next_not_both, something_next)
