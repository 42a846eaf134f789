use Rattle.sn_lex.proofs.Names.{reads_user_keyword, no_user_keyword}
use Rattle.sn_lex.proofs.read.read_user_keyword.Goals as goal

pub returns-in_err-after : goal.returns-in_err-after
returns-in_err-after c = rw c.from_residual.ensures (no_user_keyword _ c.in_err-after.ensures)

pub returns : goal.returns
returns c = reads_user_keyword _ _ c.in_ok-after.ensures
