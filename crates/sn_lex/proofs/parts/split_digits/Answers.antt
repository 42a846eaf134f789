use Rattle.sn_lex.proofs.Runs.{splits_at}
use Rattle.sn_lex.proofs.parts.split_digits.Goals as goal

pub returns : goal.returns
returns c = splits_at _ _ _ _ _ c.digits_len.ensures.len c.split_at.ensures.front c.split_at.ensures.back
