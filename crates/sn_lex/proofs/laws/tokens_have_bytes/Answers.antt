use Rattle.sn_lex.proofs.Unique.{tokens_have_bytes}
use Rattle.sn_lex.proofs.laws.tokens_have_bytes.Goals as goal

pub returns : goal.returns
returns c = tokens_have_bytes
