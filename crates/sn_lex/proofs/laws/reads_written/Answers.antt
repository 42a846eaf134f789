use Rattle.sn_lex.proofs.Written.{reads_written}
use Rattle.sn_lex.proofs.laws.reads_written.Goals as goal

pub returns : goal.returns
returns c = reads_written
