use Rattle.sn_lex.proofs.Quoted.{reads_text, open_string}
use Rattle.sn_lex.proofs.read.read_text.Goals as goal

pub returns-in_err-after : goal.returns-in_err-after
returns-in_err-after c = rw c.from_residual.ensures (open_string _ c.in_err-after.ensures)

pub returns : goal.returns
returns c = reads_text _ _ c.in_ok-after.ensures
