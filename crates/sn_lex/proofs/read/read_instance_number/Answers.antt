use Rattle.std.proofs.Common.{sym}
use Rattle.sn_lex.proofs.NumberReads.{reads_instance_number, no_instance_number}
use Rattle.sn_lex.proofs.read.read_instance_number.Goals as goal

pub returns-in_err-number : goal.returns-in_err-number
returns-in_err-number c = rw c.from_residual.ensures (no_instance_number _ _ _ c.split_digits.ensures c.in_err-number.ensures)

pub returns : goal.returns
returns c = reads_instance_number _ _ _ _ c.split_digits.ensures c.in_ok-number.ensures.0 (sym c.in_ok-number.ensures.1)
