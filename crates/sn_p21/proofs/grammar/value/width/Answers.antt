use Rattle.std.proofs.Common.{sym, arith}
use Rattle.sn_p21.proofs.ValueLemmas.{width_alone}
use Rattle.sn_p21.proofs.grammar.value.width.Goals as goal

pub returns-then-bytes-at-lt2-clause-width : goal.returns-then-bytes-at-lt2-clause-width
returns-then-bytes-at-lt2-clause-width c = sym (width_alone c.args.bytes.now c.args.at (omega arith) (omega arith))
