use Rattle.std.proofs.Common.{◌++◌, refl}
use Rattle.std.specs.Prelude.{codes, decimal}
use Rattle.sn_io.proofs.SinkLemmas.{writes-later}
use Rattle.sn_message.proofs.verdict_message.write_at_column.Goals as goal

pub returns : goal.returns
returns g c =
    writes-later c.write_number.result _ _ _ _ c.args.words.now (codes " at " ++ decimal c.args.column) refl c.in_ok-write_all.ensures c.write_number.ensures
