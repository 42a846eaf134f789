use Rattle.std.proofs.Common.{refl}
use Rattle.std.specs.Prelude.{codes}
use Rattle.sn_io.proofs.SinkLemmas.{writes-later}
use Rattle.sn_message.specs.VerdictText.{verdict_words}
use Rattle.sn_message.proofs.verdict_message.write_verdict.Goals as goal

pub returns : goal.returns
returns g c =
    writes-later c.write_all.result _ _ _ _ (verdict_words c.args.verdict) (codes "\n") refl c.in_ok-write_verdict_words.ensures c.write_all.ensures
