use Rattle.std.proofs.Common.{◌++◌, refl}
use Rattle.std.specs.Prelude.{codes}
use Rattle.sn_io.proofs.SinkLemmas.{writes-first, writes-later}
use Rattle.sn_message.proofs.message.write_part.Goals as goal

pub returns-in_err-write_all : goal.returns-in_err-write_all
returns-in_err-write_all g c =
    writes-first c.from_residual.result _ _ _ (codes "stepmill: part: ") (c.args.words.now ++ codes "\n") c.from_residual.ensures.0 refl c.in_err-write_all.ensures

pub returns : goal.returns
returns g c =
    writes-later c.write_line.result _ _ _ _ (codes "stepmill: part: ") (c.args.words.now ++ codes "\n") refl c.in_ok-write_all.ensures c.write_line.ensures
