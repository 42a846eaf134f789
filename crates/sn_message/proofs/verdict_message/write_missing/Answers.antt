use Rattle.std.specs.Prelude.{codes}
use Rattle.sn_message.proofs.RefusalLemmas.{number-first, number-later}
use Rattle.sn_message.proofs.verdict_message.write_missing.Goals as goal

pub returns-in_err-write_number : goal.returns-in_err-write_number
returns-in_err-write_number g c =
    number-first c.from_residual.result _ _ (codes "no: #") (codes " not executed") c.args.workingstep c.from_residual.ensures.0 c.in_err-write_number.ensures

pub returns : goal.returns
returns g c =
    number-later c.write_all.result _ _ _ (codes "no: #") (codes " not executed") c.args.workingstep c.in_ok-write_number.ensures c.write_all.ensures
