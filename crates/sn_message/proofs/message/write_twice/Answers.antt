use Rattle.std.specs.Prelude.{codes}
use Rattle.sn_message.specs.FaultText.{placed_text}
use Rattle.sn_message.proofs.RefusalLemmas.{number-first, number-later}
use Rattle.sn_message.proofs.message.write_twice.Goals as goal

pub returns-in_err-write_number : goal.returns-in_err-write_number
returns-in_err-write_number g c =
    number-first c.from_residual.result _ _ (codes "stepmill: part: #") (placed_text (codes " twice at ") c.args.at) c.args.number c.from_residual.ensures.0 c.in_err-write_number.ensures

pub returns : goal.returns
returns g c =
    number-later c.write_place.result _ _ _ (codes "stepmill: part: #") (placed_text (codes " twice at ") c.args.at) c.args.number c.in_ok-write_number.ensures c.write_place.ensures
