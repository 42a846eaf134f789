use Rattle.std.specs.Prelude.{codes}
use Rattle.sn_message.specs.VerdictText.{at_cell}
use Rattle.sn_message.proofs.RefusalLemmas.{number-first, number-later}
use Rattle.sn_message.proofs.verdict_message.write_uncovered.Goals as goal

pub returns-in_err-write_number : goal.returns-in_err-write_number
returns-in_err-write_number g c =
    number-first c.from_residual.result _ _ (codes "no: #") (at_cell (codes " uncovered") c.args.cell.now) c.args.feature c.from_residual.ensures.0 c.in_err-write_number.ensures

pub returns : goal.returns
returns g c =
    number-later c.write_at_cell.result _ _ _ (codes "no: #") (at_cell (codes " uncovered") c.args.cell.now) c.args.feature c.in_ok-write_number.ensures c.write_at_cell.ensures
