use Rattle.std.proofs.Common.{◌++◌, refl}
use Rattle.std.specs.Prelude.{codes}
use Rattle.sn_io.proofs.SinkLemmas.{writes-first, writes-later}
use Rattle.sn_message.specs.VerdictText.{cause_words}
use Rattle.sn_message.proofs.RefusalLemmas.{number-first, number-later}
use Rattle.sn_message.proofs.verdict_message.write_faulty_line.Goals as goal

pub returns-in_err-write_number : goal.returns-in_err-write_number
returns-in_err-write_number g c =
    number-first c.from_residual.result _ _ (codes "no: line ") (codes ": " ++ cause_words c.args.cause) c.args.line c.from_residual.ensures.0 c.in_err-write_number.ensures

pub returns-in_err-write_all : goal.returns-in_err-write_all
returns-in_err-write_all g c =
    let r = c.from_residual-in_err-write_all.result in
    number-later r _ _ _ (codes "no: line ") (codes ": " ++ cause_words c.args.cause) c.args.line c.in_ok-write_number.ensures
    (writes-first r _ _ _ (codes ": ") (cause_words c.args.cause) c.from_residual-in_err-write_all.ensures.0 refl c.in_err-write_all.ensures)

pub returns : goal.returns
returns g c =
    let r = c.write_cause.result in
    number-later r _ _ _ (codes "no: line ") (codes ": " ++ cause_words c.args.cause) c.args.line c.in_ok-write_number.ensures
    (writes-later r _ _ _ _ (codes ": ") (cause_words c.args.cause) refl c.in_ok-write_all.ensures c.write_cause.ensures)
