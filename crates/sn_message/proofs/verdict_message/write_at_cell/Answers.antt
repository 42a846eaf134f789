use Rattle.std.proofs.Common.{◌++◌, refl}
use Rattle.std.specs.Prelude.{codes}
use Rattle.sn_io.proofs.SinkLemmas.{writes-first, writes-later}
use Rattle.sn_message.specs.CellText.{cell_text}
use Rattle.sn_message.proofs.verdict_message.write_at_cell.Goals as goal

pub returns-in_err-write_all-2 : goal.returns-in_err-write_all-2
returns-in_err-write_all-2 g c =
    let r = c.from_residual-in_err-write_all-2.result in
    writes-later r _ _ _ _ c.args.words.now (codes " at" ++ cell_text c.args.cell.now) refl c.in_ok-write_all.ensures
    (writes-first r _ _ _ (codes " at") (cell_text c.args.cell.now) c.from_residual-in_err-write_all-2.ensures.0 refl c.in_err-write_all-2.ensures)

pub returns : goal.returns
returns g c =
    let r = c.write_cell.result in
    writes-later r _ _ _ _ c.args.words.now (codes " at" ++ cell_text c.args.cell.now) refl c.in_ok-write_all.ensures
    (writes-later r _ _ _ _ (codes " at") (cell_text c.args.cell.now) refl c.in_ok-write_all-2.ensures c.write_cell.ensures)
