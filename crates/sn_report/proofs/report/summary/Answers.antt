use Rattle.std.proofs.Common.{◌++◌, length, flat_map}
use Rattle.sn_report.specs.Report.{steps_text, grid_text, row_text}
use Rattle.sn_report.proofs.ReportLemmas.{first_stopped, goes_on}
use Rattle.sn_report.proofs.report.summary.Goals as goal

pub returns-in_err-write_steps : goal.returns-in_err-write_steps
returns-in_err-write_steps g c =
    let r = c.args.r.now in
    first_stopped c.from_residual.result _ _ (steps_text (length r.rows)) (grid_text r.across r.up ++ flat_map row_text r.rows) c.from_residual.ensures.0 (rw c.len.ensures at c.in_err-write_steps.ensures)

pub returns-in_err-write_grid : goal.returns-in_err-write_grid
returns-in_err-write_grid g c =
    let r = c.args.r.now in
    goes_on c.from_residual-in_err-write_grid.result _ _ _ (steps_text (length r.rows)) (grid_text r.across r.up ++ flat_map row_text r.rows) (rw c.len.ensures at c.in_ok-write_steps.ensures)
    (first_stopped c.from_residual-in_err-write_grid.result _ _ (grid_text r.across r.up) (flat_map row_text r.rows) c.from_residual-in_err-write_grid.ensures.0 c.in_err-write_grid.ensures)

pub returns : goal.returns
returns g c =
    let r = c.args.r.now in
    goes_on c.write_rows.result _ _ _ (steps_text (length r.rows)) (grid_text r.across r.up ++ flat_map row_text r.rows) (rw c.len.ensures at c.in_ok-write_steps.ensures)
    (goes_on c.write_rows.result _ _ _ (grid_text r.across r.up) (flat_map row_text r.rows) c.in_ok-write_grid.ensures (rw c.as_slice.ensures at c.write_rows.ensures))
