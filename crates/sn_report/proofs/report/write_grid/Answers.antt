use Rattle.std.proofs.Common.{ℕ, List, ◌++◌}
use Rattle.std.specs.Prelude.{codes}
use Rattle.sn_report.specs.Report.{numbered}
use Rattle.sn_report.proofs.ReportLemmas.{first_stopped, goes_on}
use Rattle.sn_report.proofs.report.write_grid.Goals as goal

abbrev across_text : ℕ → List ℕ
across_text across = numbered (codes "grid ") across

abbrev up_text : ℕ → List ℕ
up_text up = numbered (codes " ") up

pub returns-in_err-write_number : goal.returns-in_err-write_number
returns-in_err-write_number g c =
    first_stopped c.from_residual.result _ _ (across_text c.args.across) (up_text c.args.up ++ codes "\n") c.from_residual.ensures.0 c.in_err-write_number.ensures

pub returns-in_err-write_number-2 : goal.returns-in_err-write_number-2
returns-in_err-write_number-2 g c =
    goes_on c.from_residual-in_err-write_number-2.result _ _ _ (across_text c.args.across) (up_text c.args.up ++ codes "\n") c.in_ok-write_number.ensures
    (first_stopped c.from_residual-in_err-write_number-2.result _ _ (up_text c.args.up) (codes "\n") c.from_residual-in_err-write_number-2.ensures.0 c.in_err-write_number-2.ensures)

pub returns : goal.returns
returns g c =
    goes_on c.write_all.result _ _ _ (across_text c.args.across) (up_text c.args.up ++ codes "\n") c.in_ok-write_number.ensures
    (goes_on c.write_all.result _ _ _ (up_text c.args.up) (codes "\n") c.in_ok-write_number-2.ensures c.write_all.ensures)
