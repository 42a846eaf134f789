use Rattle.std.specs.Prelude.{codes}
use Rattle.sn_report.specs.Report.{numbered}
use Rattle.sn_report.proofs.ReportLemmas.{first_stopped, goes_on}
use Rattle.sn_report.proofs.report.write_steps.Goals as goal

pub returns-in_err-write_number : goal.returns-in_err-write_number
returns-in_err-write_number g c =
    first_stopped c.from_residual.result _ _ (numbered (codes "steps ") c.args.count) (codes "\n") c.from_residual.ensures.0 c.in_err-write_number.ensures

pub returns : goal.returns
returns g c =
    goes_on c.write_all.result _ _ _ (numbered (codes "steps ") c.args.count) (codes "\n") c.in_ok-write_number.ensures c.write_all.ensures
