use Rattle.std.specs.Prelude.{codes}
use Rattle.sn_report.specs.Report.{numbered}
use Rattle.sn_report.proofs.ReportLemmas.{first_stopped, goes_on, from_tool, from_strokes, from_layers, from_lifts, from_cells}
use Rattle.sn_report.proofs.report.write_row.Goals as goal

pub returns-in_err-write_number : goal.returns-in_err-write_number
returns-in_err-write_number g c =
    let row = c.args.row.now in
    first_stopped c.from_residual.result _ _ (numbered (codes "ws ") row.ws) (from_tool row) c.from_residual.ensures.0 c.in_err-write_number.ensures

pub returns-in_err-write_number-2 : goal.returns-in_err-write_number-2
returns-in_err-write_number-2 g c =
    let row = c.args.row.now in
    goes_on c.from_residual-in_err-write_number-2.result _ _ _ (numbered (codes "ws ") row.ws) (from_tool row) c.in_ok-write_number.ensures
    (first_stopped c.from_residual-in_err-write_number-2.result _ _ (numbered (codes " tool ") row.tool) (from_strokes row) c.from_residual-in_err-write_number-2.ensures.0 c.in_err-write_number-2.ensures)

pub returns-in_err-write_number-3 : goal.returns-in_err-write_number-3
returns-in_err-write_number-3 g c =
    let row = c.args.row.now in
    goes_on c.from_residual-in_err-write_number-3.result _ _ _ (numbered (codes "ws ") row.ws) (from_tool row) c.in_ok-write_number.ensures
    (goes_on c.from_residual-in_err-write_number-3.result _ _ _ (numbered (codes " tool ") row.tool) (from_strokes row) c.in_ok-write_number-2.ensures
    (first_stopped c.from_residual-in_err-write_number-3.result _ _ (numbered (codes " strokes ") row.strokes) (from_layers row) c.from_residual-in_err-write_number-3.ensures.0 c.in_err-write_number-3.ensures))

pub returns-in_err-write_number-4 : goal.returns-in_err-write_number-4
returns-in_err-write_number-4 g c =
    let row = c.args.row.now in
    goes_on c.from_residual-in_err-write_number-4.result _ _ _ (numbered (codes "ws ") row.ws) (from_tool row) c.in_ok-write_number.ensures
    (goes_on c.from_residual-in_err-write_number-4.result _ _ _ (numbered (codes " tool ") row.tool) (from_strokes row) c.in_ok-write_number-2.ensures
    (goes_on c.from_residual-in_err-write_number-4.result _ _ _ (numbered (codes " strokes ") row.strokes) (from_layers row) c.in_ok-write_number-3.ensures
    (first_stopped c.from_residual-in_err-write_number-4.result _ _ (numbered (codes " layers ") row.layers) (from_lifts row) c.from_residual-in_err-write_number-4.ensures.0 c.in_err-write_number-4.ensures)))

pub returns-in_err-write_number-5 : goal.returns-in_err-write_number-5
returns-in_err-write_number-5 g c =
    let row = c.args.row.now in
    goes_on c.from_residual-in_err-write_number-5.result _ _ _ (numbered (codes "ws ") row.ws) (from_tool row) c.in_ok-write_number.ensures
    (goes_on c.from_residual-in_err-write_number-5.result _ _ _ (numbered (codes " tool ") row.tool) (from_strokes row) c.in_ok-write_number-2.ensures
    (goes_on c.from_residual-in_err-write_number-5.result _ _ _ (numbered (codes " strokes ") row.strokes) (from_layers row) c.in_ok-write_number-3.ensures
    (goes_on c.from_residual-in_err-write_number-5.result _ _ _ (numbered (codes " layers ") row.layers) (from_lifts row) c.in_ok-write_number-4.ensures
    (first_stopped c.from_residual-in_err-write_number-5.result _ _ (numbered (codes " lifts ") row.lifts) (from_cells row) c.from_residual-in_err-write_number-5.ensures.0 c.in_err-write_number-5.ensures))))

pub returns-in_err-write_number-6 : goal.returns-in_err-write_number-6
returns-in_err-write_number-6 g c =
    let row = c.args.row.now in
    goes_on c.from_residual-in_err-write_number-6.result _ _ _ (numbered (codes "ws ") row.ws) (from_tool row) c.in_ok-write_number.ensures
    (goes_on c.from_residual-in_err-write_number-6.result _ _ _ (numbered (codes " tool ") row.tool) (from_strokes row) c.in_ok-write_number-2.ensures
    (goes_on c.from_residual-in_err-write_number-6.result _ _ _ (numbered (codes " strokes ") row.strokes) (from_layers row) c.in_ok-write_number-3.ensures
    (goes_on c.from_residual-in_err-write_number-6.result _ _ _ (numbered (codes " layers ") row.layers) (from_lifts row) c.in_ok-write_number-4.ensures
    (goes_on c.from_residual-in_err-write_number-6.result _ _ _ (numbered (codes " lifts ") row.lifts) (from_cells row) c.in_ok-write_number-5.ensures
    (first_stopped c.from_residual-in_err-write_number-6.result _ _ (numbered (codes " cells ") row.cells) (codes "\n") c.from_residual-in_err-write_number-6.ensures.0 c.in_err-write_number-6.ensures)))))

pub returns : goal.returns
returns g c =
    let row = c.args.row.now in
    goes_on c.write_all.result _ _ _ (numbered (codes "ws ") row.ws) (from_tool row) c.in_ok-write_number.ensures
    (goes_on c.write_all.result _ _ _ (numbered (codes " tool ") row.tool) (from_strokes row) c.in_ok-write_number-2.ensures
    (goes_on c.write_all.result _ _ _ (numbered (codes " strokes ") row.strokes) (from_layers row) c.in_ok-write_number-3.ensures
    (goes_on c.write_all.result _ _ _ (numbered (codes " layers ") row.layers) (from_lifts row) c.in_ok-write_number-4.ensures
    (goes_on c.write_all.result _ _ _ (numbered (codes " lifts ") row.lifts) (from_cells row) c.in_ok-write_number-5.ensures
    (goes_on c.write_all.result _ _ _ (numbered (codes " cells ") row.cells) (codes "\n") c.in_ok-write_number-6.ensures
    c.write_all.ensures)))))
