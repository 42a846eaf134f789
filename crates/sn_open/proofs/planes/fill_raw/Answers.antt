use Rattle.std.proofs.Common.{◌↔◌, subst, sym, ◌∙◌, arith}
use Rattle.sn_raster.specs.Grid.{Node, IsInRaw}
use Rattle.sn_raster.specs.Plane.{Has}
use Rattle.sn_open.specs.Window.{columns}
use Rattle.sn_open.proofs.UpdateLemmas.{no_row, one_row, all_rows}
use Rattle.sn_open.proofs.planes.fill_raw.Goals as goal

pub loop-row-init : goal.loop-row-init
loop-row-init c = no_row (λ n. IsInRaw c.grid-g.result n) c.grid-g.result c.args.plane.now (sym c.grid-g.ensures)

pub loop-row-preserved : goal.loop-row-preserved
loop-row-preserved c =
    let g = c.grid-g.result in
    let row_in = c.loop-row-test.true in
    let rows_is = c.rows_of-row-end.ensures.value in
    one_row (λ n. IsInRaw c.grid-g.result n) (λ n. IsInRaw c.grid-g.result n) g c.loop-row.row (columns g) c.args.plane.now c.loop-row.plane c.fill_raw_row.new.plane (omega arith) (omega arith)
    (λ k inside. ((λ raw. raw), (λ raw. raw))) c.loop-row.invariant c.fill_raw_row.ensures

pub returns-clause-grid : goal.returns-clause-grid
returns-clause-grid c = c.loop-row.invariant.grid ∙ c.grid-g.ensures

pub returns-clause-nodes : goal.returns-clause-nodes
returns-clause-nodes c =
    let g = c.grid-g.result in
    let end = c.loop-row-test.false in
    let rows_is = c.rows_of-row-end.ensures.value in
    subst (λ h. (n : Node) → Has c.loop-row.plane n ↔ IsInRaw h n) c.grid-g.ensures
    (λ n.
    let all = all_rows (λ m. IsInRaw g m) g c.loop-row.row c.args.plane.now c.loop-row.plane (omega arith) c.loop-row.invariant n in
    ((λ has. (all.0 has).1), (λ raw. all.1 (c.rule.ensures.raw n raw, raw))))
