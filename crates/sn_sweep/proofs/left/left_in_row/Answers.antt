use Rattle.std.proofs.Common.{⊎_elim, subst, sym, ◌∙◌}
use Rattle.sn_raster.specs.Grid.{Grid, IsInWindow}
use Rattle.sn_raster.specs.Heights.{node_of}
use Rattle.sn_open.specs.Window.{columns}
use Rattle.sn_sweep.proofs.LeftLemmas.{next_column, before_end, past_all}
use Rattle.sn_sweep.proofs.left.left_in_row.Goals as goal

pub loop-column-preserved : goal.loop-column-preserved
loop-column-preserved c = λ cell row before standing.
    ⊎_elim {C = ⊥} (λ earlier. c.loop-column.invariant cell row earlier standing)
    (λ here. c.left_over-found.ensures.none (sym c.is_some.ensures ∙ c.if-is_some.false) cell here standing)
    (next_column c.args.g.now (node_of cell) c.loop-column.column c.args.row row before)

pub returns-clause-none : goal.returns-clause-none
returns-clause-none c = λ _ cell row standing.
    let g = c.args.g.now in
    let window = subst (λ (h : Grid). IsInWindow h (node_of cell)) c.requires.grid standing.left.in_window in
    c.loop-column.invariant cell row
    (past_all cell.i g.i0 (columns g) c.columns_of-column-end.result c.loop-column.column (before_end g (node_of cell) window) c.columns_of-column-end.ensures.value c.loop-column-test.false)
    standing
