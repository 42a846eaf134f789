use Rattle.std.proofs.Common.{sym, ap, subst}
use Rattle.std.proofs.lemmas.Bool.{both_ways}
use Rattle.sn_raster.specs.Grid.{IsInWindow}
use Rattle.sn_raster.specs.Heights.{node_of}
use Rattle.sn_open.specs.Window.{node_at}
use Rattle.sn_sweep.proofs.LeftLemmas.{in_window_at, lowest_is_left, lowest_is_first}
use Rattle.sn_sweep.proofs.left.left_over.Goals as goal

pub is_left-requires : goal.is_left-requires
is_left-requires c =
    let g = c.args.g.now in
    subst (λ n. IsInWindow c.args.map.now.grid n) (sym (ap node_of c.lowest_cell-cell.ensures))
    (subst (λ h. IsInWindow h (node_at g c.args.column c.args.row)) (sym c.requires.grid) (in_window_at g c.args.column c.args.row c.requires.column c.requires.row))

pub returns-then-not-is_below-clause-none : goal.returns-then-not-is_below-clause-none
returns-then-not-is_below-clause-none c = λ _ cell is standing.
    both_ways _ c.if-not-is_below.true
    (c.is_below.ensures.1
    (lowest_is_left c.args.nodes.now c.args.map.now c.args.g.now c.args.band.now c.lowest_cell-cell.result cell c.args.column c.args.row c.requires.grid c.lowest_cell-cell.ensures is standing).0)

pub returns-then-not-is_left-clause-none : goal.returns-then-not-is_left-clause-none
returns-then-not-is_left-clause-none c = λ _ cell is standing.
    both_ways _ c.if-not-is_left.true
    (c.is_left.ensures.1
    (lowest_is_left c.args.nodes.now c.args.map.now c.args.g.now c.args.band.now c.lowest_cell-cell.result cell c.args.column c.args.row c.requires.grid c.lowest_cell-cell.ensures is standing).1)

pub returns-clause-some : goal.returns-clause-some
returns-clause-some c =
    let g = c.args.g.now in
    lowest_is_first c.args.nodes.now c.args.map.now g c.args.band.now c.lowest_cell-cell.result c.args.column c.args.row c.requires.grid c.lowest_cell-cell.ensures
    (in_window_at g c.args.column c.args.row c.requires.column c.requires.row)
    (c.has_at.ensures.0 c.if-not-has_at.false)
    (c.is_below.ensures.0 c.if-not-is_below.false, c.is_left.ensures.0 c.if-not-is_left.false)
