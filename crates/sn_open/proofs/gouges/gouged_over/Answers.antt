use Rattle.std.proofs.Common.{sym, ap, subst}
use Rattle.std.proofs.lemmas.Bool.{both_ways}
use Rattle.sn_raster.specs.Grid.{IsInWindow}
use Rattle.sn_raster.specs.Heights.{node_of}
use Rattle.sn_open.specs.Window.{node_at}
use Rattle.sn_open.proofs.WindowLemmas.{in_window_at, in_own_window}
use Rattle.sn_open.proofs.GougeLemmas.{IsMove, gouged_is_left, allowed_over, first_over}
use Rattle.sn_open.proofs.gouges.gouged_over.Goals as goal

pub is_left-requires : goal.is_left-requires
is_left-requires c =
    let g = c.args.g.now in
    subst (λ n. IsInWindow c.args.map.now.grid n) (sym (ap node_of c.lowest_cell-cell.ensures))
    (in_own_window c.args.map.now.grid g (node_at g c.args.column c.args.row) c.requires.grid (in_window_at g c.args.column c.args.row c.requires.column c.requires.row))

pub returns-then-not-is_left-clause-none : goal.returns-then-not-is_left-clause-none
returns-then-not-is_left-clause-none c = λ _ cell is gouged.
    let move : IsMove c.args.map.now c.args.g.now c.args.a.now c.args.b.now = record { law = c.touching.ensures.height_and_plan; grid = c.requires.grid; straight = c.requires.not_slanted } in
    both_ways _ c.if-not-is_left.true
    (c.is_left.ensures.1
    (gouged_is_left c.args.map.now c.args.g.now c.args.d c.args.a.now c.args.b.now c.args.ok.now c.lowest_cell-cell.result cell c.args.column c.args.row move c.lowest_cell-cell.ensures is gouged))

pub is_in-requires-clause-node : goal.is_in-requires-clause-node
is_in-requires-clause-node c = ap node_of c.lowest_cell-cell.ensures

pub returns-then-is_in-clause-none : goal.returns-then-is_in-clause-none
returns-then-is_in-clause-none c = λ _ cell is gouged.
    let move : IsMove c.args.map.now c.args.g.now c.args.a.now c.args.b.now = record { law = c.touching.ensures.height_and_plan; grid = c.requires.grid; straight = c.requires.not_slanted } in
    allowed_over c.args.map.now c.args.g.now c.args.d c.args.a.now c.args.b.now c.args.ok.now c.lowest_cell-cell.result cell c.args.column c.args.row move c.lowest_cell-cell.ensures is
    (c.is_in.ensures.0 c.if-is_in.true) gouged

pub returns-clause-some : goal.returns-clause-some
returns-clause-some c =
    let g = c.args.g.now in
    let move : IsMove c.args.map.now g c.args.a.now c.args.b.now = record { law = c.touching.ensures.height_and_plan; grid = c.requires.grid; straight = c.requires.not_slanted } in
    first_over c.args.map.now g c.args.d c.args.a.now c.args.b.now c.args.ok.now c.lowest_cell-cell.result c.args.column c.args.row move c.lowest_cell-cell.ensures
    (in_window_at g c.args.column c.args.row c.requires.column c.requires.row)
    (c.is_near.ensures.0 c.if-not-is_near.false)
    (c.is_left.ensures.0 c.if-not-is_left.false)
    (λ has. both_ways _ c.if-is_in.false (c.is_in.ensures.1 has))
