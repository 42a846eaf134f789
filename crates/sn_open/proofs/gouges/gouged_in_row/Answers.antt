use Rattle.std.proofs.Common.{pos, ◌+ℤ◌}
use Rattle.std.proofs.lemmas.Bool.{both_ways}
use Rattle.sn_open.proofs.GougeLemmas.{IsMove, gouged_beside}
use Rattle.sn_open.proofs.gouges.gouged_in_row.Goals as goal

pub returns-then-not-is_row_near-clause-none : goal.returns-then-not-is_row_near-clause-none
returns-then-not-is_row_near-clause-none c = λ _ cell is gouged.
    let g = c.args.g.now in
    let move : IsMove c.args.map.now g c.args.a.now c.args.b.now = record { law = c.touching.ensures.height_and_plan; grid = c.requires.grid; straight = c.requires.not_slanted } in
    both_ways _ c.if-not-is_row_near.true
    (c.is_row_near.ensures.1 (gouged_beside c.args.map.now g c.args.d c.args.a.now c.args.b.now c.args.ok.now cell (g.j0 +ℤ pos c.args.row) move is gouged))
