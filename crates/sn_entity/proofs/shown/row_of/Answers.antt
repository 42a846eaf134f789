use Rattle.sn_entity.proofs.RowNames.{no_row, only_row}
use Rattle.sn_entity.proofs.shown.row_of.Goals as goal

pub returns-clause-only : goal.returns-clause-only
returns-clause-only c =
    only_row c.args.name.now c.in_third_rows.result c.in_third_rows.ensures.found
    (λ e id. no_row c.args.name.now id c.in_default.ensures.none c.in_default-in_second_rows.ensures.none (rw e at c.in_third_rows.ensures.none))
