use Rattle.sn_open.specs.declared.spread.Direction.TheVariants.{Rising, Falling}
use Rattle.sn_open.proofs.SpreadLemmas.{row_by, more_gains, gains_of_row, taken_in_row}
use Rattle.sn_open.proofs.spread.spread_row.Goals as goal

pub returns-clause-gains : goal.returns-clause-gains
returns-clause-gains c =
    let from = c.args.from.now in
    let widths = c.args.widths.now in
    let gaps = c.pass_row.new.gaps in
    let rising = row_by widths gaps Rising c.args.along c.args.g.now from.grid _ c.args.row _ _ _ c.requires.grid c.rows_of.ensures.value c.place_of-at.ensures.value c.take_in.ensures in
    let falling = row_by widths gaps Falling c.args.along c.args.g.now from.grid _ c.args.row _ _ _ c.requires.grid c.rows_of.ensures.value c.place_of-at.ensures.value c.take_in-2.ensures in
    more_gains from c.args.on widths c.args.to.now c.take_in.new.to c.take_in-2.new.to
    (gains_of_row from c.args.on Rising c.args.along widths gaps c.args.row _ _ c.requires.row c.requires.widths c.pass_row.ensures rising)
    (gains_of_row from c.args.on Falling c.args.along widths gaps c.args.row _ _ c.requires.row c.requires.widths c.pass_row.ensures falling)

pub returns-clause-rising : goal.returns-clause-rising
returns-clause-rising c = λ k inside taken.
    let from = c.args.from.now in
    let widths = c.args.widths.now in
    let gaps = c.pass_row.new.gaps in
    let rising = row_by widths gaps Rising c.args.along c.args.g.now from.grid _ c.args.row _ _ _ c.requires.grid c.rows_of.ensures.value c.place_of-at.ensures.value c.take_in.ensures in
    c.take_in-2.ensures.kept _ (taken_in_row from c.args.on Rising c.args.along widths gaps c.args.row _ _ c.requires.row c.requires.widths c.pass_row.ensures rising k inside taken)

pub returns-clause-falling : goal.returns-clause-falling
returns-clause-falling c =
    let from = c.args.from.now in
    let widths = c.args.widths.now in
    let gaps = c.pass_row.new.gaps in
    let falling = row_by widths gaps Falling c.args.along c.args.g.now from.grid _ c.args.row _ _ _ c.requires.grid c.rows_of.ensures.value c.place_of-at.ensures.value c.take_in-2.ensures in
    taken_in_row from c.args.on Falling c.args.along widths gaps c.args.row _ _ c.requires.row c.requires.widths c.pass_row.ensures falling
