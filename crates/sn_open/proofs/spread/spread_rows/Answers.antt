use Rattle.std.proofs.Common.{arith, ap}
use Rattle.sn_open.specs.declared.spread.Direction.TheVariants.{Rising, Falling}
use Rattle.sn_open.specs.Window.{columns, rows}
use Rattle.sn_open.specs.Spread.{quarter_of, HasTakenIn}
use Rattle.sn_open.proofs.SpreadLemmas.{one_more, more_gains}
use Rattle.sn_open.proofs.spread.spread_rows.Goals as goal

pub loop-row-preserved : goal.loop-row-preserved
loop-row-preserved c =
    let before = c.loop-row.invariant in
    let from = c.args.from.now in
    let after = c.spread_row.ensures in
    record {
      gaps = after.gaps;
      gains = more_gains from c.args.on c.args.widths.now c.args.to.now c.loop-row.to c.spread_row.new.to before.gains after.gains;
      rising = one_more (λ r. HasTakenIn from c.args.on (quarter_of Rising c.args.along) c.args.widths.now r c.spread_row.new.to (columns from.grid)) c.loop-row.row
          (λ r below k inside taken. after.gains.kept _ (before.rising r below k inside taken)) after.rising;
      falling = one_more (λ r. HasTakenIn from c.args.on (quarter_of Falling c.args.along) c.args.widths.now r c.spread_row.new.to (columns from.grid)) c.loop-row.row
          (λ r below k inside taken. after.gains.kept _ (before.falling r below k inside taken)) after.falling;
    }

pub returns-clause-rising : goal.returns-clause-rising
returns-clause-rising c = λ r below.
    let count_is = c.rows_of-count.ensures.value in
    let same = ap rows c.requires.grid in
    c.loop-row.invariant.rising r (omega (arith, c.loop-row-test.false))

pub returns-clause-falling : goal.returns-clause-falling
returns-clause-falling c = λ r below.
    let count_is = c.rows_of-count.ensures.value in
    let same = ap rows c.requires.grid in
    c.loop-row.invariant.falling r (omega (arith, c.loop-row-test.false))
