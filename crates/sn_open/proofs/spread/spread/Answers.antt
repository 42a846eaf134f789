use Rattle.sn_open.proofs.QuarterLemmas.{has_covered}
use Rattle.sn_open.proofs.SpreadLemmas.{more_gains}
use Rattle.sn_open.proofs.spread.spread.Goals as goal

pub returns-clause-nodes : goal.returns-clause-nodes
returns-clause-nodes c =
    let from = c.args.from.now in
    let first = c.spread_rows.ensures in
    let second = c.spread_rows-2.ensures in
    has_covered from c.args.on c.args.widths.now c.clear.new.plane c.spread_rows-2.new.to c.clear.ensures.nodes
    (more_gains from c.args.on c.args.widths.now c.clear.new.plane c.spread_rows.new.to c.spread_rows-2.new.to first.gains second.gains)
    (λ r below k inside taken. second.gains.kept _ (first.rising r below k inside taken))
    (λ r below k inside taken. second.gains.kept _ (first.falling r below k inside taken))
    second.rising second.falling
