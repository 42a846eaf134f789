use Rattle.sn_refs.proofs.MergeLemmas.{least_of_none, least_of_more, least_of_all}
use Rattle.sn_refs.proofs.walk.least.Goals as goal

pub loop-n-init : goal.loop-n-init
loop-n-init c = least_of_none c.args.before

pub loop-n-preserved : goal.loop-n-preserved
loop-n-preserved c = least_of_more c.args.before c.args.numbers.now c.loop-n.n-index c.loop-n.least c.lesser.result c.loop-n-test.true c.lesser.ensures c.loop-n.invariant

pub returns : goal.returns
returns c = least_of_all c.args.before c.args.numbers.now c.loop-n.n-index c.loop-n.least c.loop-n-test.false c.loop-n.invariant
