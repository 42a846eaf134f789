use Rattle.std.proofs.Common.{◌∙◌, sym}
use Rattle.sn_open.specs.Update.{IsAlone}
use Rattle.sn_open.specs.Window.{node_at}
use Rattle.sn_open.proofs.SpreadLemmas.{one_more}
use Rattle.sn_open.proofs.UpdateLemmas.{none_alone}
use Rattle.sn_open.proofs.planes.first_alone.Goals as goal

pub loop-row-preserved : goal.loop-row-preserved
loop-row-preserved c = λ k r k_in below.
    one_more (λ r. ¬ IsAlone c.args.plane.now c.args.other.now (node_at c.grid-g.result k r)) c.loop-row.row (λ r below. c.loop-row.invariant k r k_in below)
    (c.first_alone_in-found.ensures.none (sym c.is_some.ensures ∙ c.if-is_some.false) k k_in) r below

pub returns-clause-none : goal.returns-clause-none
returns-clause-none c = λ _.
    none_alone c.args.plane.now c.args.other.now c.grid-g.result c.rows_of-row-end.result c.loop-row.row c.grid-g.ensures c.requires c.rows_of-row-end.ensures.value c.loop-row-test.false c.loop-row.invariant
