use Rattle.std.proofs.lemmas.Bool.{both_ways}
use Rattle.sn_open.specs.Update.{IsAlone}
use Rattle.sn_open.specs.Window.{node_at}
use Rattle.sn_open.proofs.SpreadLemmas.{one_more}
use Rattle.sn_open.proofs.planes.first_alone_in.Goals as goal

pub loop-column-preserved : goal.loop-column-preserved
loop-column-preserved c =
    one_more (λ k. ¬ IsAlone c.args.plane.now c.args.other.now (node_at c.args.g.now k c.args.row)) c.loop-column.column c.loop-column.invariant
    (λ alone. both_ways _ c.if-has_alone_at.false (c.has_alone_at.ensures.1 alone))
