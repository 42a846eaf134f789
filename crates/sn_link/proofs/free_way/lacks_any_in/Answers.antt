use Rattle.std.proofs.Common.{sym, ◌∙◌}
use Rattle.std.proofs.lemmas.Bool.{false≢true}
use Rattle.sn_open.specs.Window.{node_at}
use Rattle.sn_link.specs.Layering.{IsLacking}
use Rattle.sn_link.proofs.FreeWayLemmas.{not_both, one_on}
use Rattle.sn_link.proofs.free_way.lacks_any_in.Goals as goal

pub loop-column-preserved : goal.loop-column-preserved
loop-column-preserved c =
    one_on (λ k. ¬ IsLacking c.args.plane.now c.args.d c.args.way.now (node_at c.args.g.now k c.args.row)) c.args.span.from c.loop-column.column c.loop-column.invariant
    (λ lacks. false≢true (sym c.if-lacks_at.false ∙ c.lacks_at.ensures.1 lacks))

pub loop-column-init : goal.loop-column-init
loop-column-init c = λ k low below. absurd (not_both low below)
