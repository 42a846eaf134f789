use Rattle.std.proofs.Common.{below_more, sym, ◌∙◌}
use Rattle.std.proofs.lemmas.Bool.{false≢true}
use Rattle.sn_raster.specs.Plane.{Has}
use Rattle.sn_open.specs.Window.{node_at}
use Rattle.sn_fit.proofs.drill.has_node_in.Goals as goal

pub loop-column-preserved : goal.loop-column-preserved
loop-column-preserved c =
    below_more (λ k. ¬ Has c.args.plane.now (node_at c.args.g.now k c.args.row)) c.loop-column.column c.loop-column.invariant
    (λ has. false≢true (sym c.if-has_at.false ∙ c.has_at.ensures.1 has))
