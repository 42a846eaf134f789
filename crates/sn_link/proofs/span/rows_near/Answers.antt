use Rattle.std.proofs.Common.{◌<◌, ap, subst, sym, ◌∙◌}
use Rattle.sn_raster.specs.Grid.{place}
use Rattle.sn_raster.proofs.Axis.{kept}
use Rattle.sn_open.specs.Window.{node_at}
use Rattle.sn_link.proofs.SpanLemmas.{beside_as}
use Rattle.sn_link.proofs.span.rows_near.Goals as goal

pub returns-clause-all : goal.returns-clause-all
returns-clause-all c = λ column row below near.
    let g = c.args.g.now in
    let way = c.args.way.now in
    let first = kept _ c.g.invariant.ends.rows.0 ∙ ap (λ g. g.j0) c.g.view_is in
    c.places_near.ensures.all row (subst (λ n. row < n) (sym c.rows_of.ensures.value) below)
    (beside_as c.args.d g.pitch _ row way.a.y way.b.y g.j0 _ first (ap (λ g. g.pitch) c.g.view_is)
    (c.nearness.ensures c.args.d way.a way.b (place g.pitch (node_at g column row)) near).1)
