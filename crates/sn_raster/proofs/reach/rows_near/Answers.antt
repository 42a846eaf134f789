use Rattle.std.proofs.Common.{◌∙◌, ap}
use Rattle.sn_raster.specs.Grid.{place}
use Rattle.sn_raster.proofs.Axis.{kept}
use Rattle.sn_raster.proofs.Besides.{near_up, beside_at, at_least_as, at_most_as}
use Rattle.sn_raster.proofs.reach.rows_near.Goals as goal

pub returns-clause-all : goal.returns-clause-all
returns-clause-all c = λ n window near.
    let g = c.args.g.now in
    let a = c.args.a.now in
    let b = c.args.b.now in
    let first = kept _ c.g.invariant.ends.rows.0 ∙ ap (λ g. g.j0) c.g.view_is in
    let last = kept _ c.g.invariant.ends.rows.1 ∙ ap (λ g. g.j1) c.g.view_is in
    c.places_beside.ensures.all n.j (at_least_as g.j0 _ n.j first window.front) (at_most_as g.j1 _ n.j last window.back)
    (beside_at c.args.d g.pitch _ a.y b.y n.j (ap (λ g. g.pitch) c.g.view_is) (near_up c.args.d a b (place g.pitch n) near))
