use Rattle.std.proofs.Common.{◌∙◌, ap}
use Rattle.sn_raster.specs.Grid.{place}
use Rattle.sn_raster.proofs.Axis.{kept}
use Rattle.sn_raster.proofs.Besides.{near_across, beside_at, at_least_as, at_most_as}
use Rattle.sn_raster.proofs.reach.columns_near.Goals as goal

pub returns-clause-all : goal.returns-clause-all
returns-clause-all c = λ n window near.
    let g = c.args.g.now in
    let a = c.args.a.now in
    let b = c.args.b.now in
    let first = kept _ c.g.invariant.ends.columns.0 ∙ ap (λ g. g.i0) c.g.view_is in
    let last = kept _ c.g.invariant.ends.columns.1 ∙ ap (λ g. g.i1) c.g.view_is in
    c.places_beside.ensures.all n.i (at_least_as g.i0 _ n.i first window.left) (at_most_as g.i1 _ n.i last window.right)
    (beside_at c.args.d g.pitch _ a.x b.x n.i (ap (λ g. g.pitch) c.g.view_is) (near_across c.args.d a b (place g.pitch n) near))
