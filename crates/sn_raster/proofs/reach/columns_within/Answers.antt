use Rattle.std.proofs.Common.{◌∙◌, ap}
use Rattle.sn_raster.proofs.Axis.{kept}
use Rattle.sn_raster.proofs.Besides.{at_least_as, at_most_as}
use Rattle.sn_raster.proofs.PlaneRows.{within_at}
use Rattle.sn_raster.proofs.reach.columns_within.Goals as goal

pub returns-clause-all : goal.returns-clause-all
returns-clause-all c = λ i low high.
    let g = c.args.g.now in
    let first = kept _ c.g.invariant.ends.columns.0 ∙ ap (λ g. g.i0) c.g.view_is in
    let last = kept _ c.g.invariant.ends.columns.1 ∙ ap (λ g. g.i1) c.g.view_is in
    within_at _ g.pitch c.args.low c.args.high i (ap (λ g. g.pitch) c.g.view_is) (c.places_within.ensures.all i (at_least_as g.i0 _ i first low) (at_most_as g.i1 _ i last high))
