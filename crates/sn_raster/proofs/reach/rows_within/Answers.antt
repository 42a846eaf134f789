use Rattle.std.proofs.Common.{◌∙◌, ap}
use Rattle.sn_raster.proofs.Axis.{kept}
use Rattle.sn_raster.proofs.Besides.{at_least_as, at_most_as}
use Rattle.sn_raster.proofs.PlaneRows.{within_at}
use Rattle.sn_raster.proofs.reach.rows_within.Goals as goal

pub returns-clause-all : goal.returns-clause-all
returns-clause-all c = λ j low high.
    let g = c.args.g.now in
    let first = kept _ c.g.invariant.ends.rows.0 ∙ ap (λ g. g.j0) c.g.view_is in
    let last = kept _ c.g.invariant.ends.rows.1 ∙ ap (λ g. g.j1) c.g.view_is in
    within_at _ g.pitch c.args.low c.args.high j (ap (λ g. g.pitch) c.g.view_is) (c.places_within.ensures.all j (at_least_as g.j0 _ j first low) (at_most_as g.j1 _ j last high))
