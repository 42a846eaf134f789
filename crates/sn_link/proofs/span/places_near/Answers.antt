use Rattle.std.proofs.Common.{◌<◌, subst, sym}
use Rattle.sn_raster.proofs.Axis.{kept}
use Rattle.sn_link.proofs.SpanLemmas.{kept_twice, up_to_as, within_span}
use Rattle.sn_link.proofs.span.places_near.Goals as goal

pub returns-clause-all : goal.returns-clause-all
returns-clause-all c = λ k below beside.
    let first = kept c.args.first c.requires.first in
    let inside =
    within_span c.args.a c.args.b c.before-2.result c.after.result _ c.args.d c.half-out.result k c.places_up_to.result c.places_up_to-2.result c.args.count
    c.half-out.ensures.value c.before-2.ensures.value c.after.ensures.value
    (up_to_as c.args.first _ c.before-2.result _ c.args.pitch k c.places_up_to.result first (kept_twice c.before-2.result c.before-2.ensures.size) (c.places_up_to.ensures k))
    (up_to_as c.args.first _ c.after.result _ c.args.pitch k c.places_up_to-2.result first (kept_twice c.after.result c.after.ensures.size) (c.places_up_to-2.ensures k))
    below beside in
    (inside.0, subst (λ n. k < n) (sym c.min.ensures) inside.1)
