use Rattle.std.proofs.Common.{◌<◌, ap, ◌∙◌, arith}
use Rattle.sn_raster.specs.Grid.{last_place, places}
use Rattle.sn_raster.proofs.Axis.{kept}
use Rattle.sn_link.proofs.SpanLemmas.{counted_up_to, kept_twice, places_as}
use Rattle.sn_link.proofs.span.places_up_to.Goals as goal

pub returns : goal.returns
returns c = λ k.
    let some : 0 < c.args.pitch = (let least = c.requires.pitch.at_least in omega (arith, least)) in
    counted_up_to c.args.first c.args.z c.args.pitch k c.count.result some
    (c.count.ensures ∙ places_as c.args.first _ c.last_up_to.result _ _ (kept c.args.first c.requires.first) (kept c.last_up_to.result c.last_up_to.ensures.size) c.last_up_to.ensures.value
    ∙ ap (λ z. places c.args.first (last_place c.args.pitch z)) (kept_twice c.args.z c.requires.coordinate))
