use Rattle.std.proofs.Common.{◌<◌, ap, ◌∙◌, arith}
use Rattle.std.specs.Int.{int_min, int_max}
use Rattle.sn_raster.proofs.Axis.{kept}
use Rattle.sn_raster.proofs.Besides.{first_is_beside, last_is_beside, most_at_most, least_at_least}
use Rattle.sn_raster.proofs.reach.places_beside.Goals as goal

pub returns-clause-all : goal.returns-clause-all
returns-clause-all c =
    let grown = c.grown.result in
    let first = c.cut_to.ensures.first ∙ ap (int_max grown.first) (kept c.args.first c.requires.first) in
    let last = c.cut_to.ensures.last ∙ ap (int_min grown.last) (kept c.args.last c.requires.last) in
    let some : 0 < c.args.pitch = (let p = c.requires.pitch.at_least in omega (arith, p)) in
    λ k low high beside.
    let from = first_is_beside c.args.d c.args.pitch c.half.result c.args.a c.args.b k c.lower.result grown.first some c.lower.ensures c.half.ensures c.grown.ensures.first beside in
    let to = last_is_beside c.args.d c.args.pitch c.half.result c.args.a c.args.b k c.higher.result grown.last some c.higher.ensures c.half.ensures c.grown.ensures.last beside in
    (most_at_most grown.first c.args.first k _ first from low, least_at_least grown.last c.args.last k _ last to high)
