use Rattle.std.proofs.Common.{◌<◌, ap, ◌∙◌, arith}
use Rattle.std.specs.Int.{int_min, int_max}
use Rattle.sn_raster.proofs.Axis.{kept}
use Rattle.sn_raster.proofs.PlaneRows.{within_iff}
use Rattle.sn_raster.proofs.reach.places_within.Goals as goal

pub returns-clause-all : goal.returns-clause-all
returns-clause-all c =
    let between = c.between.result in
    let some : 0 < c.args.pitch = (let p = c.requires.pitch.at_least in omega (arith, p)) in
    let first = c.cut_to.ensures.first ∙ ap (int_max between.first) (kept c.args.first c.requires.first) in
    let last = c.cut_to.ensures.last ∙ ap (int_min between.last) (kept c.args.last c.requires.last) in
    λ k after before. within_iff c.args.pitch c.args.low c.args.high k c.args.first c.args.last between.first between.last _ _ some c.between.ensures.first c.between.ensures.last first last after before
