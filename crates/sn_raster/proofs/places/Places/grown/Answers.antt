use Rattle.std.proofs.Common.{◌≡◌, pos, ◌+ℤ◌, ◌-ℤ◌, w32, to_z, of_z, ap, ◌∙◌, arith}
use Rattle.std.proofs.lemmas.Int.{ints}
use Rattle.sn_raster.specs.Grid.{first_place, last_place}
use Rattle.sn_raster.proofs.Axis.{kept}
use Rattle.sn_raster.proofs.places.Places.grown.Goals as goal

pub returns-clause-first : goal.returns-clause-first
returns-clause-first c =
    let lowered : to_z w32 (of_z w32 (to_z w32 (of_z w32 c.get.result) -ℤ to_z w32 c.args.margin)) ≡ c.args.low -ℤ pos c.args.margin = omega (arith, ints, c.get.ensures.range) in
    kept c.first_from.result c.first_from.ensures.size ∙ c.first_from.ensures.value ∙ ap (first_place c.args.pitch) lowered

pub returns-clause-last : goal.returns-clause-last
returns-clause-last c =
    let raised : to_z w32 (of_z w32 (to_z w32 (of_z w32 c.get-2.result) +ℤ to_z w32 c.args.margin)) ≡ c.args.high +ℤ pos c.args.margin = omega (arith, ints, c.get-2.ensures.range) in
    kept c.last_up_to.result c.last_up_to.ensures.size ∙ c.last_up_to.ensures.value ∙ ap (last_place c.args.pitch) raised
