use Rattle.std.proofs.lemmas.List.Elements.{Contains-get_or}
use Rattle.sn_feature.proofs.sketch.plane_points.Goals as goal

pub plane_point-requires : goal.plane_point-requires
plane_point-requires c = c.requires _ (Contains-get_or c.args.numbers.now c.loop-number.number-index 0 c.loop-number-test.true)
