use Rattle.std.proofs.Common.{w32, ap}
use Rattle.std.proofs.lemmas.Int.{to_z-of_z}
use Rattle.sn_raster.proofs.Rows.{at, passed_length}
use Rattle.sn_raster.proofs.outlines.place_of.Goals as goal

pub coordinate-requires-clause-range : goal.coordinate-requires-clause-range
coordinate-requires-clause-range c =
    passed_length c.args.i _ c.args.g.now.pitch _ (to_z-of_z w32 c.args.i c.ranges.i) (ap (λ g. g.pitch) c.g.view_is) (c.rule.ensures.in_range (at c.args.i c.args.j) c.requires).x

pub coordinate-requires-2-clause-range : goal.coordinate-requires-2-clause-range
coordinate-requires-2-clause-range c =
    passed_length c.args.j _ c.args.g.now.pitch _ (to_z-of_z w32 c.args.j c.ranges.j) (ap (λ g. g.pitch) c.g.view_is) (c.rule.ensures.in_range (at c.args.i c.args.j) c.requires).y
