use Rattle.std.proofs.Common.{subst}
use Rattle.sn_raster.specs.Grid.{Node, IsInRaw}
use Rattle.sn_raster.proofs.HeightMaps.{passed_node}
use Rattle.sn_raster.proofs.heights.raw_height.Goals as goal

pub returns-then-is_raw-clause-others : goal.returns-then-is_raw-clause-others
returns-then-is_raw-clause-others c =
    λ off.
    let P : Node → Type 0 = λ n. IsInRaw c.args.g.now n in
    absurd (off (subst P (passed_node c.args.i c.args.j c.ranges.i c.ranges.j) (c.is_raw.ensures.0 c.if-is_raw.true)))
