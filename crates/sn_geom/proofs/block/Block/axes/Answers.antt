use Rattle.sn_geom.proofs.AxisLengths.{axes_are_lengths}
use Rattle.sn_geom.proofs.block.Block.axes.Goals as goal

pub returns : goal.returns
returns c = axes_are_lengths c.args.self.now c.rule.ensures
