use Rattle.std.proofs.Common.{rules}
use Rattle.sn_gwrite.specs.Kept.{with_tool}
use Rattle.sn_gwrite.proofs.PartMeanings.{change_means, means_as}
use Rattle.sn_gwrite.proofs.emitter.Emitter.change_tool.Goals as goal

pub returns-clause-means : goal.returns-clause-means
returns-clause-means g c =
    means_as c.args.self.now _ (with_tool c.args.self.now c.args.k) _ _ (search rules) (change_means c.args.self.now c.args.k c.requires.begun c.requires.number)
