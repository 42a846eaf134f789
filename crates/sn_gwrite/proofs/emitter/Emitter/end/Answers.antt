use Rattle.std.proofs.Common.{rules}
use Rattle.sn_gwrite.specs.Kept.{ended}
use Rattle.sn_gwrite.proofs.PartMeanings.{end_means, means_as}
use Rattle.sn_gwrite.proofs.emitter.Emitter.end.Goals as goal

pub returns-clause-means : goal.returns-clause-means
returns-clause-means g c = means_as c.args.self.now _ (ended c.args.self.now) _ _ (search rules) (end_means c.args.self.now c.requires)
