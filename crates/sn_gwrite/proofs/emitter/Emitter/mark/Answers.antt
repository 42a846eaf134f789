use Rattle.std.proofs.Common.{rules}
use Rattle.sn_gwrite.proofs.PartMeanings.{mark_means, means_as}
use Rattle.sn_gwrite.proofs.emitter.Emitter.mark.Goals as goal

pub returns-clause-means : goal.returns-clause-means
returns-clause-means g c =
    means_as c.args.self.now _ c.args.self.now _ _ (search rules) (mark_means c.args.self.now c.args.ws c.requires.begun c.requires.step c.ranges.ws.fits)
