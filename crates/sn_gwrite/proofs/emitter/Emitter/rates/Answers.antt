use Rattle.std.proofs.Common.{rules}
use Rattle.sn_gwrite.specs.Kept.{with_rates}
use Rattle.sn_gwrite.proofs.PartMeanings.{rates_mean, means_as}
use Rattle.sn_gwrite.proofs.emitter.Emitter.rates.Goals as goal

pub returns-clause-means : goal.returns-clause-means
returns-clause-means g c =
    means_as c.args.self.now _ (with_rates c.args.self.now c.args.speed c.args.feed) _ _ (search rules)
    (rates_mean c.args.self.now c.args.speed c.args.feed c.requires.begun c.requires.speed c.requires.feed)
