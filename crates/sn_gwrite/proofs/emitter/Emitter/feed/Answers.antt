use Rattle.sn_gwrite.proofs.PartMeanings.{feed_means, means_as, where_ok}
use Rattle.sn_gwrite.proofs.emitter.Emitter.feed.Goals as goal

pub returns-clause-means : goal.returns-clause-means
returns-clause-means g c =
    let means =
    feed_means c.args.self.now c.args.p.now c.rule.ensures c.requires.begun c.requires.tool c.requires.rates c.requires.straight c.of_point.ensures in
    where_ok c.motion.result _ _ (λ moved. means_as c.args.self.now c.motion.new.self _ _ _ moved means) c.motion.ensures.ok
