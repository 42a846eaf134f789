use Rattle.std.proofs.Common.{rules, [], sym, subst}
use Rattle.sn_gwrite.specs.Agreement.{PartMeans}
use Rattle.sn_gwrite.specs.Kept.{Kept, begun}
use Rattle.sn_gwrite.specs.Program.{head_text}
use Rattle.sn_gwrite.proofs.PartMeanings.{head_means, means_as}
use Rattle.sn_gwrite.proofs.emitter.Emitter.head.Goals as goal

pub returns-clause-means : goal.returns-clause-means
returns-clause-means g c =
    let means = head_means c.args.tools.now c.of_tools.ensures.few c.of_tools.ensures.each in
    means_as c.args.self.now _ (begun c.args.self.now) _ _ (search rules)
    (subst (λ (kept : Kept). PartMeans kept (begun kept) (head_text c.args.tools.now) []) (sym c.requires) means)
