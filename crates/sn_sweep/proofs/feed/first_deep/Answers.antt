use Rattle.std.proofs.Common.{◌∙◌}
use Rattle.std.proofs.lemmas.Bool.{both_ways}
use Rattle.sn_sweep.proofs.CausesLemmas.{passed_on}
use Rattle.sn_sweep.proofs.FeedLemmas.{deep_cell, no_deep_cell}
use Rattle.sn_sweep.proofs.feed.first_deep.Goals as goal

pub returns-clause-some : goal.returns-clause-some
returns-clause-some c =
    deep_cell c.args.heights.now c.args.step.now c.args.from.now c.args.to.now _ c.first_touched.result
    (passed_on c.height_too_deep.result c.height_too_deep.type_inv ∙ c.height_too_deep.ensures) (λ vertical. both_ways _ c.if-is_vertical.false (c.is_vertical.ensures.1 vertical)) c.first_touched.ensures.some

pub returns-clause-none : goal.returns-clause-none
returns-clause-none c = λ none.
    no_deep_cell c.args.heights.now c.args.step.now c.args.from.now c.args.to.now _
    (passed_on c.height_too_deep.result c.height_too_deep.type_inv ∙ c.height_too_deep.ensures) (c.first_touched.ensures.none none)
