use Rattle.std.proofs.Common.{ap, ◌∙◌, pos}
use Rattle.sn_open.proofs.WindowLemmas.{kept, small}
use Rattle.sn_open.proofs.ReachLemmas.{lowest_value}
use Rattle.sn_open.proofs.reach.lowest_height.Goals as goal

pub returns : goal.returns
returns c =
    let s = c.args.step.now in
    small c.max.result c.max.type_inv
    ∙ lowest_value s.floor (pos s.under) c.args.g.now.bottom c.deepest_of.result _ _ c.max.result c.deepest_of.ensures (small c.deepest_of.result c.deepest_of.type_inv)
    (kept _ c.g.invariant.heights.0 ∙ ap (λ g. g.bottom) c.g.view_is) c.max.ensures.value
