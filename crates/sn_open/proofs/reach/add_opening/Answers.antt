use Rattle.std.proofs.Common.{◌↔◌, ◌⊎◌, subst, w32, to_z, of_z}
use Rattle.std.proofs.lemmas.Int.{to_z-of_z}
use Rattle.sn_open.specs.Search.{OpensAt}
use Rattle.std.proofs.lemmas.Bool.{both_ways}
use Rattle.sn_raster.specs.Grid.{Node}
use Rattle.sn_raster.specs.Plane.{Plane, Has}
use Rattle.sn_open.proofs.ReachLemmas.{proper_step, added_opening, no_opening}
use Rattle.sn_open.proofs.reach.add_opening.Goals as goal

pub opens_at-requires : goal.opens_at-requires
opens_at-requires c = proper_step c.args.j.now c.args.step.now c.rule.ensures c.requires.executed

pub returns-then-opens_at-clause-nodes : goal.returns-then-opens_at-clause-nodes
returns-then-opens_at-clause-nodes c =
    let same = to_z-of_z w32 c.args.z c.ranges.z in
    let z = to_z w32 (of_z w32 c.args.z) in
    subst (λ z. (n : Node) → Has c.unite.new.self n ↔ (Has c.args.reached.now n ⊎ OpensAt c.args.j.now c.args.feature z c.args.step.now n)) same
    (added_opening c.args.j.now c.args.feature z c.args.step.now c.args.reached.now c.unite.new.self c.refill.new.self (c.opens_at.ensures.0 c.if-opens_at.true)
    (c.refill.ensures.opening c.args.j.now c.requires.grid)
    (subst (λ (p : Plane). (n : Node) → Has c.unite.new.self n ↔ (Has c.args.reached.now n ⊎ Has p n)) c.nodes.ensures c.unite.ensures.nodes))

pub returns-else-opens_at-clause-nodes : goal.returns-else-opens_at-clause-nodes
returns-else-opens_at-clause-nodes c =
    let same = to_z-of_z w32 c.args.z c.ranges.z in
    let z = to_z w32 (of_z w32 c.args.z) in
    subst (λ z. (n : Node) → Has c.args.reached.now n ↔ (Has c.args.reached.now n ⊎ OpensAt c.args.j.now c.args.feature z c.args.step.now n)) same
    (no_opening c.args.j.now c.args.feature z c.args.step.now c.args.reached.now (λ full. both_ways _ c.if-opens_at.false (c.opens_at.ensures.1 full)))
