use Rattle.std.proofs.lemmas.Bool.{false≢true}
use Rattle.std.proofs.Common.{sym, ◌∙◌, subst}
use Rattle.sn_raster.specs.Grid.{Node}
use Rattle.sn_raster.specs.Plane.{Plane, Has}
use Rattle.sn_open.proofs.OpeningLemmas.{disc_is, with_room, without_room}
use Rattle.sn_open.proofs.opening.add_disc_with_room.Goals as goal

pub returns-then-not-is_within-clause-nodes : goal.returns-then-not-is_within-clause-nodes
returns-then-not-is_within-clause-nodes c =
    let allowed = c.args.allowed.now.plane in
    let old = c.args.plane.now in
    let near = c.add_near.new.plane in
    let is = disc_is c.nearness.ensures.one_place c.args.d c.args.centre.now allowed old near c.requires.grid c.requires.empty c.add_near.ensures.nodes in
    without_room c.args.d c.args.centre.now allowed old near c.clear.new.self c.requires.grid is (subst (λ (p : Plane). (m : Node) × Has near m × (¬ Has p m)) c.nodes.ensures (c.is_within.ensures.no (λ yes. false≢true (sym c.if-not-is_within.true ∙ yes)))) c.clear.ensures.nodes

pub returns-else-not-is_within-clause-nodes : goal.returns-else-not-is_within-clause-nodes
returns-else-not-is_within-clause-nodes c =
    let allowed = c.args.allowed.now.plane in
    let old = c.args.plane.now in
    let near = c.add_near.new.plane in
    let is = disc_is c.nearness.ensures.one_place c.args.d c.args.centre.now allowed old near c.requires.grid c.requires.empty c.add_near.ensures.nodes in
    with_room c.args.d c.args.centre.now allowed old near c.requires.grid is (subst (λ (p : Plane). (m : Node) → Has near m → Has p m) c.nodes.ensures (c.is_within.ensures.yes c.if-not-is_within.false))
