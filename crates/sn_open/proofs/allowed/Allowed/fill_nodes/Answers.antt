use Rattle.std.proofs.Common.{◌≡◌, ◌*◌, ◌↔◌, ap, ◌∙◌, subst}
use Rattle.sn_raster.specs.Grid.{Grid, Node, IsGrid, IsInWindow, IsInRaw}
use Rattle.sn_raster.specs.Plane.{Has}
use Rattle.sn_open.specs.Morphology.{HasDisc}
use Rattle.sn_open.specs.OnGrid.{KeepsSideOn}
use Rattle.sn_open.proofs.RegionLemmas.{kept_side}
use Rattle.sn_open.proofs.allowed.Allowed.fill_nodes.Goals as goal

pub returns-clause-nodes : goal.returns-clause-nodes
returns-clause-nodes c =
    let g = c.self.inside.nodes.grid in
    let room = c.self.invariant.1 in
    let filled = c.fill.new.plane in
    let refused = c.invert.new.self in
    let kept = c.keep_raw.new.to in
    let spare = c.invert-2.new.self in
    let nodes = c.erode.new.to in
    let rule : IsGrid g = subst IsGrid c.grid-g.ensures c.rule.ensures in
    let filled_grid : filled.grid ≡ g = c.fill.ensures.grid in
    let refused_grid : refused.grid ≡ g = c.invert.ensures.grid ∙ filled_grid in
    let kept_grid : kept.grid ≡ g = c.keep_raw.ensures.grid ∙ room in
    let spare_grid : spare.grid ≡ g = c.invert-2.ensures.grid ∙ kept_grid in
    let is = kept_side g c.args.o.now c.args.side filled refused kept spare nodes rule filled_grid refused_grid kept_grid spare_grid
    c.fill.ensures.nodes c.invert.ensures.nodes
    (subst (λ (h : Grid). (n : Node) → Has kept n ↔ (Has refused n × IsInRaw h n)) room c.keep_raw.ensures.nodes)
    c.invert-2.ensures.nodes
    (subst (λ (h : Grid). (n : Node) → Has nodes n ↔ (IsInWindow h n × HasDisc spare (2 * c.args.side) n)) room c.erode.ensures.nodes) in
    subst (λ (h : Grid). (n : Node) → Has nodes n ↔ (IsInWindow h n × KeepsSideOn h c.args.o.now c.args.side n)) (ap (λ s. s.plane.grid) c.self.view_is) is
