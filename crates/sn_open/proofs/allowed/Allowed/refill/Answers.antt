use Rattle.std.proofs.Common.{◌↔◌, ap, sym, ◌∙◌, subst}
use Rattle.sn_raster.specs.Grid.{Node, IsGridOf, IsInWindow}
use Rattle.sn_raster.specs.Plane.{Plane, Has}
use Rattle.sn_open.specs.Region.{InAllowed}
use Rattle.sn_open.proofs.RegionLemmas.{allowed_by_side}
use Rattle.sn_open.proofs.allowed.Allowed.refill.Goals as goal

pub returns-clause-allowed : goal.returns-clause-allowed
returns-clause-allowed c = λ job of.
    let g = c.args.g.now in
    let filled = c.fill_nodes.new.self.plane in
    let is = allowed_by_side c.grids.ensures.raw g c.args.self.now.plane.grid job c.args.s.now filled c.rule.ensures c.requires.grid c.fill_nodes.ensures.grid c.fill_nodes.ensures.nodes of in
    let same = sym (ap (λ s. s.plane) c.self.view_is) in
    record {
      grid = subst (λ (plane : Plane). IsGridOf plane.grid job) same (subst (λ h. IsGridOf h job) (sym (c.fill_nodes.ensures.grid ∙ c.requires.grid)) of);
      nodes = subst (λ (plane : Plane). (n : Node) → IsInWindow plane.grid n → Has plane n ↔ InAllowed job c.args.s.now n) same is;
      heights = c.lowest_of-self-inside.ensures;
    }
