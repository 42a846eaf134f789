use Rattle.std.proofs.Common.{◌↔◌, ap, ◌∙◌, subst}
use Rattle.sn_raster.specs.Grid.{Grid, Node, IsInWindow, IsInRaw}
use Rattle.sn_raster.specs.Plane.{Has}
use Rattle.sn_open.specs.Region.{IsFollowedAt}
use Rattle.sn_open.proofs.OpeningLemmas.{followed}
use Rattle.sn_open.proofs.opening.Opening.follow.Goals as goal

pub returns-clause-opening : goal.returns-clause-opening
returns-clause-opening c = λ job of.
    let g = c.args.g.now in
    let s = c.args.s.now in
    let near = c.add_followed.new.plane in
    let own_g = ap (λ p. p.grid) c.self.view_is ∙ c.requires.grid in
    followed g job s near c.keep_raw.new.to c.grids.ensures.raw c.rule.ensures of
    (subst (λ (h : Grid). (n : Node) → Has near n ↔ (IsInWindow h n × IsFollowedAt h.pitch s s.outline.shape n)) (c.clear.ensures.grid ∙ c.self.invariant.0 ∙ own_g) c.add_followed.ensures.nodes)
    (subst (λ (h : Grid). (n : Node) → Has c.keep_raw.new.to n ↔ (Has near n × IsInRaw h n)) (c.self.invariant.2 ∙ own_g) c.keep_raw.ensures.nodes)
