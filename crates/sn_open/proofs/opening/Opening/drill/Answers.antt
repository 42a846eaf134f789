use Rattle.std.proofs.Common.{◌↔◌, ap, ◌∙◌, subst}
use Rattle.sn_raster.specs.Grid.{Grid, Node, IsInRaw}
use Rattle.sn_raster.specs.Plane.{Has}
use Rattle.sn_open.specs.OnGrid.{IsDrilledOn}
use Rattle.sn_open.proofs.UpdateLemmas.{of_grid}
use Rattle.sn_open.proofs.OpeningLemmas.{IsMaking, drilled}
use Rattle.sn_open.proofs.opening.Opening.drill.Goals as goal

pub returns-clause-opening : goal.returns-clause-opening
returns-clause-opening c = λ job of.
    let g = c.args.g.now in
    let s = c.args.s.now in
    let making : IsMaking g job s = record {
      rule = c.rule.ensures;
      with = c.requires.executed;
      of = of;
      margin = c.grids.ensures.margin;
      raws = c.grids.ensures.raw;
      outside = c.outside.ensures.allowed;
      discs = c.outside.ensures.discs;
    } in
    let cells = c.refill.new.self in
    let same = c.refill.ensures.grid in
    let are = c.refill.ensures.allowed job of in
    let near = c.add_drilled.new.plane in
    let near_g = c.clear.ensures.grid ∙ c.self.invariant.0 ∙ ap (λ p. p.grid) c.self.view_is ∙ c.requires.grid in
    drilled g job s cells near c.keep_raw.new.to making same are
    (of_grid (IsDrilledOn cells.plane s s.outline.shape) near _ g near_g c.add_drilled.ensures.nodes)
    (subst (λ (h : Grid). (n : Node) → Has c.keep_raw.new.to n ↔ (Has near n × IsInRaw h n)) same c.keep_raw.ensures.nodes)
