use Rattle.std.proofs.Common.{◌↔◌, ap, ◌∙◌, subst}
use Rattle.sn_raster.specs.Grid.{Grid, Node, IsInRaw}
use Rattle.sn_raster.specs.Plane.{Has}
use Rattle.sn_open.specs.Morphology.{HasDisc, IsNearOne, HasBlock}
use Rattle.sn_open.proofs.UpdateLemmas.{of_grid}
use Rattle.sn_open.proofs.OpeningLemmas.{IsMaking, rounded, required_nodes}
use Rattle.sn_open.proofs.required.Required.refill_by.Goals as goal

pub returns-clause-nodes : goal.returns-clause-nodes
returns-clause-nodes c = λ job of.
    let g = c.args.g.now in
    let s = c.args.s.now in
    let making : IsMaking g job s = record {
      rule = c.rule.ensures;
      with = c.requires.executed;
      of = of;
      margin = c.grids.ensures.margin;
      raws = c.grids.ensures.raw;
      outside = c.outside.ensures.allowed;
      discs = c.outside.ensures.discs;
    } in
    let cells = c.refill.new.self in
    let same = c.refill.ensures.grid in
    let are = c.refill.ensures.allowed job of in
    let centres = c.erode.new.to in
    let centres_g = c.erode.ensures.grid ∙ same in
    let dilated_g = ap (λ a. a.plane.grid) c.erode.ensures.allowed ∙ same in
    let near = c.dilate.new.to in
    let near_g = c.dilate.ensures.grid ∙ dilated_g in
    let kept_g = ap (λ a. a.plane.grid) c.dilate.ensures.allowed ∙ dilated_g in
    let bad = c.keep_raw.new.to in
    let bad_g = c.keep_raw.ensures.grid ∙ kept_g in
    let good = c.invert-2.new.self in
    let good_g = c.invert-2.ensures.grid ∙ bad_g in
    let last_g = ap (λ a. a.plane.grid) c.keep_blocks.ensures.allowed ∙ kept_g in
    required_nodes g job s near c.invert.new.self bad good c.keep_blocks.new.to c.keep_raw-2.new.to making
    (rounded g job s cells centres near making same are (of_grid (HasDisc cells.plane s.corner) centres _ g same c.erode.ensures.nodes) centres_g
    (of_grid (IsNearOne centres s.corner) near _ g dilated_g c.dilate.ensures.nodes))
    near_g bad_g good_g c.invert.ensures.nodes
    (subst (λ (h : Grid). (n : Node) → Has bad n ↔ (Has c.invert.new.self n × IsInRaw h n)) kept_g c.keep_raw.ensures.nodes)
    c.invert-2.ensures.nodes
    (of_grid (HasBlock good) c.keep_blocks.new.to _ g kept_g c.keep_blocks.ensures.nodes)
    (subst (λ (h : Grid). (n : Node) → Has c.keep_raw-2.new.to n ↔ (Has c.keep_blocks.new.to n × IsInRaw h n)) last_g c.keep_raw-2.ensures.nodes)
