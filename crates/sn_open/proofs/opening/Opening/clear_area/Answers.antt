use Rattle.std.proofs.Common.{◌↔◌, ap, ◌∙◌, subst}
use Rattle.sn_raster.specs.Grid.{Grid, Node, IsInRaw}
use Rattle.sn_raster.specs.Plane.{Has}
use Rattle.sn_open.specs.Morphology.{IsNearOne}
use Rattle.sn_open.proofs.UpdateLemmas.{of_grid}
use Rattle.sn_open.proofs.RegionLemmas.{free_centres}
use Rattle.sn_open.proofs.OpeningLemmas.{IsMaking, cleared}
use Rattle.sn_open.proofs.opening.Opening.clear_area.Goals as goal

pub returns-clause-opening : goal.returns-clause-opening
returns-clause-opening c = λ job of.
    let g = c.args.g.now in
    let s = c.args.s.now in
    let making : IsMaking g job s = record {
      rule = c.rule.ensures;
      with = c.requires.executed;
      of = of;
      margin = c.grids.ensures.margin;
      raws = c.grids.ensures.raw;
      outside = c.outside.ensures.allowed;
      discs = c.outside.ensures.discs;
    } in
    let cells = c.refill.new.self in
    let same = c.refill.ensures.grid in
    let are = c.refill.ensures.allowed job of in
    let centres = c.erode.new.to in
    let centres_g = c.erode.ensures.grid ∙ same in
    let dilated_g = ap (λ a. a.plane.grid) c.erode.ensures.allowed ∙ same in
    let kept_g = ap (λ a. a.plane.grid) c.dilate.ensures.allowed ∙ dilated_g in
    cleared g job s centres c.dilate.new.to c.keep_raw.new.to making centres_g
    (free_centres making.outside g job s cells centres c.requires.executed of same are c.erode.ensures.nodes)
    (of_grid (IsNearOne centres s.body.d) c.dilate.new.to _ g dilated_g c.dilate.ensures.nodes)
    (subst (λ (h : Grid). (n : Node) → Has c.keep_raw.new.to n ↔ (Has c.dilate.new.to n × IsInRaw h n)) kept_g c.keep_raw.ensures.nodes)
