use Rattle.std.proofs.Common.{◌∙◌, w32, sym}
use Rattle.std.proofs.lemmas.Int.{to_z-of_z}
use Rattle.sn_geom.specs.declared.units.Seg.{Seg}
use Rattle.sn_geom.specs.Sweep.{Near}
use Rattle.sn_raster.specs.Grid.{place}
use Rattle.sn_raster.proofs.HeightRows.{along}
use Rattle.sn_raster.proofs.SegmentRows.{path_marked_one, path_marked_all}
use Rattle.sn_raster.proofs.segments.mark_path.Goals as goal

pub loop-to-init : goal.loop-to-init
loop-to-init c = record {
  grid = c.requires.grid;
  row = λ n on window. ((λ h. h), (λ h. h));
  others = λ n off. ((λ h. h), (λ h. h));
}

pub loop-to-preserved : goal.loop-to-preserved
loop-to-preserved c = record {
  grid = c.mark_segment.ensures.grid;
  row = λ n on window.
      let P : Seg → Type 0 = λ e. Near c.args.d e.a e.b (place c.args.g.now.pitch n) in
      path_marked_one P _ _ _ c.args.points.now _ c.loop-to-test.true c.to-item.is (c.mark_segment.ensures.row n on window) (c.loop-to.invariant.row n on window);
  others = λ n off. along (c.mark_segment.ensures.others n off) (c.loop-to.invariant.others n off);
}

pub returns-clause-row : goal.returns-clause-row
returns-clause-row c = λ n on window.
    let P : Seg → Type 0 = λ e. Near c.args.d e.a e.b (place c.args.g.now.pitch n) in
    path_marked_all P _ c.args.points.now _ c.loop-to-test.false (c.loop-to.invariant.row n (on ∙ sym (to_z-of_z w32 c.args.j c.ranges.j)) window)

pub returns-clause-others : goal.returns-clause-others
returns-clause-others c = λ n off. c.loop-to.invariant.others n (λ on. off (on ∙ to_z-of_z w32 c.args.j c.ranges.j))
