use Rattle.std.proofs.Common.{◌≡◌, ◌∙◌, ℤ, pos, ◌+ℤ◌, w32, to_z, of_z, refl, subst}
use Rattle.std.proofs.lemmas.Int.{to_z-of_z}
use Rattle.sn_outline.specs.Polygon.{path}
use Rattle.sn_raster.specs.RowTurns.{at, bit, differs, is_odd, is_crossed}
use Rattle.sn_raster.proofs.HeightRows.{along}
use Rattle.sn_raster.proofs.RowBits.{turned_one, turned_all}
use Rattle.sn_raster.proofs.turns.turn_path.Goals as goal

pub loop-to-init : goal.loop-to-init
loop-to-init c = record {
  grid = c.requires.grid;
  row = λ i low high. refl;
  others = λ n off. ((λ h. h), (λ h. h));
}

pub loop-to-preserved : goal.loop-to-preserved
loop-to-preserved c =
    let g = c.args.g.now in
    let j = to_z w32 (of_z w32 c.args.j) in
    record {
      grid = c.turn_edge.ensures.grid;
      row = λ i low high.
          turned_one (λ e. is_crossed g j e i) (λ e. is_crossed g j e (i +ℤ pos 1)) _ _ _ _ _ c.args.points.now _ c.loop-to-test.true c.to-item.is (c.turn_edge.ensures.row i low high) (c.loop-to.invariant.row i low high);
      others = λ n off. along (c.turn_edge.ensures.others n off) (c.loop-to.invariant.others n off);
    }

pub returns-clause-row : goal.returns-clause-row
returns-clause-row c = λ i low high.
    let g = c.args.g.now in
    let P : ℤ → Type 0 = λ j. bit c.loop-to.row (at i j) ≡ differs (bit c.args.row.now (at i j))
    (differs (is_odd (λ e. is_crossed g j e i) (path c.args.from.now c.args.points.now)) (is_odd (λ e. is_crossed g j e (i +ℤ pos 1)) (path c.args.from.now c.args.points.now))) in
    let j = to_z w32 (of_z w32 c.args.j) in
    subst P (to_z-of_z w32 c.args.j c.ranges.j)
    (turned_all (λ e. is_crossed g j e i) (λ e. is_crossed g j e (i +ℤ pos 1)) _ _ _ c.args.points.now _ c.loop-to-test.false (c.loop-to.invariant.row i low high))

pub returns-clause-others : goal.returns-clause-others
returns-clause-others c = λ n off. c.loop-to.invariant.others n (λ on. off (on ∙ to_z-of_z w32 c.args.j c.ranges.j))
