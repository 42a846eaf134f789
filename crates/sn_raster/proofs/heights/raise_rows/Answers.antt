use Rattle.std.proofs.Common.{◌≡◌, ℤ, pos, ◌+ℤ◌, ◌<ℤ◌, w32, to_z, of_z, ap, ◌∙◌, sym, subst, arith}
use Rattle.std.proofs.lemmas.Int.{ints}
use Rattle.sn_geom.proofs.Ring.{sums}
use Rattle.sn_geom.specs.Length.{IsLength}
use Rattle.sn_raster.specs.Heights.{node_of}
use Rattle.sn_raster.specs.RawSlab.{IsRawSlab}
use Rattle.sn_raster.proofs.Axis.{kept}
use Rattle.sn_raster.proofs.Rows.{end_is, next_is, one_later, lt_from, passed_end}
use Rattle.sn_raster.proofs.HeightRows.{AreRowsPassed, before_end, row_passed, no_row_passed, all_rows_passed}
use Rattle.sn_raster.proofs.heights.raise_rows.Goals as goal

pub loop-j-init : goal.loop-j-init
loop-j-init c =
    let g = c.args.g.now in
    let first : to_z w32 (of_z w32 c.g.inside.j0) ≡ g.j0 = kept _ c.g.invariant.ends.rows.0 ∙ ap (λ g. g.j0) c.g.view_is in
    record {
      low = omega (arith, ints);
      passed = no_row_passed (IsRawSlab g) g c.args.map.now _ c.requires.grid first (λ cell slab. c.rule.ensures.raw (node_of cell) slab.raw);
    }

pub raise_row-requires-clause-last : goal.raise_row-requires-clause-last
raise_row-requires-clause-last c =
    let g = c.args.g.now in
    let end = end_is c.g.inside.j1 g.j1 (ap (λ g. g.j1) c.g.view_is) (subst IsLength (ap (λ g. g.j1) c.g.view_is) c.g.invariant.ends.rows.1) in
    before_end _ _ g.j1 end (lt_from _ _ c.loop-j-test.true)

pub loop-j-preserved : goal.loop-j-preserved
loop-j-preserved c =
    let g = c.args.g.now in
    let j = to_z w32 c.loop-j.j-bits in
    let first_length : IsLength g.j0 = subst IsLength (ap (λ g. g.j0) c.g.view_is) c.g.invariant.ends.rows.0 in
    let last_length : IsLength g.j1 = subst IsLength (ap (λ g. g.j1) c.g.view_is) c.g.invariant.ends.rows.1 in
    let end = end_is c.g.inside.j1 g.j1 (ap (λ g. g.j1) c.g.view_is) last_length in
    let B : ℤ → Type 0 = λ z. j <ℤ z in
    let below : j <ℤ (g.j1 +ℤ pos 1) = subst B end (lt_from _ _ c.loop-j-test.true) in
    let next = next_is j g.j0 g.j1 first_length last_length c.loop-j.invariant.low below in
    let Q : ℤ → Type 0 = λ z. AreRowsPassed (IsRawSlab g) g c.args.map.now c.raise_row.new.map z in
    record {
      low = one_later g.j0 j _ next c.loop-j.invariant.low;
      passed = subst Q (sym next)
          (row_passed (IsRawSlab g) g c.args.map.now c.loop-j.map c.raise_row.new.map j c.raise_row.ensures.grid
          (λ cell row same. c.raise_row.ensures.row cell row) c.raise_row.ensures.others c.loop-j.invariant.passed);
    }

pub returns-clause-cells : goal.returns-clause-cells
returns-clause-cells c =
    let g = c.args.g.now in
    let end = end_is c.g.inside.j1 g.j1 (ap (λ g. g.j1) c.g.view_is) (subst IsLength (ap (λ g. g.j1) c.g.view_is) c.g.invariant.ends.rows.1) in
    let past = passed_end _ _ g.j1 g.j1 end c.loop-j-test.false (omega (arith, sums)) in
    all_rows_passed (IsRawSlab g) g c.args.map.now c.loop-j.map _ past (λ cell slab. c.rule.ensures.raw (node_of cell) slab.raw) c.loop-j.invariant.passed
