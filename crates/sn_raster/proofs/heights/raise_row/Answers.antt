use Rattle.std.proofs.Common.{◌≡◌, ℤ, pos, ◌+ℤ◌, ◌<ℤ◌, w32, to_z, of_z, ap, ◌∙◌, refl, sym, subst, arith}
use Rattle.std.proofs.lemmas.Int.{ints, to_z-of_z}
use Rattle.sn_geom.proofs.Ring.{sums}
use Rattle.sn_geom.specs.Length.{IsLength}
use Rattle.sn_raster.specs.Heights.{node_of}
use Rattle.sn_raster.specs.RawSlab.{IsRawSlab}
use Rattle.sn_raster.proofs.Axis.{kept}
use Rattle.sn_raster.proofs.Rows.{in_window, end_is, next_is, one_later, lt_from, passed_end}
use Rattle.sn_raster.proofs.HeightMaps.{node}
use Rattle.sn_raster.proofs.HeightRows.{IsRowPassed, node_passed, no_node_passed, whole_row_passed}
use Rattle.sn_raster.proofs.heights.raise_row.Goals as goal

pub loop-i-init : goal.loop-i-init
loop-i-init c =
    let g = c.args.g.now in
    let first : to_z w32 (of_z w32 c.g.inside.i0) ≡ g.i0 = kept _ c.g.invariant.ends.columns.0 ∙ ap (λ g. g.i0) c.g.view_is in
    record {
      low = omega (arith, ints);
      passed = no_node_passed (IsRawSlab g) g _ c.args.map.now _ c.requires.grid first (λ cell slab. c.rule.ensures.raw (node_of cell) slab.raw);
    }

pub raise_node-requires-clause-window : goal.raise_node-requires-clause-window
raise_node-requires-clause-window c =
    let g = c.args.g.now in
    let end = end_is c.g.inside.i1 g.i1 (ap (λ g. g.i1) c.g.view_is) (subst IsLength (ap (λ g. g.i1) c.g.view_is) c.g.invariant.ends.columns.1) in
    in_window g (to_z w32 c.loop-i.i-bits) c.args.j _ _ (to_z-of_z w32 c.args.j c.ranges.j) end c.loop-i.invariant.low (lt_from _ _ c.loop-i-test.true) c.requires.first c.requires.last

pub loop-i-preserved : goal.loop-i-preserved
loop-i-preserved c =
    let g = c.args.g.now in
    let i = to_z w32 c.loop-i.i-bits in
    let j = to_z w32 (of_z w32 c.args.j) in
    let first_length : IsLength g.i0 = subst IsLength (ap (λ g. g.i0) c.g.view_is) c.g.invariant.ends.columns.0 in
    let last_length : IsLength g.i1 = subst IsLength (ap (λ g. g.i1) c.g.view_is) c.g.invariant.ends.columns.1 in
    let end = end_is c.g.inside.i1 g.i1 (ap (λ g. g.i1) c.g.view_is) last_length in
    let B : ℤ → Type 0 = λ z. i <ℤ z in
    let below : i <ℤ (g.i1 +ℤ pos 1) = subst B end (lt_from _ _ c.loop-i-test.true) in
    let next = next_is i g.i0 g.i1 first_length last_length c.loop-i.invariant.low below in
    let Q : ℤ → Type 0 = λ z. IsRowPassed (IsRawSlab g) g j c.args.map.now c.raise_node.new.map z in
    record {
      low = one_later g.i0 i _ next c.loop-i.invariant.low;
      passed = subst Q (sym next)
          (node_passed (IsRawSlab g) g j c.args.map.now c.loop-i.map c.raise_node.new.map i (node i j) refl c.raise_node.ensures.grid
          (λ cell is same. c.raise_node.ensures.node cell is) c.raise_node.ensures.others c.loop-i.invariant.passed);
    }

pub returns-clause-row : goal.returns-clause-row
returns-clause-row c =
    let g = c.args.g.now in
    let end = end_is c.g.inside.i1 g.i1 (ap (λ g. g.i1) c.g.view_is) (subst IsLength (ap (λ g. g.i1) c.g.view_is) c.g.invariant.ends.columns.1) in
    let past = passed_end _ _ g.i1 g.i1 end c.loop-i-test.false (omega (arith, sums)) in
    λ cell row.
    whole_row_passed (IsRawSlab g) g _ c.args.map.now c.loop-i.map _ past (λ cell slab. c.rule.ensures.raw (node_of cell) slab.raw)
    c.loop-i.invariant.passed cell (row ∙ sym (to_z-of_z w32 c.args.j c.ranges.j))

pub returns-clause-others : goal.returns-clause-others
returns-clause-others c = λ cell off. c.loop-i.invariant.passed.others cell (λ on. off (on ∙ to_z-of_z w32 c.args.j c.ranges.j))
