use Rattle.std.proofs.Common.{◌≡◌, ◌↔◌, ℤ, pos, ◌+ℤ◌, ◌<ℤ◌, w32, to_z, of_z, ap, ◌∙◌, refl, sym, subst, arith}
use Rattle.std.proofs.lemmas.Int.{ints, to_z-of_z}
use Rattle.sn_outline.specs.Outline.{InOutline}
use Rattle.sn_raster.specs.Grid.{place}
use Rattle.sn_raster.specs.Plane.{Has}
use Rattle.sn_raster.proofs.Axis.{kept}
use Rattle.sn_raster.proofs.Rows.{IsFilled, at, none_filled, in_window, filled_one, end_is, next_is, one_later, lt_from, passed_end}
use Rattle.sn_raster.proofs.Marks.{in_own_window}
use Rattle.sn_geom.specs.Length.{IsLength}
use Rattle.sn_raster.proofs.outlines.fill_each.Goals as goal

pub loop-i-init : goal.loop-i-init
loop-i-init c =
    let first : to_z w32 (of_z w32 c.g.inside.i0) ≡ c.args.g.now.i0 = kept _ c.g.invariant.ends.columns.0 ∙ ap (λ g. g.i0) c.g.view_is in
    record { low = omega (arith, ints); filled = none_filled _ _ _ _ _ c.requires.grid first }

pub place_of-requires : goal.place_of-requires
place_of-requires c =
    let end = end_is c.g.inside.i1 c.args.g.now.i1 (ap (λ g. g.i1) c.g.view_is) (subst IsLength (ap (λ g. g.i1) c.g.view_is) c.g.invariant.ends.columns.1) in
    in_window c.args.g.now (to_z w32 c.loop-i.i-bits) c.args.j _ _ (to_z-of_z w32 c.args.j c.ranges.j) end c.loop-i.invariant.low (lt_from _ _ c.loop-i-test.true) c.requires.first c.requires.last

pub set-requires : goal.set-requires
set-requires c =
    let end = end_is c.g.inside.i1 c.args.g.now.i1 (ap (λ g. g.i1) c.g.view_is) (subst IsLength (ap (λ g. g.i1) c.g.view_is) c.g.invariant.ends.columns.1) in
    in_own_window _ c.args.g.now _ c.loop-i.invariant.filled.grid
    (in_window c.args.g.now (to_z w32 c.loop-i.i-bits) c.args.j _ _ (to_z-of_z w32 c.args.j c.ranges.j) end c.loop-i.invariant.low (lt_from _ _ c.loop-i-test.true) c.requires.first c.requires.last)

pub loop-i-preserved : goal.loop-i-preserved
loop-i-preserved c =
    let g = c.args.g.now in
    let i = to_z w32 c.loop-i.i-bits in
    let j = to_z w32 (of_z w32 c.args.j) in
    let first_length : IsLength g.i0 = subst IsLength (ap (λ g. g.i0) c.g.view_is) c.g.invariant.ends.columns.0 in
    let last_length : IsLength g.i1 = subst IsLength (ap (λ g. g.i1) c.g.view_is) c.g.invariant.ends.columns.1 in
    let end = end_is c.g.inside.i1 g.i1 (ap (λ g. g.i1) c.g.view_is) last_length in
    let P : ℤ → Type 0 = λ z. i <ℤ z in
    let below : i <ℤ (g.i1 +ℤ pos 1) = subst P end (lt_from _ _ c.loop-i-test.true) in
    let next = next_is i g.i0 g.i1 first_length last_length c.loop-i.invariant.low below in
    let Q : ℤ → Type 0 = λ z. IsFilled c.args.o.now g j c.args.row.now c.set.new.self z in
    record {
      low = one_later g.i0 i _ next c.loop-i.invariant.low;
      filled = subst Q (sym next) (filled_one c.args.o.now g j c.args.row.now c.loop-i.row c.set.new.self i (at i j) c.place_of.result c.inside-on.result refl c.place_of.ensures c.inside-on.ensures c.set.ensures.grid c.set.ensures.node c.set.ensures.others c.loop-i.invariant.filled);
    }

pub returns-clause-row : goal.returns-clause-row
returns-clause-row c =
    let g = c.args.g.now in
    let end = end_is c.g.inside.i1 g.i1 (ap (λ g. g.i1) c.g.view_is) (subst IsLength (ap (λ g. g.i1) c.g.view_is) c.g.invariant.ends.columns.1) in
    λ i low high.
    let P : ℤ → Type 0 = λ j. Has c.loop-i.row (at i j) ↔ InOutline c.args.o.now (place g.pitch (at i j)) in
    subst P (to_z-of_z w32 c.args.j c.ranges.j) (c.loop-i.invariant.filled.row i low (passed_end _ _ i g.i1 end c.loop-i-test.false high))

pub returns-clause-others : goal.returns-clause-others
returns-clause-others c = λ n off. c.loop-i.invariant.filled.others n (λ on. off (on ∙ to_z-of_z w32 c.args.j c.ranges.j))
