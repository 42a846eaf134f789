use Rattle.std.proofs.Common.{◌≡◌, ℤ, ◌≤ℤ◌, w32, w64, to_z, of_z, ap, ◌∙◌, subst, arith}
use Rattle.std.specs.Int.{int_min, int_max}
use Rattle.std.proofs.lemmas.Int.{ints, clamps, to_z-of_z}
use Rattle.sn_geom.specs.Length.{IsLength}
use Rattle.sn_raster.proofs.Axis.{kept}
use Rattle.sn_raster.proofs.Rows.{small}
use Rattle.sn_raster.proofs.Besides.{least_value, most_value}
use Rattle.sn_raster.proofs.Sides.{kept_within, kept_long}
use Rattle.sn_raster.proofs.leads.clamped.Goals as goal

-- the column of the window, and its bounds
record IsOnly (first last column only kept' : ℤ) : Type 0 where
  same : kept' ≡ only
  length : IsLength only
  from : first ≤ℤ only
  to : only ≤ℤ last
  all : first ≤ℤ column → column ≤ℤ last → only ≡ column

only : (first last column least most : ℤ) → least ≡ int_min column last → most ≡ int_max least first → first ≤ℤ last → IsLength first → IsLength last
    → IsOnly first last column most (to_z w32 (of_z w32 (to_z w64 (of_z w64 most))))
only first last column least most low high ends length length' =
    let m_length : IsLength most = omega (arith, ints, clamps) in
    record {
      same = ap (λ z. to_z w32 (of_z w32 z)) (kept_within most (omega (arith, m_length))) ∙ kept most m_length;
      length = m_length;
      from = omega (arith, ints, clamps);
      to = omega (arith, ints, clamps);
      all = λ h k. omega (arith, ints, clamps);
    }

facts : (c : goal.After-max) → IsOnly c.args.g.now.i0 c.args.g.now.i1 c.args.column c.max.result (to_z w32 (of_z w32 (to_z w64 (of_z w64 c.max.result))))
facts c =
    let g = c.args.g.now in
    let first_length : IsLength g.i0 = subst IsLength (ap (λ g. g.i0) c.g.view_is) c.g.invariant.ends.columns.0 in
    let last_length : IsLength g.i1 = subst IsLength (ap (λ g. g.i1) c.g.view_is) c.g.invariant.ends.columns.1 in
    let first : to_z w64 (of_z w64 c.from-2.result) ≡ g.i0 = ap (λ z. to_z w64 (of_z w64 z)) (c.from-2.ensures ∙ kept _ c.g.invariant.ends.columns.0 ∙ ap (λ g. g.i0) c.g.view_is) ∙ kept_within g.i0 (omega (arith, first_length)) in
    let last : to_z w64 (of_z w64 c.from.result) ≡ g.i1 = ap (λ z. to_z w64 (of_z w64 z)) (c.from.ensures ∙ kept _ c.g.invariant.ends.columns.1 ∙ ap (λ g. g.i1) c.g.view_is) ∙ kept_within g.i1 (omega (arith, last_length)) in
    let low = least_value c.args.column _ g.i1 _ c.min.result (to_z-of_z w64 c.args.column c.ranges.column) last c.min.ensures.value in
    let high = most_value c.min.result _ g.i0 _ c.max.result (kept_long c.min.result c.min.type_inv) first c.max.ensures.value in
    only g.i0 g.i1 c.args.column c.min.result c.max.result low high c.requires first_length last_length

pub overflow_cast-result : goal.overflow_cast-result
overflow_cast-result c =
    let h = facts c in
    let length = h.length in
    rw (kept_within c.max.result (omega (arith, length))) (small c.max.result (omega (arith, length)))

pub returns-clause-from : goal.returns-clause-from
returns-clause-from c = let h = facts c in rw h.same h.from

pub returns-clause-to : goal.returns-clause-to
returns-clause-to c = let h = facts c in rw h.same h.to

pub returns-clause-same : goal.returns-clause-same
returns-clause-same c = λ low high. let h = facts c in h.same ∙ h.all low high

pub returns-clause-size : goal.returns-clause-size
returns-clause-size c = let h = facts c in rw h.same h.length
