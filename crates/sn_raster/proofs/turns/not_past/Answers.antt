use Rattle.std.proofs.Common.{◌≡◌, ℤ, ◌≤ℤ◌, w32, w64, to_z, of_z, ap, ◌∙◌, subst, arith}
use Rattle.std.specs.Int.{int_min}
use Rattle.std.proofs.lemmas.Int.{ints, clamps, to_z-of_z}
use Rattle.sn_geom.specs.Length.{IsLength}
use Rattle.sn_raster.proofs.Axis.{kept}
use Rattle.sn_raster.proofs.Besides.{least_value}
use Rattle.sn_raster.proofs.Sides.{kept_within}
use Rattle.sn_raster.proofs.turns.not_past.Goals as goal

-- the lesser column, and its bounds
record IsLeast (first last column m kept' : ℤ) : Type 0 where
  same : kept' ≡ m
  at_most : m ≤ℤ column
  from : first ≤ℤ m
  to : m ≤ℤ last
  greatest : (i : ℤ) → i ≤ℤ column → i ≤ℤ last → i ≤ℤ m

least : (first last column m : ℤ) → m ≡ int_min column last → first ≤ℤ column → first ≤ℤ last → IsLength first → IsLength last
    → IsLeast first last column m (to_z w32 (of_z w32 (to_z w64 (of_z w64 m))))
least first last column m is low ends length length' =
    let m_length : IsLength m = omega (arith, ints, clamps) in
    record {
      same = ap (λ z. to_z w32 (of_z w32 z)) (kept_within m (omega (arith, m_length))) ∙ kept m m_length;
      at_most = omega (arith, ints, clamps);
      from = omega (arith, ints, clamps);
      to = omega (arith, ints, clamps);
      greatest = λ i h k. omega (arith, ints, clamps);
    }

facts : (c : goal.After-min) → IsLeast c.args.g.now.i0 c.args.g.now.i1 c.args.column c.min.result (to_z w32 (of_z w32 (to_z w64 (of_z w64 c.min.result))))
facts c =
    let g = c.args.g.now in
    let first_length : IsLength g.i0 = subst IsLength (ap (λ g. g.i0) c.g.view_is) c.g.invariant.ends.columns.0 in
    let last_length : IsLength g.i1 = subst IsLength (ap (λ g. g.i1) c.g.view_is) c.g.invariant.ends.columns.1 in
    let last : to_z w64 (of_z w64 c.from.result) ≡ g.i1 = ap (λ z. to_z w64 (of_z w64 z)) (c.from.ensures ∙ kept _ c.g.invariant.ends.columns.1 ∙ ap (λ g. g.i1) c.g.view_is) ∙ kept_within g.i1 (omega (arith, last_length)) in
    let value = least_value c.args.column _ g.i1 _ c.min.result (to_z-of_z w64 c.args.column c.ranges.column) last c.min.ensures.value in
    least g.i0 g.i1 c.args.column c.min.result value c.requires.from c.requires.columns first_length last_length

pub returns-clause-at_most : goal.returns-clause-at_most
returns-clause-at_most c = let h = facts c in rw h.same h.at_most

pub returns-clause-in_window : goal.returns-clause-in_window
returns-clause-in_window c = let h = facts c in rw h.same (h.from, h.to)

pub returns-clause-greatest : goal.returns-clause-greatest
returns-clause-greatest c = let h = facts c in rw h.same h.greatest
