-- On which side of an edge a point lies, told by a point of the edge at its height.
use Rattle.std.proofs.Common.{◌≡◌, inl, inr, ℕ, IsTrue, true, ◌&&◌, ℤ, pos, ◌-ℤ◌, ◌*ℤ◌, ◌≤ℤ◌, ◌<ℤ◌, int_le, int_lt, unsigned_abs, ap, arith}
use Rattle.std.proofs.lemmas.Int.{ints, by_lt_z}
use Rattle.std.proofs.lemmas.Bool.{and_parts, and_from, or_cases, or_left, or_right}
use Rattle.sn_geom.specs.declared.units.Pt.{Pt}
use Rattle.sn_geom.specs.declared.units.Seg.{Seg}
use Rattle.sn_geom.proofs.Ring.{sums, expand, product_positive, product_le}
use Rattle.sn_outline.specs.Polygon.{rises, falls, crosses, beside, crosses_right}
use Rattle.sn_outline.specs.PolygonLaws.{IsRightAt, CrossesRightSomewhere}
use Rattle.sn_outline.proofs.IntTests.{le_true, lt_true, true_lt}

-- with the offset w of the end b from a and v of p from a: n·wy = m·vy at the height of p, and m·vx < n·wx to the right of p
right_of : (n m wx wy vx vy : ℤ) → pos 0 <ℤ m → pos 0 <ℤ wy → m *ℤ vy -ℤ n *ℤ wy ≡ pos 0 → (m *ℤ vx -ℤ n *ℤ wx) <ℤ pos 0 →
    pos 0 <ℤ (wx *ℤ vy -ℤ wy *ℤ vx)
right_of n m wx wy vx vy some up level right =
    let scaled = simp expand at (product_positive wy (pos 0 -ℤ (m *ℤ vx -ℤ n *ℤ wx)) up (omega (arith, sums))) in
    let along = simp expand at (ap (λ z. wx *ℤ z) level) in
    by_lt_z (pos 0) (wx *ℤ vy -ℤ wy *ℤ vx) (λ positive. positive)
    (λ not_positive. let more = simp expand at (product_le m (wx *ℤ vy -ℤ wy *ℤ vx) (pos 0) (omega (arith, sums)) not_positive) in absurd (omega (arith, sums)))

left_of : (n m wx wy vx vy : ℤ) → pos 0 <ℤ m → wy <ℤ pos 0 → m *ℤ vy -ℤ n *ℤ wy ≡ pos 0 → (m *ℤ vx -ℤ n *ℤ wx) <ℤ pos 0 →
    (wx *ℤ vy -ℤ wy *ℤ vx) <ℤ pos 0
left_of n m wx wy vx vy some down level right =
    let scaled = simp expand at (product_positive (pos 0 -ℤ wy) (pos 0 -ℤ (m *ℤ vx -ℤ n *ℤ wx)) (omega (arith, sums)) (omega (arith, sums))) in
    let along = simp expand at (ap (λ z. wx *ℤ z) level) in
    by_lt_z (wx *ℤ vy -ℤ wy *ℤ vx) (pos 0) (λ negative. negative)
    (λ not_negative. let more = simp expand at (product_le m (pos 0) (wx *ℤ vy -ℤ wy *ℤ vx) (omega (arith, sums)) not_negative) in absurd (omega (arith, sums)))

-- the point at the height of p on an edge that rises there, and on one that falls there
at_rise : (p a b : Pt) → a.y ≤ℤ p.y → p.y <ℤ b.y → pos 0 <ℤ beside p (record { a = a; b = b }) →
    IsRightAt (unsigned_abs (p.y -ℤ a.y)) (unsigned_abs (b.y -ℤ a.y)) p (record { a = a; b = b })
at_rise p a b from to left =
    let n_is : pos (unsigned_abs (p.y -ℤ a.y)) ≡ p.y -ℤ a.y = omega (arith, ints) in
    let m_is : pos (unsigned_abs (b.y -ℤ a.y)) ≡ b.y -ℤ a.y = omega (arith, ints) in
    record {
      fraction = record { some_parts = omega (arith, ints); within = omega (arith, ints) };
      level = rw (n_is, m_is) (simp expand (omega (arith, sums)));
      right = rw (n_is, m_is) (let h = simp expand at left in simp expand (omega (arith, sums)));
    }

at_fall : (p a b : Pt) → p.y <ℤ a.y → b.y ≤ℤ p.y → beside p (record { a = a; b = b }) <ℤ pos 0 →
    IsRightAt (unsigned_abs (a.y -ℤ p.y)) (unsigned_abs (a.y -ℤ b.y)) p (record { a = a; b = b })
at_fall p a b from to right =
    let n_is : pos (unsigned_abs (a.y -ℤ p.y)) ≡ a.y -ℤ p.y = omega (arith, ints) in
    let m_is : pos (unsigned_abs (a.y -ℤ b.y)) ≡ a.y -ℤ b.y = omega (arith, ints) in
    record {
      fraction = record { some_parts = omega (arith, ints); within = omega (arith, ints) };
      level = rw (n_is, m_is) (simp expand (omega (arith, sums)));
      right = rw (n_is, m_is) (let h = simp expand at right in simp expand (omega (arith, sums)));
    }

abbrev Somewhere : Pt → Seg → Type 0
Somewhere p e = (n : ℕ) × (m : ℕ) × IsRightAt n m p e

somewhere : (p : Pt) (e : Seg) → crosses_right p e ≡ true → IsTrue (crosses p.y e) × Somewhere p e
somewhere p e h =
    elim (or_cases (rises p.y e && int_lt (pos 0) (beside p e)) (falls p.y e && int_lt (beside p e) (pos 0)) h) [
      | inl up ↦
          let both = and_parts (rises p.y e) (int_lt (pos 0) (beside p e)) up in
          let ends = and_parts (int_le e.a.y p.y) (int_lt p.y e.b.y) both.0 in
          (or_left (rises p.y e) (falls p.y e) both.0, (unsigned_abs (p.y -ℤ e.a.y), unsigned_abs (e.b.y -ℤ e.a.y), at_rise p e.a e.b (le_true _ _ ends.0) (lt_true _ _ ends.1) (lt_true _ _ both.1)))
      | inr down ↦
          let both = and_parts (falls p.y e) (int_lt (beside p e) (pos 0)) down in
          let ends = and_parts (int_lt p.y e.a.y) (int_le e.b.y p.y) both.0 in
          (or_right (rises p.y e) (falls p.y e) both.0, (unsigned_abs (e.a.y -ℤ p.y), unsigned_abs (e.a.y -ℤ e.b.y), at_fall p e.a e.b (lt_true _ _ ends.0) (le_true _ _ ends.1) (lt_true _ _ both.1)))
    ]

crosses_there : (p : Pt) (e : Seg) (n m : ℕ) → IsRightAt n m p e → crosses p.y e ≡ true → crosses_right p e ≡ true
crosses_there p e n m h crosses_height =
    let some = h.fraction.some_parts in
    elim (or_cases (rises p.y e) (falls p.y e) crosses_height) [
      | inl up ↦
          let ends = and_parts (int_le e.a.y p.y) (int_lt p.y e.b.y) up in
          let from = le_true e.a.y p.y ends.0 in
          let to = lt_true p.y e.b.y ends.1 in
          let left = right_of (pos n) (pos m) (e.b.x -ℤ e.a.x) (e.b.y -ℤ e.a.y) (p.x -ℤ e.a.x) (p.y -ℤ e.a.y) (omega (arith, sums)) (omega (arith, sums)) h.level h.right in
          or_left (rises p.y e && int_lt (pos 0) (beside p e)) (falls p.y e && int_lt (beside p e) (pos 0)) (and_from (rises p.y e) (int_lt (pos 0) (beside p e)) up (true_lt _ _ left))
      | inr down ↦
          let ends = and_parts (int_lt p.y e.a.y) (int_le e.b.y p.y) down in
          let from = lt_true p.y e.a.y ends.0 in
          let to = le_true e.b.y p.y ends.1 in
          let right = left_of (pos n) (pos m) (e.b.x -ℤ e.a.x) (e.b.y -ℤ e.a.y) (p.x -ℤ e.a.x) (p.y -ℤ e.a.y) (omega (arith, sums)) (omega (arith, sums)) h.level h.right in
          or_right (rises p.y e && int_lt (pos 0) (beside p e)) (falls p.y e && int_lt (beside p e) (pos 0)) (and_from (falls p.y e) (int_lt (beside p e) (pos 0)) down (true_lt _ _ right))
    ]

pub crosses_right_somewhere : CrossesRightSomewhere
crosses_right_somewhere p e = (somewhere p e, λ (crosses_height, (n, m, h)). crosses_there p e n m h crosses_height)
