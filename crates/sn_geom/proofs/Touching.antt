-- Touching, in a move that is horizontal or vertical: the cell's place is near the plan of the move, and its height is not below the lower end.
use Rattle.std.proofs.Common.{◌≡◌, ◌↔◌, ℕ, ℤ, pos, ◌+ℤ◌, ◌-ℤ◌, ◌*ℤ◌, ◌≤ℤ◌, ◌<ℤ◌, ⊎_elim, refl, arith}
use Rattle.std.specs.Int.{int_min}
use Rattle.std.proofs.lemmas.Int.{ints, clamps, by_lt_z}
use Rattle.sn_geom.specs.declared.units.Pt.{Pt}
use Rattle.sn_geom.specs.declared.units.Pt3.{Pt3}
use Rattle.sn_geom.specs.Sweep.{plan, IsNearAt, Near, Touch, Cut, IsVertical, IsHorizontalOrVertical}
use Rattle.sn_geom.proofs.Ring.{sums, expand, product_not_negative, product_le, le_of_product_le}
use Rattle.sn_geom.proofs.Nearness.{near_at_start, near_behind, IsNearAt-turn}

-- what is not above both ends is not above any place between them
lowest_le : (m n a b k z : ℤ) → pos 0 <ℤ m → pos 0 ≤ℤ n → n ≤ℤ m → k ≤ℤ a → k ≤ℤ b → (m *ℤ a +ℤ n *ℤ (b -ℤ a)) ≤ℤ (m *ℤ z) → k ≤ℤ z
lowest_le m n a b k z some p q to_a to_b low =
    let f = simp expand at (product_not_negative (m -ℤ n) (a -ℤ k) (omega (arith, sums)) (omega (arith, sums))) in
    let g = simp expand at (product_not_negative n (b -ℤ k) p (omega (arith, sums))) in
    let h = simp expand at low in
    le_of_product_le m k z some (omega (arith, sums))

level-low : (m n a b z : ℤ) → pos 0 ≤ℤ m → a ≡ b → a ≤ℤ z → (m *ℤ a +ℤ n *ℤ (b -ℤ a)) ≤ℤ (m *ℤ z)
level-low m n a b z some level low =
    let h = product_le m a z some low in
    let none : b -ℤ a ≡ pos 0 = omega (arith, sums) in
    rw none (simp expand (omega (arith, sums)))

-- in a vertical move both ends are as near as any place
vertical_near : (d : ℕ) (a b p : Pt) → a.x ≡ b.x → a.y ≡ b.y → Near d a b p → IsNearAt 0 1 d a b p × IsNearAt 1 1 d a b p
vertical_near d a b p same_x same_y h =
    let none_x : b.x -ℤ a.x ≡ pos 0 = omega (arith, sums) in
    let none_y : b.y -ℤ a.y ≡ pos 0 = omega (arith, sums) in
    let behind : ((p.x -ℤ a.x) *ℤ (b.x -ℤ a.x) +ℤ (p.y -ℤ a.y) *ℤ (b.y -ℤ a.y)) ≤ℤ pos 0 = rw (none_x, none_y) (simp expand (omega (arith, sums))) in
    let close = (near_behind d a b p _ _ _ _ refl refl refl refl behind).1 h in
    (near_at_start d a b p close, IsNearAt-turn 0 1 d b a p (near_at_start d b a p (rw (← same_x, ← same_y) close)))

touch_from_tests : (d : ℕ) (a b c : Pt3) → IsHorizontalOrVertical a b → int_min a.z b.z ≤ℤ c.z → Near d (plan a) (plan b) (plan c) → Touch d a b c
touch_from_tests d a b c straight low near =
    ⊎_elim
    (λ (level : a.z ≡ b.z). let (n, m, h) = near in
    (n, m, record { close = h; low = level-low (pos m) (pos n) a.z b.z c.z (omega (arith, sums)) level (omega (arith, ints, clamps)) }))
    (λ (upright : IsVertical a b).
    let ends = vertical_near d (plan a) (plan b) (plan c) upright.0 upright.1 near in
    by_lt_z b.z a.z
    (λ down. (1, 1, record { close = ends.1; low = simp expand (omega (arith, ints, clamps)) }))
    (λ up. (0, 1, record { close = ends.0; low = simp expand (omega (arith, ints, clamps)) })))
    straight

pub touch_by_height_and_plan : (d : ℕ) (a b c : Pt3) → IsHorizontalOrVertical a b →
    Touch d a b c ↔ ((int_min a.z b.z ≤ℤ c.z) × Near d (plan a) (plan b) (plan c))
touch_by_height_and_plan d a b c straight = (
  λ (n, m, h). (
    lowest_le (pos m) (pos n) a.z b.z (int_min a.z b.z) c.z (omega (arith, sums, h.close.fraction)) (omega (arith, sums)) (omega (arith, sums, h.close.fraction)) (omega (arith, ints, clamps)) (omega (arith, ints, clamps)) h.low,
    (n, m, h.close),
  ),
  λ (low, near). touch_from_tests d a b c straight low near,
)

-- ---- laws
pub touch_above : (d : ℕ) (a b c : Pt3) (z : ℤ) → c.z ≤ℤ z → Touch d a b c → Touch d a b (record c { z = z })
touch_above d a b c z above (n, m, h) =
    let higher = product_le (pos m) c.z z (omega (arith, sums)) above in
    (n, m, record { close = h.close; low = omega (arith, sums, h.low) })

pub cut_is_touch : (d e : ℕ) (a b c : Pt3) → Cut d e a b c → Touch d a b c
cut_is_touch d e a b c h = touch_above d a b (record c { z = c.z -ℤ pos e }) c.z (omega (arith, sums)) h
