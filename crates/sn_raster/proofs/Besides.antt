-- What is near a segment is, on each axis, not far outside of its ends.
use Rattle.std.proofs.Common.{ℕ, ◌≡◌, ◌+◌, ◌*◌, ◌≤◌, ◌<◌, ℤ, pos, negsuc, ◌+ℤ◌, ◌-ℤ◌, ◌*ℤ◌, ◌≤ℤ◌, ◌<ℤ◌, unsigned_abs, refl, arith}
use Rattle.std.proofs.lemmas.Int.{ints, clamps}
use Rattle.std.specs.Int.{int_min, int_max}
use Rattle.sn_geom.proofs.Ring.{sums, expand, product_not_negative, le_of_product_le}
use Rattle.sn_geom.specs.declared.units.Pt.{Pt}
use Rattle.sn_geom.specs.Length.{IsLength}
use Rattle.sn_geom.specs.Sweep.{Near, offset_at, square}
use Rattle.sn_raster.specs.Grid.{first_place, last_place, half_up}
use Rattle.sn_raster.specs.Reach.{IsBeside}
use Rattle.sn_raster.specs.ReachLaws.{NearIsInABox}
use Rattle.sn_raster.proofs.Axis.{from, up_to}

-- ---- one axis
not_past : (m n a b p high d : ℤ) → pos 0 <ℤ m → pos 0 ≤ℤ n → n ≤ℤ m → a ≤ℤ high → b ≤ℤ high
    → ((m *ℤ (p -ℤ a) -ℤ n *ℤ (b -ℤ a)) +ℤ (m *ℤ (p -ℤ a) -ℤ n *ℤ (b -ℤ a))) ≤ℤ (d *ℤ m) → (p +ℤ p) ≤ℤ (high +ℤ high +ℤ d)
not_past m n a b p high d some least most le le' close =
    let first = simp expand at (product_not_negative (m -ℤ n) (high -ℤ a) (omega (arith, sums)) (omega (arith, sums))) in
    let second = simp expand at (product_not_negative n (high -ℤ b) least (omega (arith, sums))) in
    let h = simp expand at close in
    le_of_product_le m (p +ℤ p) (high +ℤ high +ℤ d) some (simp expand (omega (arith, sums)))

not_before : (m n a b p low d : ℤ) → pos 0 <ℤ m → pos 0 ≤ℤ n → n ≤ℤ m → low ≤ℤ a → low ≤ℤ b
    → (pos 0 -ℤ ((m *ℤ (p -ℤ a) -ℤ n *ℤ (b -ℤ a)) +ℤ (m *ℤ (p -ℤ a) -ℤ n *ℤ (b -ℤ a)))) ≤ℤ (d *ℤ m) → (low +ℤ low) ≤ℤ (p +ℤ p +ℤ d)
not_before m n a b p low d some least most le le' close =
    let first = simp expand at (product_not_negative (m -ℤ n) (a -ℤ low) (omega (arith, sums)) (omega (arith, sums))) in
    let second = simp expand at (product_not_negative n (b -ℤ low) least (omega (arith, sums))) in
    let h = simp expand at close in
    le_of_product_le m (low +ℤ low) (p +ℤ p +ℤ d) some (simp expand (omega (arith, sums)))

-- a number whose square is at most another's is at most it
root_le : (a b : ℕ) → a * a ≤ b * b → a ≤ b
root_le a b h = grind arith

offset_size : (x y : ℤ) (d m : ℕ) → 4 * (square x + square y) ≤ d * d * (m * m) → 2 * unsigned_abs x ≤ d * m
offset_size x y d m h = root_le (2 * unsigned_abs x) (d * m) (let u = unsigned_abs x in let v = unsigned_abs y in grind arith)

twice_at_most : (x : ℤ) (k : ℕ) → 2 * unsigned_abs x ≤ k → (x +ℤ x) ≤ℤ pos k
twice_at_most (pos x) k h = omega (arith, ints)
twice_at_most (negsuc x) k h = omega (arith, ints)

twice_at_least : (x : ℤ) (k : ℕ) → 2 * unsigned_abs x ≤ k → (pos 0 -ℤ (x +ℤ x)) ≤ℤ pos k
twice_at_least (pos x) k h = omega (arith, ints)
twice_at_least (negsuc x) k h = omega (arith, ints)

half_above : (x high : ℤ) (d : ℕ) → (x +ℤ x) ≤ℤ (high +ℤ high +ℤ pos d) → x ≤ℤ (high +ℤ pos (half_up d))
half_above x high d h = omega (arith, ints)

half_below : (x low : ℤ) (d : ℕ) → (low +ℤ low) ≤ℤ (x +ℤ x +ℤ pos d) → (low -ℤ pos (half_up d)) ≤ℤ x
half_below x low d h = omega (arith, ints)

beside_axis : (n m d : ℕ) (a b p y : ℤ) → 0 < m → n ≤ m → 4 * (square (offset_at n m a b p) + square y) ≤ d * d * (m * m) → IsBeside d a b p
beside_axis n m d a b p y some within close =
    let size = offset_size (offset_at n m a b p) y d m close in
    let up : (offset_at n m a b p +ℤ offset_at n m a b p) ≤ℤ (pos d *ℤ pos m) = twice_at_most (offset_at n m a b p) (d * m) size in
    let down : (pos 0 -ℤ (offset_at n m a b p +ℤ offset_at n m a b p)) ≤ℤ (pos d *ℤ pos m) = twice_at_least (offset_at n m a b p) (d * m) size in
    record {
      low = half_below p (int_min a b) d (not_before (pos m) (pos n) a b p (int_min a b) (pos d) (omega (arith, ints)) (omega (arith, ints)) (omega (arith, ints)) (omega (arith, ints, clamps)) (omega (arith, ints, clamps)) down);
      high = half_above p (int_max a b) d (not_past (pos m) (pos n) a b p (int_max a b) (pos d) (omega (arith, ints)) (omega (arith, ints)) (omega (arith, ints)) (omega (arith, ints, clamps)) (omega (arith, ints, clamps)) up);
    }

pub near_across : (d : ℕ) (a b p : Pt) → Near d a b p → IsBeside d a.x b.x p.x
near_across d a b p (n, m, near) = beside_axis n m d a.x b.x p.x (offset_at n m a.y b.y p.y) near.fraction.some_parts near.fraction.within near.close

pub near_up : (d : ℕ) (a b p : Pt) → Near d a b p → IsBeside d a.y b.y p.y
near_up d a b p (n, m, near) =
    let x = square (offset_at n m a.x b.x p.x) in
    let y = square (offset_at n m a.y b.y p.y) in
    let close : 4 * (y + x) ≤ d * d * (m * m) = (let h = near.close in omega (arith, h)) in
    beside_axis n m d a.y b.y p.y (offset_at n m a.x b.x p.x) near.fraction.some_parts near.fraction.within close

-- the places beside two coordinates
first_beside : (d g : ℕ) (a b k : ℤ) → 0 < g → IsBeside d a b (k *ℤ pos g) → first_place g (int_min a b -ℤ pos (half_up d)) ≤ℤ k
first_beside d g a b k some beside = (from k (int_min a b -ℤ pos (half_up d)) g some).1 beside.low

last_beside : (d g : ℕ) (a b k : ℤ) → 0 < g → IsBeside d a b (k *ℤ pos g) → k ≤ℤ last_place g (int_max a b +ℤ pos (half_up d))
last_beside d g a b k some beside = (up_to k (int_max a b +ℤ pos (half_up d)) g some).1 beside.high

pub near_is_in_a_box : NearIsInABox
near_is_in_a_box d a b p near = (near_across d a b p near, near_up d a b p near)

-- ---- places computed
pub first_is_beside : (d g h : ℕ) (a b k lowest first : ℤ) → 0 < g → lowest ≡ int_min a b → h ≡ half_up d → first ≡ first_place g (lowest -ℤ pos h) → IsBeside d a b (k *ℤ pos g) → first ≤ℤ k
first_is_beside d g h a b k lowest first some low half is beside = rw (is, low, half) (first_beside d g a b k some beside)

pub last_is_beside : (d g h : ℕ) (a b k highest last : ℤ) → 0 < g → highest ≡ int_max a b → h ≡ half_up d → last ≡ last_place g (highest +ℤ pos h) → IsBeside d a b (k *ℤ pos g) → k ≤ℤ last
last_is_beside d g h a b k highest last some high half is beside = rw (is, high, half) (last_beside d g a b k some beside)

pub most_length : (a b top : ℤ) → top ≡ int_max a b → IsLength a → IsLength b → IsLength top
most_length a b top is h k = omega (arith, ints, clamps)

pub least_length : (a b low : ℤ) → low ≡ int_min a b → IsLength a → IsLength b → IsLength low
least_length a b low is h k = omega (arith, ints, clamps)

pub most_value : (a a' b b' top : ℤ) → a' ≡ a → b' ≡ b → top ≡ int_max a' b' → top ≡ int_max a b
most_value a a' b b' top e f is = rw (is, e, f) refl

pub least_value : (a a' b b' low : ℤ) → a' ≡ a → b' ≡ b → low ≡ int_min a' b' → low ≡ int_min a b
least_value a a' b b' low e f is = rw (is, e, f) refl

pub most_at_most : (a b k top : ℤ) → top ≡ int_max a b → a ≤ℤ k → b ≤ℤ k → top ≤ℤ k
most_at_most a b k top is h i = omega (arith, ints, clamps)

pub least_at_least : (a b k low : ℤ) → low ≡ int_min a b → k ≤ℤ a → k ≤ℤ b → k ≤ℤ low
least_at_least a b k low is h i = omega (arith, ints, clamps)

pub beside_at : (d g g' : ℕ) (a b k : ℤ) → g' ≡ g → IsBeside d a b (k *ℤ pos g) → IsBeside d a b (k *ℤ pos g')
beside_at d g g' a b k same beside = rw same beside

pub at_least_as : (a a' k : ℤ) → a' ≡ a → a ≤ℤ k → a' ≤ℤ k
at_least_as a a' k same h = rw same h

pub at_most_as : (a a' k : ℤ) → a' ≡ a → k ≤ℤ a → k ≤ℤ a'
at_most_as a a' k same h = rw same h
