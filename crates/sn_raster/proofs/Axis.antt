-- The places of an axis: which are between two coordinates, how large they are, and which are in the range.
use Rattle.std.proofs.Common.{ℕ, suc, ◌≡◌, ◌*◌, ◌/◌, ◌≤◌, ◌<◌, ◌↔◌, ℤ, pos, negsuc, ◌+ℤ◌, ◌-ℤ◌, ◌*ℤ◌, neg_ℤ, ◌≤ℤ◌, unsigned_abs, to_z, of_z, ap, ◌∙◌, arith}
use Rattle.std.specs.Int.{w32, int_div_euclid}
use Rattle.std.proofs.lemmas.Nat.{mul-le}
use Rattle.std.proofs.Math.Nat.{div-mul-le_self, le-div_iff_mul-le, div-lt_iff_lt-mul}
use Rattle.std.proofs.Math.IntN.{*ℤ_comm}
use Rattle.std.proofs.lemmas.Int.{ints, clamps, to_z-of_z}
use Rattle.sn_geom.proofs.Ring.{sums, neg_ℤ-*ℤ, product_le}
use Rattle.sn_geom.specs.Length.{IsLength}
use Rattle.sn_raster.specs.Grid.{first_place, last_place, places, AreInRange}

-- a length is kept by a signed number of 32 bits
pub kept : (z : ℤ) → IsLength z → to_z w32 (of_z w32 z) ≡ z
kept (pos n) h = to_z-of_z w32 (pos n) (record { sfits = omega arith })
kept (negsuc n) h = to_z-of_z w32 (negsuc n) (record { sfits = omega arith })

pub kept_as : (z y : ℤ) → z ≡ y → IsLength y → to_z w32 (of_z w32 z) ≡ y
kept_as z y e h = ap (λ v. to_z w32 (of_z w32 v)) e ∙ kept y h

pub kept_length : (z y : ℤ) → z ≡ y → IsLength y → IsLength (to_z w32 (of_z w32 z))
kept_length z y e h = rw (kept_as z y e h) h

half_quotient : (a g : ℕ) → 2 ≤ g → 2 * (a / g) ≤ a
half_quotient a g h =
    let whole = div-mul-le_self a g in
    let less : a / g * 2 ≤ a / g * g = mul-le (a / g) 2 (a / g) g (omega arith) h in
    omega arith

-- a place is at most half as large as its coordinate, from a pitch of two on
pub place_size : (z : ℤ) (g reach : ℕ) → 2 ≤ g → unsigned_abs z ≤ 2 * reach → unsigned_abs (int_div_euclid z (pos g)) ≤ reach
place_size (pos a) g reach h size = let half = half_quotient a g h in omega (arith, ints)
place_size (negsuc a) g reach h size = let half = half_quotient a g h in omega (arith, ints)

quotient_rises : (a b g : ℕ) → 0 < g → a ≤ b → a / g ≤ b / g
quotient_rises a b g some h = (le-div_iff_mul-le some).1 (let whole = div-mul-le_self a g in omega arith)

-- a greater coordinate has no lower last place
last_rises : (a b : ℤ) (g : ℕ) → 0 < g → a ≤ℤ b → int_div_euclid a (pos g) ≤ℤ int_div_euclid b (pos g)
last_rises (pos a) (pos b) g some h = let over : a / g ≤ b / g = quotient_rises a b g some (omega (arith, sums)) in omega (arith, sums)
last_rises (pos a) (negsuc b) g some h = absurd (omega (arith, sums))
last_rises (negsuc a) (pos b) g some h = omega (arith, sums)
last_rises (negsuc a) (negsuc b) g some h = let over : b / g ≤ a / g = quotient_rises b a g some (omega (arith, sums)) in omega (arith, sums)

pub last_grown : (high : ℤ) (margin g : ℕ) → 0 < g → last_place g high ≤ℤ last_place g (high +ℤ pos margin)
last_grown high margin g some = last_rises high (high +ℤ pos margin) g some (omega (arith, sums))

pub first_grown : (low : ℤ) (margin g : ℕ) → 0 < g → first_place g (low -ℤ pos margin) ≤ℤ first_place g low
first_grown low margin g some =
    let over = last_rises (neg_ℤ low) (neg_ℤ (low -ℤ pos margin)) g some (omega (arith, sums)) in
    omega (arith, sums)

-- the last place is the greatest whose coordinate is not above
pub up_to : (k z : ℤ) (g : ℕ) → 0 < g → k ≤ℤ last_place g z ↔ ((k *ℤ pos g) ≤ℤ z)
up_to (pos a) (pos b) g some =
    let iff : a ≤ b / g ↔ (a * g ≤ b) = le-div_iff_mul-le some in
    ((λ h. let over = iff.0 (omega (arith, sums)) in omega (arith, sums)), (λ h. let over = iff.1 (omega (arith, sums)) in omega (arith, sums)))
up_to (pos a) (negsuc b) g some = ((λ h. absurd (omega (arith, sums))), (λ h. absurd (omega (arith, sums))))
up_to (negsuc a) (pos b) g some = ((λ h. omega (arith, sums)), (λ h. omega (arith, sums)))
up_to (negsuc a) (negsuc b) g some =
    let iff : b / g < suc a ↔ (b < suc a * g) = div-lt_iff_lt-mul some in
    ((λ h. let over = iff.0 (omega (arith, sums)) in omega (arith, sums)), (λ h. let over = iff.1 (omega (arith, sums)) in omega (arith, sums)))

-- between places in the range are places in the range
pub in_range : (g : ℕ) (first last k : ℤ) → AreInRange g first last → first ≤ℤ k → k ≤ℤ last → IsLength (k *ℤ pos g)
in_range g first last k range low high =
    let from = product_le (pos g) first k (omega (arith, sums)) low in
    let to = product_le (pos g) k last (omega (arith, sums)) high in
    let turned = *ℤ_comm (pos g) first in
    let turned_k = *ℤ_comm (pos g) k in
    let turned_last = *ℤ_comm (pos g) last in
    between (first *ℤ pos g) (k *ℤ pos g) (last *ℤ pos g) range.0 range.1 (omega (arith, sums)) (omega (arith, sums))
  where
    between : (a k b : ℤ) → IsLength a → IsLength b → a ≤ℤ k → k ≤ℤ b → IsLength k
    between a k b first last low high = omega (arith, ints)

-- there is a place from the first to the last
pub some_place : (first last k : ℤ) → first ≤ℤ k → k ≤ℤ last → 0 < places first last
some_place first last k low high = omega (arith, ints, clamps)

-- the first place is the least whose coordinate is not below
pub from : (k z : ℤ) (g : ℕ) → 0 < g → first_place g z ≤ℤ k ↔ (z ≤ℤ (k *ℤ pos g))
from k z g some =
    let iff = up_to (neg_ℤ k) (neg_ℤ z) g some in
    let turned = neg_ℤ-*ℤ k (pos g) in (
      (λ h. let over = iff.0 (omega (arith, sums)) in omega (arith, sums)),
      (λ h. let over = iff.1 (omega (arith, sums)) in omega (arith, sums)),
    )
