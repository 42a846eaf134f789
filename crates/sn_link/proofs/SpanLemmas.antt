-- The columns and the rows of a window that may be near a segment.
use Rattle.std.proofs.Common.{ℕ, ◌≡◌, ◌+◌, ◌≤◌, ◌<◌, ◌↔◌, min, ℤ, pos, negsuc, ◌*◌, ◌+ℤ◌, ◌-ℤ◌, ◌*ℤ◌, ◌≤ℤ◌, unsigned_abs, w32, to_z, of_z, sym, ◌∙◌, subst, arith}
use Rattle.std.specs.Int.{int_max, int_min}
use Rattle.std.proofs.lemmas.Int.{ints, clamps, to_z-of_z}
use Rattle.sn_geom.proofs.Ring.{sums}
use Rattle.sn_geom.specs.declared.limits.TheConstants.{REACH}
use Rattle.sn_raster.specs.Grid.{half_up, last_place, places}
use Rattle.sn_raster.specs.Reach.{IsBeside}
use Rattle.sn_raster.proofs.Axis.{up_to}

before_last : (first last : ℤ) (k : ℕ) → k < places first last → (first +ℤ pos k) ≤ℤ last
before_last first last k below = omega (arith, ints, clamps)

not_after : (first last : ℤ) (k : ℕ) → (first +ℤ pos k) ≤ℤ last → k < places first last
not_after first last k low = omega (arith, ints, clamps)

-- a place of those up to a coordinate
pub counted_up_to : (first z : ℤ) (g k count : ℕ) → 0 < g → count ≡ places first (last_place g z) → k < count ↔ (((first +ℤ pos k) *ℤ pos g) ≤ℤ z)
counted_up_to first z g k count some is =
    let here = up_to (first +ℤ pos k) z g some in (
      λ below. here.0 (before_last first (last_place g z) k (subst (λ n. k < n) is below)),
      λ low. subst (λ n. k < n) (sym is) (not_after first (last_place g z) k (here.1 low)),
    )

past : (low z : ℤ) (out : ℕ) → z ≡ low -ℤ pos (out + 1) → (x : ℤ) → (low -ℤ pos out) ≤ℤ x → x ≤ℤ z → ⊥
past low z out is x from up = omega (arith, sums)

up : (high z : ℤ) (out : ℕ) → z ≡ high +ℤ pos out → (x : ℤ) → x ≤ℤ (high +ℤ pos out) → x ≤ℤ z
up high z out is x to = omega (arith, sums)

-- the places beside two coordinates are between those before them and those up to them
pub within_span : (a b before after x : ℤ) (d out k from to count : ℕ) → out ≡ half_up d → before ≡ int_min a b -ℤ pos (out + 1) → after ≡ int_max a b +ℤ pos out
    → (k < from ↔ (x ≤ℤ before)) → (k < to ↔ (x ≤ℤ after)) → k < count → IsBeside d a b x → (from ≤ k) × (k < min to count)
within_span a b before after x d out k from to count half is_before is_after from_is to_is below beside =
    let low = subst (λ h. (int_min a b -ℤ pos h) ≤ℤ x) (sym half) beside.low in
    let high = subst (λ h. x ≤ℤ (int_max a b +ℤ pos h)) (sym half) beside.high in
    let there = to_is.1 (up (int_max a b) after out is_after x high) in
    (not_before (λ h. past (int_min a b) before out is_before x low (from_is.0 h)), omega (arith, there, below))
  where
    not_before : (¬ (k < from)) → from ≤ k
    not_before shut = omega (arith, shut)

-- Numbers that were passed on.

pub kept_twice : (z : ℤ) → unsigned_abs z ≤ 2 * REACH → to_z w32 (of_z w32 z) ≡ z
kept_twice (pos n) h = to_z-of_z w32 (pos n) (record { sfits = omega (arith, h) })
kept_twice (negsuc n) h = to_z-of_z w32 (negsuc n) (record { sfits = omega (arith, h) })

pub places_as : (first first' last last' is : ℤ) → first' ≡ first → last' ≡ last → last ≡ is → places first' last' ≡ places first is
places_as first first' last last' is of_first of_last same = (λ i. places (of_first i) ((of_last ∙ same) i))

pub up_to_as : (first first' z z' : ℤ) (g k n : ℕ) → first' ≡ first → z' ≡ z → (k < n ↔ (((first' +ℤ pos k) *ℤ pos g) ≤ℤ z')) → k < n ↔ (((first +ℤ pos k) *ℤ pos g) ≤ℤ z)
up_to_as first first' z z' g k n of_first of_z up_to_z = rw (← of_first, ← of_z) up_to_z

pub beside_as : (d g g' k : ℕ) (a b first first' : ℤ) → first' ≡ first → g' ≡ g → IsBeside d a b ((first +ℤ pos k) *ℤ pos g) → IsBeside d a b ((first' +ℤ pos k) *ℤ pos g')
beside_as d g g' k a b first first' of_first of_pitch beside = rw (of_first, of_pitch) beside
