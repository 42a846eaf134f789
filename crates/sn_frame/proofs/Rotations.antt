-- The signed rotations, by the directions of their columns.
use Rattle.std.proofs.Common.{◌≡◌, ℕ, ◌+◌, Bool, true, not, ◌||◌, ◌⊎◌, inl, inr, ℤ, pos, negsuc, unsigned_abs, refl, sym, ap, subst, ◌∙◌, arith}
use Rattle.sn_frame.specs.Matrix.{Vector, Matrix, IsSignedUnit, IsSignedRotation, cross_product, image, product}
use Rattle.sn_frame.specs.Direction.{unit, sign_value, matrix_of}
use Rattle.sn_frame.specs.declared.direction.Axis.TheVariants.{X, Y, Z}
use Rattle.sn_frame.specs.declared.direction.Sign.{Sign}
use Rattle.sn_frame.specs.declared.direction.Sign.TheVariants.{Plus, Minus}
use Rattle.sn_frame.specs.declared.direction.Direction.{Direction}
use Rattle.sn_frame.proofs.Checks.{vector_eq, is_signed_rotation, same_vector, rotation_passes, rotation_from_test, every, every-at, under}

sign_of_one : (z : ℤ) → unsigned_abs z ≡ 1 → (s : Sign) × (sign_value s ≡ z)
sign_of_one (pos n) h = (Plus, ap pos (sym h))
sign_of_one (negsuc n) h = (Minus, ap negsuc (omega arith))

zero_of_none : (z : ℤ) → unsigned_abs z ≡ 0 → pos 0 ≡ z
zero_of_none (pos n) h = ap pos (sym h)
zero_of_none (negsuc n) h = absurd (omega arith)

one_of_three : (a b c : ℕ) → a + b + c ≡ 1 →
    ((a ≡ 1) × (b ≡ 0) × (c ≡ 0)) ⊎ (((a ≡ 0) × (b ≡ 1) × (c ≡ 0)) ⊎ ((a ≡ 0) × (b ≡ 0) × (c ≡ 1)))
one_of_three a b c h = grind arith

-- a vector with one 1 or -1 is that of a direction
pub direction_of_unit : (v : Vector) → IsSignedUnit v → (d : Direction) × (unit d ≡ v)
direction_of_unit v h =
    elim (one_of_three (unsigned_abs v.x) (unsigned_abs v.y) (unsigned_abs v.z) h) [
      | inl p ↦
          let s = sign_of_one v.x (p.0) in let y = zero_of_none v.y (p.1) in let z = zero_of_none v.z (p.2) in
          (record { along = X; sign = s.0 }, λ i. record { x = s.1 i; y = y i; z = z i })
      | inr q ↦ elim q [
        | inl p ↦
            let x = zero_of_none v.x (p.0) in let s = sign_of_one v.y (p.1) in let z = zero_of_none v.z (p.2) in
            (record { along = Y; sign = s.0 }, λ i. record { x = x i; y = s.1 i; z = z i })
        | inr p ↦
            let x = zero_of_none v.x (p.0) in let y = zero_of_none v.y (p.1) in let s = sign_of_one v.z (p.2) in
            (record { along = Z; sign = s.0 }, λ i. record { x = x i; y = y i; z = s.1 i })
      ]
    ]

abbrev columns : Direction → Direction → Direction → Matrix
columns r s a = record { first = unit r; second = unit s; third = unit a }

abbrev second_follows : Direction → Direction → Direction → Bool
second_follows r s a = not (is_signed_rotation (columns r s a)) || vector_eq (cross_product (unit a) (unit r)) (unit s)

second_follows_everywhere : every (λ r. every (λ s. every (second_follows r s))) ≡ true
second_follows_everywhere = refl

-- the second column follows from the other two
second_column : (r s a : Direction) → IsSignedRotation (columns r s a) → cross_product (unit a) (unit r) ≡ unit s
second_column r s a h =
    let at_r = every-at (λ r'. every (λ s'. every (second_follows r' s'))) second_follows_everywhere r in
    let at_s = every-at (λ s'. every (second_follows r s')) at_r s in
    same_vector _ _ (under _ _ (every-at (second_follows r s) at_s a) (rotation_passes h))

-- a signed rotation is that of the directions of its first and third columns
rotation_of : (m : Matrix) → IsSignedRotation m → (r : Direction) × ((a : Direction) × (matrix_of r a ≡ m))
rotation_of m h =
    let r = direction_of_unit m.first h.first in
    let s = direction_of_unit m.second h.second in
    let a = direction_of_unit m.third h.third in
    let all : columns (r.0) (s.0) (a.0) ≡ m = λ i. record { first = r.1 i; second = s.1 i; third = a.1 i } in
    let second = second_column (r.0) (s.0) (a.0) (subst IsSignedRotation (sym all) h) in
    (r.0, (a.0, (λ i. record { first = unit (r.0); second = second i; third = unit (a.0) }) ∙ all))

abbrev pub at_directions : (Matrix → Bool) → Direction → Direction → Bool
at_directions p r a = not (is_signed_rotation (matrix_of r a)) || p (matrix_of r a)

-- the test passes at each signed rotation
abbrev pub every_rotation : (Matrix → Bool) → Bool
every_rotation p = every (λ r. every (at_directions p r))

pub every_rotation-at : (p : Matrix → Bool) → every_rotation p ≡ true → (m : Matrix) → IsSignedRotation m → p m ≡ true
every_rotation-at p h m rotation =
    let d = rotation_of m rotation in
    let passes = every-at (at_directions p (d.0)) (every-at (λ r. every (at_directions p r)) h (d.0)) (d.1.0) in
    subst (λ (k : Matrix). p k ≡ true) (d.1.1)
    (under _ _ passes (rotation_passes (subst IsSignedRotation (sym (d.1.1)) rotation)))

products_are_rotations : every_rotation (λ m. every_rotation (λ k. is_signed_rotation (product m k))) ≡ true
products_are_rotations = refl

-- the product of two signed rotations is one
pub rotation-product : (m k : Matrix) → IsSignedRotation m → IsSignedRotation k → IsSignedRotation (product m k)
rotation-product m k hm hk =
    let at_m = every_rotation-at (λ n. every_rotation (λ l. is_signed_rotation (product n l))) products_are_rotations m hm in
    rotation_from_test _ (every_rotation-at (λ l. is_signed_rotation (product m l)) at_m k hk)

abbrev turns_cross : Matrix → Direction → Direction → Bool
turns_cross m u v =
    vector_eq (cross_product (image m (unit u)) (image m (unit v))) (image m (cross_product (unit u) (unit v)))

turns_cross_everywhere : every_rotation (λ m. every (λ u. every (turns_cross m u))) ≡ true
turns_cross_everywhere = refl

-- a signed rotation keeps cross products
pub cross_product-image : (m : Matrix) (u v : Direction) → IsSignedRotation m →
    cross_product (image m (unit u)) (image m (unit v)) ≡ image m (cross_product (unit u) (unit v))
cross_product-image m u v h =
    let at_m = every_rotation-at (λ n. every (λ u'. every (turns_cross n u'))) turns_cross_everywhere m h in
    same_vector _ _ (every-at (turns_cross m u) (every-at (λ u'. every (turns_cross m u')) at_m u) v)
