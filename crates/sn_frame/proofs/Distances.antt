-- Signed rotations keep distances.
use Rattle.std.proofs.Common.{◌≡◌, Bool, true, ◌&&◌, ℤ, pos, ◌+ℤ◌, ◌-ℤ◌, ◌*ℤ◌, refl, sym, subst, ◌∙◌, arith}
use Rattle.std.proofs.lemmas.Int.{ints}
use Rattle.std.proofs.lemmas.Bool.{and_parts}
use Rattle.std.proofs.lemmas.Bool.Decides.{Decides-int_eq}
use Rattle.std.specs.Ordering.{int_eq}
use Rattle.sn_geom.specs.declared.units.Pt3.{Pt3}
use Rattle.sn_frame.specs.Matrix.{Vector, Matrix, row_x, row_y, row_z, dot_product, image, IsSignedRotation}
use Rattle.sn_frame.specs.Frame.{Transform, vector_of, applied}
use Rattle.sn_frame.specs.FrameLaws.{distance_squared}
use Rattle.sn_frame.proofs.Products.{*ℤ-sum, expand}
use Rattle.sn_frame.proofs.Rotations.{every_rotation, every_rotation-at}

abbrev difference : Pt3 → Pt3 → Vector
difference p q = record { x = p.x -ℤ q.x; y = p.y -ℤ q.y; z = p.z -ℤ q.z }

abbrev square : ℤ → ℤ
square a = a *ℤ a

abbrev length_squared : Vector → ℤ
length_squared v = square v.x +ℤ square v.y +ℤ square v.z

abbrev twice : ℤ → ℤ
twice a = a +ℤ a

one_row : (a d g x y z : ℤ) →
    square (a *ℤ x +ℤ d *ℤ y +ℤ g *ℤ z) ≡
    square x *ℤ square a +ℤ square y *ℤ square d +ℤ square z *ℤ square g
    +ℤ twice (x *ℤ y *ℤ (a *ℤ d)) +ℤ twice (y *ℤ z *ℤ (d *ℤ g)) +ℤ twice (z *ℤ x *ℤ (g *ℤ a))
one_row a d g x y z = simp expand (omega (arith, ints))

times_three : (k a b c : ℤ) → k *ℤ (a +ℤ b +ℤ c) ≡ k *ℤ a +ℤ k *ℤ b +ℤ k *ℤ c
times_three k a b c = rw (*ℤ-sum k (a +ℤ b) c, *ℤ-sum k a b) refl

-- the terms of three rows, by kinds
by_kinds : (a d g p q r b e h s t u c f i v w x : ℤ) →
    (a +ℤ d +ℤ g +ℤ twice p +ℤ twice q +ℤ twice r) +ℤ (b +ℤ e +ℤ h +ℤ twice s +ℤ twice t +ℤ twice u)
    +ℤ (c +ℤ f +ℤ i +ℤ twice v +ℤ twice w +ℤ twice x) ≡
    (a +ℤ b +ℤ c) +ℤ (d +ℤ e +ℤ f) +ℤ (g +ℤ h +ℤ i) +ℤ twice (p +ℤ s +ℤ v) +ℤ twice (q +ℤ t +ℤ w) +ℤ twice (r +ℤ u +ℤ x)
by_kinds a d g p q r b e h s t u c f i v w x = omega (arith, ints)

-- three squares of sums of three products each, by the columns
expanded : (a b c d e f g h i x y z : ℤ) →
    square (a *ℤ x +ℤ d *ℤ y +ℤ g *ℤ z) +ℤ square (b *ℤ x +ℤ e *ℤ y +ℤ h *ℤ z) +ℤ square (c *ℤ x +ℤ f *ℤ y +ℤ i *ℤ z) ≡
    square x *ℤ (square a +ℤ square b +ℤ square c) +ℤ square y *ℤ (square d +ℤ square e +ℤ square f)
    +ℤ square z *ℤ (square g +ℤ square h +ℤ square i) +ℤ twice (x *ℤ y *ℤ (a *ℤ d +ℤ b *ℤ e +ℤ c *ℤ f))
    +ℤ twice (y *ℤ z *ℤ (d *ℤ g +ℤ e *ℤ h +ℤ f *ℤ i)) +ℤ twice (z *ℤ x *ℤ (g *ℤ a +ℤ h *ℤ b +ℤ i *ℤ c))
expanded a b c d e f g h i x y z =
    rw (one_row a d g x y z, one_row b e h x y z, one_row c f i x y z)
    (rw (
      times_three (square x) (square a) (square b) (square c),
      times_three (square y) (square d) (square e) (square f),
      times_three (square z) (square g) (square h) (square i),
      times_three (x *ℤ y) (a *ℤ d) (b *ℤ e) (c *ℤ f),
      times_three (y *ℤ z) (d *ℤ g) (e *ℤ h) (f *ℤ i),
      times_three (z *ℤ x) (g *ℤ a) (h *ℤ b) (i *ℤ c),
    )
    (by_kinds
    (square x *ℤ square a) (square y *ℤ square d) (square z *ℤ square g) (x *ℤ y *ℤ (a *ℤ d)) (y *ℤ z *ℤ (d *ℤ g)) (z *ℤ x *ℤ (g *ℤ a))
    (square x *ℤ square b) (square y *ℤ square e) (square z *ℤ square h) (x *ℤ y *ℤ (b *ℤ e)) (y *ℤ z *ℤ (e *ℤ h)) (z *ℤ x *ℤ (h *ℤ b))
    (square x *ℤ square c) (square y *ℤ square f) (square z *ℤ square i) (x *ℤ y *ℤ (c *ℤ f)) (y *ℤ z *ℤ (f *ℤ i)) (z *ℤ x *ℤ (i *ℤ c))))

-- the square of the length of an image, by the products of the columns
by_columns : (m : Matrix) (v : Vector) →
    length_squared (image m v) ≡
    square v.x *ℤ dot_product m.first m.first +ℤ square v.y *ℤ dot_product m.second m.second +ℤ square v.z *ℤ dot_product m.third m.third
    +ℤ twice (v.x *ℤ v.y *ℤ dot_product m.first m.second) +ℤ twice (v.y *ℤ v.z *ℤ dot_product m.second m.third)
    +ℤ twice (v.z *ℤ v.x *ℤ dot_product m.third m.first)
by_columns m v =
    expanded m.first.x m.first.y m.first.z m.second.x m.second.y m.second.z m.third.x m.third.y m.third.z v.x v.y v.z

-- each column is of length 1 and at right angles to the other two
pub record IsOrthonormal (m : Matrix) : Type 0 where
  pub first : dot_product m.first m.first ≡ pos 1
  pub second : dot_product m.second m.second ≡ pos 1
  pub third : dot_product m.third m.third ≡ pos 1
  pub first_second : dot_product m.first m.second ≡ pos 0
  pub second_third : dot_product m.second m.third ≡ pos 0
  pub third_first : dot_product m.third m.first ≡ pos 0

length_squared-image : (m : Matrix) (v : Vector) → IsOrthonormal m → length_squared (image m v) ≡ length_squared v
length_squared-image m v h =
    by_columns m v ∙ rw (h.first, h.second, h.third, h.first_second, h.second_third, h.third_first) (simp expand (omega (arith, ints)))

abbrev is_orthonormal : Matrix → Bool
is_orthonormal m =
    int_eq (dot_product m.first m.first) (pos 1) && (int_eq (dot_product m.second m.second) (pos 1) &&
    (int_eq (dot_product m.third m.third) (pos 1) && (int_eq (dot_product m.first m.second) (pos 0) &&
    (int_eq (dot_product m.second m.third) (pos 0) && int_eq (dot_product m.third m.first) (pos 0)))))

orthonormal_from_test : (m : Matrix) → is_orthonormal m ≡ true → IsOrthonormal m
orthonormal_from_test m h =
    let a = and_parts _ _ h in
    let b = and_parts _ _ (a.1) in
    let c = and_parts _ _ (b.1) in
    let d = and_parts _ _ (c.1) in
    let e = and_parts _ _ (d.1) in
    record {
      first = (Decides-int_eq (dot_product m.first m.first) (pos 1)).0 (a.0);
      second = (Decides-int_eq (dot_product m.second m.second) (pos 1)).0 (b.0);
      third = (Decides-int_eq (dot_product m.third m.third) (pos 1)).0 (c.0);
      first_second = (Decides-int_eq (dot_product m.first m.second) (pos 0)).0 (d.0);
      second_third = (Decides-int_eq (dot_product m.second m.third) (pos 0)).0 (e.0);
      third_first = (Decides-int_eq (dot_product m.third m.first) (pos 0)).0 (e.1);
    }

orthonormal_everywhere : every_rotation is_orthonormal ≡ true
orthonormal_everywhere = refl

orthonormal : (m : Matrix) → IsSignedRotation m → IsOrthonormal m
orthonormal m h = orthonormal_from_test m (every_rotation-at is_orthonormal orthonormal_everywhere m h)

-- two images in one coordinate
apart : (r p q : Vector) (t : ℤ) →
    (dot_product r p +ℤ t) -ℤ (dot_product r q +ℤ t) ≡
    dot_product r (record { x = p.x -ℤ q.x; y = p.y -ℤ q.y; z = p.z -ℤ q.z })
apart r p q t = simp expand (omega (arith, ints))

difference-applied : (f : Transform) (p q : Pt3) → difference (applied f p) (applied f q) ≡ image f.matrix (difference p q)
unfolding applied
difference-applied f p q =
    let x = apart (row_x f.matrix) (vector_of p) (vector_of q) f.shift.x in
    let y = apart (row_y f.matrix) (vector_of p) (vector_of q) f.shift.y in
    let z = apart (row_z f.matrix) (vector_of p) (vector_of q) f.shift.z in
    λ i. record { x = x i; y = y i; z = z i }

pub distance_squared-applied : (f : Transform) → IsSignedRotation f.matrix → (p q : Pt3) →
    distance_squared (applied f p) (applied f q) ≡ distance_squared p q
distance_squared-applied f h p q =
    subst (λ (v : Vector). length_squared v ≡ length_squared (difference p q)) (sym (difference-applied f p q))
    (length_squared-image f.matrix (difference p q) (orthonormal f.matrix h))
