-- The laws of matrices.
use Rattle.std.proofs.Common.{◌≡◌, ℤ, ◌+ℤ◌, sym, arith}
use Rattle.std.proofs.lemmas.Int.{ints}
use Rattle.sn_geom.specs.declared.units.Pt3.{Pt3}
use Rattle.sn_frame.specs.Matrix.{Vector, Matrix, row_x, row_y, row_z, dot_product, image, product}
use Rattle.sn_frame.specs.Frame.{Transform, vector_of, applied, composed, identity}
use Rattle.sn_frame.proofs.Products.{expand}

-- a row of a product
abbrev row_times : Vector → Matrix → Vector
row_times r m = record { x = dot_product r m.first; y = dot_product r m.second; z = dot_product r m.third }

dot_product-row_times : (r : Vector) (m : Matrix) (v : Vector) → dot_product (row_times r m) v ≡ dot_product r (image m v)
dot_product-row_times r m v = simp expand (omega (arith, ints))

image-product : (m k : Matrix) (v : Vector) → image (product m k) v ≡ image m (image k v)
image-product m k v =
    let x = dot_product-row_times (row_x m) k v in
    let y = dot_product-row_times (row_y m) k v in
    let z = dot_product-row_times (row_z m) k v in
    λ i. record { x = x i; y = y i; z = z i }

abbrev sum : Vector → Vector → Vector
sum u v = record { x = u.x +ℤ v.x; y = u.y +ℤ v.y; z = u.z +ℤ v.z }

shifted : (r u s : Vector) (d t : ℤ) → d ≡ dot_product r u → d +ℤ (dot_product r s +ℤ t) ≡ dot_product r (sum u s) +ℤ t
shifted r u s d t e = simp (e, expand) (omega (arith, ints))

pub applied-composed : (outer inner : Transform) (p : Pt3) → applied (composed outer inner) p ≡ applied outer (applied inner p)
unfolding applied composed
applied-composed outer inner p =
    let m = outer.matrix in
    let k = inner.matrix in
    let v = vector_of p in
    let s = vector_of inner.shift in
    let x = shifted (row_x m) (image k v) s _ outer.shift.x (dot_product-row_times (row_x m) k v) in
    let y = shifted (row_y m) (image k v) s _ outer.shift.y (dot_product-row_times (row_y m) k v) in
    let z = shifted (row_z m) (image k v) s _ outer.shift.z (dot_product-row_times (row_z m) k v) in
    λ i. record { x = x i; y = y i; z = z i }

pub composed-composed : (f g h : Transform) → composed f (composed g h) ≡ composed (composed f g) h
unfolding applied composed
composed-composed f g h =
    let first = image-product f.matrix g.matrix h.matrix.first in
    let second = image-product f.matrix g.matrix h.matrix.second in
    let third = image-product f.matrix g.matrix h.matrix.third in
    let shift = applied-composed f g h.shift in
    λ i. record { matrix = record { first = sym first i; second = sym second i; third = sym third i }; shift = sym shift i }

pub applied-identity : (p : Pt3) → applied identity p ≡ p
unfolding applied
applied-identity p =
    let x : (applied identity p).x ≡ p.x = simp expand (omega (arith, ints)) in
    let y : (applied identity p).y ≡ p.y = simp expand (omega (arith, ints)) in
    let z : (applied identity p).z ≡ p.z = simp expand (omega (arith, ints)) in
    λ i. record { x = x i; y = y i; z = z i }

image-identity : (v : Vector) → image identity.matrix v ≡ v
image-identity v =
    let x : (image identity.matrix v).x ≡ v.x = simp expand (omega (arith, ints)) in
    let y : (image identity.matrix v).y ≡ v.y = simp expand (omega (arith, ints)) in
    let z : (image identity.matrix v).z ≡ v.z = simp expand (omega (arith, ints)) in
    λ i. record { x = x i; y = y i; z = z i }

pub composed-identity_left : (f : Transform) → composed identity f ≡ f
unfolding applied composed
composed-identity_left f =
    let first = image-identity f.matrix.first in
    let second = image-identity f.matrix.second in
    let third = image-identity f.matrix.third in
    let shift = applied-identity f.shift in
    λ i. record { matrix = record { first = first i; second = second i; third = third i }; shift = shift i }

dot_product-units : (r : Vector) →
    (dot_product r identity.matrix.first ≡ r.x) × (dot_product r identity.matrix.second ≡ r.y) × (dot_product r identity.matrix.third ≡ r.z)
dot_product-units r = (simp expand (omega (arith, ints)), simp expand (omega (arith, ints)), simp expand (omega (arith, ints)))

plus_shift : (r : Vector) (t : ℤ) → dot_product r (vector_of identity.shift) +ℤ t ≡ t
plus_shift r t = simp expand (omega (arith, ints))

pub composed-identity_right : (f : Transform) → composed f identity ≡ f
unfolding applied composed
composed-identity_right f =
    let x = dot_product-units (row_x f.matrix) in
    let y = dot_product-units (row_y f.matrix) in
    let z = dot_product-units (row_z f.matrix) in
    let a = plus_shift (row_x f.matrix) f.shift.x in
    let b = plus_shift (row_y f.matrix) f.shift.y in
    let c = plus_shift (row_z f.matrix) f.shift.z in
    λ i. record {
      matrix =
          record {
            first = record { x = x.0 i; y = y.0 i; z = z.0 i };
            second = record { x = x.1 i; y = y.1 i; z = z.1 i };
            third = record { x = x.2 i; y = y.2 i; z = z.2 i };
          };
      shift = record { x = a i; y = b i; z = c i };
    }
