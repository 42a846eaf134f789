-- Facts on vectors and matrices as tests, so that they can be tried at each direction.
use Rattle.std.proofs.Common.{◌≡◌, ◌+◌, Bool, true, false, ◌&&◌, ◌||◌, not, eqb, pos, unsigned_abs}
use Rattle.std.proofs.lemmas.Bool.{and_parts, and_from, eqb-true, eq-eqb, false≢true}
use Rattle.std.proofs.lemmas.Bool.Decides.{Decides-int_eq}
use Rattle.std.specs.Ordering.{int_eq}
use Rattle.sn_frame.specs.Matrix.{Vector, Matrix, row_x, row_y, row_z, determinant, IsSignedRotation}
use Rattle.sn_frame.specs.declared.direction.Axis.TheVariants.{X, Y, Z}
use Rattle.sn_frame.specs.declared.direction.Sign.TheVariants.{Plus, Minus}
use Rattle.sn_frame.specs.declared.direction.Direction.{Direction}

abbrev pub vector_eq : Vector → Vector → Bool
vector_eq u v = int_eq u.x v.x && (int_eq u.y v.y && int_eq u.z v.z)

abbrev pub matrix_eq : Matrix → Matrix → Bool
matrix_eq m k = vector_eq m.first k.first && (vector_eq m.second k.second && vector_eq m.third k.third)

abbrev pub is_signed_unit : Vector → Bool
is_signed_unit v = eqb (unsigned_abs v.x + unsigned_abs v.y + unsigned_abs v.z) 1

abbrev pub is_signed_rotation : Matrix → Bool
is_signed_rotation m =
    is_signed_unit m.first && (is_signed_unit m.second && (is_signed_unit m.third &&
    (is_signed_unit (row_x m) && (is_signed_unit (row_y m) && (is_signed_unit (row_z m) && int_eq (determinant m) (pos 1))))))

pub same_vector : (u v : Vector) → vector_eq u v ≡ true → u ≡ v
same_vector u v h =
    let a = and_parts _ _ h in
    let b = and_parts _ _ (a.1) in
    let x : u.x ≡ v.x = (Decides-int_eq u.x v.x).0 (a.0) in
    let y : u.y ≡ v.y = (Decides-int_eq u.y v.y).0 (b.0) in
    let z : u.z ≡ v.z = (Decides-int_eq u.z v.z).0 (b.1) in
    λ i. record { x = x i; y = y i; z = z i }

pub same_matrix : (m k : Matrix) → matrix_eq m k ≡ true → m ≡ k
same_matrix m k h =
    let a = and_parts _ _ h in
    let b = and_parts _ _ (a.1) in
    let first = same_vector m.first k.first (a.0) in
    let second = same_vector m.second k.second (b.0) in
    let third = same_vector m.third k.third (b.1) in
    λ i. record { first = first i; second = second i; third = third i }

pub rotation_passes : {m : Matrix} → IsSignedRotation m → is_signed_rotation m ≡ true
rotation_passes {m} r =
    and_from _ _ (eq-eqb _ _ r.first) (and_from _ _ (eq-eqb _ _ r.second) (and_from _ _ (eq-eqb _ _ r.third)
    (and_from _ _ (eq-eqb _ _ r.row_x) (and_from _ _ (eq-eqb _ _ r.row_y) (and_from _ _ (eq-eqb _ _ r.row_z)
    ((Decides-int_eq (determinant m) (pos 1)).1 r.determinant))))))

pub rotation_from_test : (m : Matrix) → is_signed_rotation m ≡ true → IsSignedRotation m
rotation_from_test m h =
    let a = and_parts _ _ h in
    let b = and_parts _ _ (a.1) in
    let c = and_parts _ _ (b.1) in
    let d = and_parts _ _ (c.1) in
    let e = and_parts _ _ (d.1) in
    let f = and_parts _ _ (e.1) in
    record {
      first = eqb-true _ _ (a.0);
      second = eqb-true _ _ (b.0);
      third = eqb-true _ _ (c.0);
      row_x = eqb-true _ _ (d.0);
      row_y = eqb-true _ _ (e.0);
      row_z = eqb-true _ _ (f.0);
      determinant = (Decides-int_eq (determinant m) (pos 1)).0 (f.1);
    }

-- the test passes at each of the six directions
abbrev pub every : (Direction → Bool) → Bool
every p =
    p (record { along = X; sign = Plus }) && (p (record { along = X; sign = Minus }) &&
    (p (record { along = Y; sign = Plus }) && (p (record { along = Y; sign = Minus }) &&
    (p (record { along = Z; sign = Plus }) && p (record { along = Z; sign = Minus })))))

pub every-at : (p : Direction → Bool) → every p ≡ true → (d : Direction) → p d ≡ true
every-at p h d =
    let a = and_parts _ _ h in
    let b = and_parts _ _ (a.1) in
    let c = and_parts _ _ (b.1) in
    let e = and_parts _ _ (c.1) in
    let f = and_parts _ _ (e.1) in
    elim d.along as (λ along. p (record { along = along; sign = d.sign }) ≡ true) [
      | X ↦ elim d.sign as (λ sign. p (record { along = X; sign = sign }) ≡ true) [ Plus ↦ a.0 | Minus ↦ b.0 ]
      | Y ↦ elim d.sign as (λ sign. p (record { along = Y; sign = sign }) ≡ true) [ Plus ↦ c.0 | Minus ↦ e.0 ]
      | Z ↦ elim d.sign as (λ sign. p (record { along = Z; sign = sign }) ≡ true) [ Plus ↦ f.0 | Minus ↦ f.1 ]
    ]

-- a test under a condition that passes
pub under : (c t : Bool) → (not c || t) ≡ true → c ≡ true → t ≡ true
under true t h e = h
under false t h e = elim (false≢true e) [ ]
