-- The frame that composing gives.
use Rattle.std.proofs.Common.{◌≡◌, Bool, true, false, Result, Ok, Err, if◌then◌else◌, refl, sym, ap, ◌∙◌, subst}
use Rattle.sn_geom.specs.declared.units.Pt3.{Pt3}
use Rattle.sn_frame.specs.Matrix.{Matrix, IsSignedRotation, cross_product, image, product}
use Rattle.sn_frame.specs.Direction.{unit, matrix_of}
use Rattle.sn_frame.specs.Frame.{Transform, applied, composed, is_in_range}
use Rattle.sn_frame.specs.declared.direction.Direction.{Direction}
use Rattle.sn_frame.proofs.Rotations.{cross_product-image, rotation-product}

-- the images of the two directions are those of the product
pub matrix_of-images : (m : Matrix) (r a s b : Direction) → IsSignedRotation m → unit s ≡ image m (unit r) →
    unit b ≡ image m (unit a) → matrix_of s b ≡ product m (matrix_of r a)
matrix_of-images m r a s b h first third =
    let second : cross_product (unit b) (unit s) ≡ image m (cross_product (unit a) (unit r)) =
    rw (first, third) (cross_product-image m a r h) in
    λ i. record { first = first i; second = second i; third = third i }

pub rotation-images : (m : Matrix) (r a s b : Direction) → IsSignedRotation m → IsSignedRotation (matrix_of r a) →
    unit s ≡ image m (unit r) → unit b ≡ image m (unit a) → IsSignedRotation (matrix_of s b)
rotation-images m r a s b h k first third =
    subst IsSignedRotation (sym (matrix_of-images m r a s b h first third)) (rotation-product m (matrix_of r a) h k)

-- what a choice that gave `Ok` chose
chosen : {A E : Type 0} (b : Bool) (x q : A) (fault : E) → (if b then Ok x else Err fault) ≡ Ok q → (b ≡ true) × (x ≡ q)
chosen true x q fault h = (refl, cc)
chosen false x q fault h = cc

-- the composed frame, where the inner frame's shift was put in the range
pub composed_in_range : {E : Type 0} (f g : Transform) (m : Matrix) (q : Pt3) (r : Result Pt3 E) (fault : E) →
    m ≡ product f.matrix g.matrix →
    r ≡ (if is_in_range (applied f g.shift) then Ok (applied f g.shift) else Err fault) → r ≡ Ok q →
    ◌≡◌ {A = Result Transform E} (Ok (record { matrix = m; shift = q }))
    (if is_in_range (applied f g.shift) then Ok (composed f g) else Err fault)
unfolding composed
composed_in_range {E} f g m q r fault matrix tells is =
    let p = chosen (is_in_range (applied f g.shift)) (applied f g.shift) q fault (sym tells ∙ is) in
    let shift = p.1 in
    let parts : ◌≡◌ {A = Transform} (record { matrix = m; shift = q }) (composed f g) =
    λ i. record { matrix = matrix i; shift = sym shift i } in
    subst (λ (b : Bool). ◌≡◌ {A = Result Transform E} (Ok (record { matrix = m; shift = q })) (if b then Ok (composed f g) else Err fault))
    (sym (p.0)) (ap Ok parts)
