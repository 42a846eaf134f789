-- Laws of frames, in the words of geometry.
use Rattle.std.specs.Prelude.{◌≡◌, ◌≢◌, ◌↔◌, ◌⊎◌, IsTrue, IsFalse, List, [], ◌∷◌, map, ℤ, pos, negsuc, ◌+ℤ◌, ◌-ℤ◌, ◌*ℤ◌}
use Rattle.std.specs.List.{filter, flat_map}
use Rattle.std.specs.Ordering.{int_eq}
use Rattle.sn_geom.specs.declared.units.Pt3.{Pt3}
use Rattle.sn_frame.specs.Matrix.{Vector, Matrix, scaled, dot_product, cross_product, IsSignedRotation}
use Rattle.sn_frame.specs.Frame.{Transform, applied, composed, identity, signs_of, is_skew, is_upright, placed}

-- exactly one of the three ratios is not 0
abbrev pub IsAxis : Vector → Type 0
IsAxis v =
    ((v.x ≢ pos 0) × (v.y ≡ pos 0) × (v.z ≡ pos 0)) ⊎
    (((v.x ≡ pos 0) × (v.y ≢ pos 0) × (v.z ≡ pos 0)) ⊎ ((v.x ≡ pos 0) × (v.y ≡ pos 0) × (v.z ≢ pos 0)))

-- both are axes, and they point neither the same way nor opposite ways
pub record ArePerpendicularAxes (axis reference : Vector) : Type 0 where
  pub axis_is_axis : IsAxis axis
  pub reference_is_axis : IsAxis reference
  pub not_same : signs_of reference ≢ signs_of axis
  pub not_opposite : signs_of reference ≢ scaled (negsuc 0) (signs_of axis)

-- the signed rotation that a placement stands for, with its location
pub record IsPlacementFrame (location : Pt3) (axis reference : Vector) (f : Transform) : Type 0 where
  pub rotation : IsSignedRotation f.matrix
  pub first : f.matrix.first ≡ signs_of reference
  pub third : f.matrix.third ≡ signs_of axis
  pub shift : f.shift ≡ location

-- a placement is skew exactly where its two directions are not two axes at right angles
abbrev pub SkewMeansNotPerpendicular : Type 0
SkewMeansNotPerpendicular = (axis reference : Vector) → IsFalse (is_skew axis reference) ↔ ArePerpendicularAxes axis reference

-- +Z
abbrev pub up : Vector
up = record { x = pos 0; y = pos 0; z = pos 1 }

-- a frame is upright exactly where its third column is +Z
abbrev pub UprightKeepsUp : Type 0
UprightKeepsUp = (f : Transform) → IsTrue (is_upright f) ↔ (f.matrix.third ≡ up)

-- of a placement that is not skew there is one frame, the signed rotation with those two columns
abbrev pub PlacementDeterminesFrame : Type 0
PlacementDeterminesFrame =
    (location : Pt3) (axis reference : Vector) (f : Transform) → ArePerpendicularAxes axis reference →
    (IsPlacementFrame location axis reference f ↔ (f ≡ placed location axis reference))

-- to apply a composition is to apply the inner frame and then the outer one
abbrev pub CompositionAppliesInnerThenOuter : Type 0
CompositionAppliesInnerThenOuter = (outer inner : Transform) (p : Pt3) → applied (composed outer inner) p ≡ applied outer (applied inner p)

abbrev pub CompositionIsAssociative : Type 0
CompositionIsAssociative = (f g h : Transform) → composed f (composed g h) ≡ composed (composed f g) h

abbrev pub IdentityKeepsPoints : Type 0
IdentityKeepsPoints = (p : Pt3) → applied identity p ≡ p

abbrev pub IdentityIsNeutral : Type 0
IdentityIsNeutral = (f : Transform) → (composed identity f ≡ f) × (composed f identity ≡ f)

-- the square of the distance
abbrev pub distance_squared : Pt3 → Pt3 → ℤ
distance_squared p q =
    (p.x -ℤ q.x) *ℤ (p.x -ℤ q.x) +ℤ (p.y -ℤ q.y) *ℤ (p.y -ℤ q.y) +ℤ (p.z -ℤ q.z) *ℤ (p.z -ℤ q.z)

abbrev pub FramesKeepDistances : Type 0
FramesKeepDistances =
    (f : Transform) → IsSignedRotation f.matrix → (p q : Pt3) →
    distance_squared (applied f p) (applied f q) ≡ distance_squared p q

-- each signed rotation is that of a placement: the one with its first and third columns as directions
abbrev pub EachRotationIsPlaced : Type 0
EachRotationIsPlaced =
    (location : Pt3) (m : Matrix) → IsSignedRotation m →
    IsFalse (is_skew m.third m.first) × (placed location m.third m.first ≡ record { matrix = m; shift = location })

-- the vectors of length 1 along the coordinate axes
abbrev pub units : List Vector
units =
    record { x = pos 1; y = pos 0; z = pos 0 } ∷ record { x = negsuc 0; y = pos 0; z = pos 0 } ∷
    record { x = pos 0; y = pos 1; z = pos 0 } ∷ record { x = pos 0; y = negsuc 0; z = pos 0 } ∷
    record { x = pos 0; y = pos 0; z = pos 1 } ∷ record { x = pos 0; y = pos 0; z = negsuc 0 } ∷ []

abbrev pub right_handed : Vector → Vector → Matrix
right_handed first third = record { first = first; second = cross_product third first; third = third }

-- the right-handed matrices with one of the six vectors in the first column, and one of the four at right angles to it in the third
abbrev pub signed_rotations : List Matrix
signed_rotations =
    flat_map (λ first. map (right_handed first) (filter (λ third. int_eq (dot_product first third) (pos 0)) units)) units
