-- What placements stand for.
use Rattle.std.proofs.Common.{◌≡◌, ◌≢◌, ◌↔◌, zero, suc, Bool, true, false, not, ◌||◌, ◌&&◌, ◌==◌, [], ◌∷◌, ◌⊎◌, inl, inr, ℤ, pos, negsuc, unsigned_abs, refl, sym, ap, subst, ◌∙◌, ⊎_elim, arith, IsTrue, IsFalse}
use Rattle.std.proofs.lemmas.Bool.{false≢true, not-true, not-false, or_cases, or_parts, or_from, cases_Bool, not_from_true, and_parts, and_from}
use Rattle.std.proofs.lemmas.Bool.Decides.{Decides-int_eq}
use Rattle.std.specs.List.{count_by}
use Rattle.std.specs.Int.{int_signum}
use Rattle.std.specs.Ordering.{int_eq}
use Rattle.std.specs.Bool.{Decides}
use Rattle.sn_geom.specs.declared.units.Pt3.{Pt3}
use Rattle.sn_frame.specs.Matrix.{Vector, Matrix, scaled, cross_product, IsSignedUnit, IsSignedRotation}
use Rattle.sn_frame.specs.Direction.{unit, matrix_of}
use Rattle.sn_frame.specs.Frame.{Transform, is_axis, signs_of, are_parallel, is_skew, is_upright, placed}
use Rattle.sn_frame.specs.FrameLaws.{IsAxis, ArePerpendicularAxes, IsPlacementFrame, up}
use Rattle.sn_frame.specs.declared.direction.Direction.{Direction}
use Rattle.sn_frame.proofs.Checks.{vector_eq, matrix_eq, is_signed_rotation, same_vector, same_matrix, rotation_from_test, every, every-at, under}
use Rattle.sn_frame.proofs.Rotations.{direction_of_unit, every_rotation, every_rotation-at}

abbrev one_fails : Bool → Bool → Bool → Bool
one_fails a b c = count_by (λ t. not t) (a ∷ b ∷ c ∷ []) == 1

abbrev OneFails : Type 0 → Type 0 → Type 0 → Type 0
OneFails A B C = ((¬ A) × B × C) ⊎ ((A × (¬ B) × C) ⊎ (A × B × (¬ C)))

three_cases : {P Q R S : Type 0} → (P → S) → (Q → S) → (R → S) → P ⊎ (Q ⊎ R) → S
three_cases f g h (inl p) = f p
three_cases f g h (inr (inl q)) = g q
three_cases f g h (inr (inr r)) = h r

Decides-one_fails : {A B C : Type 0} (a b c : Bool) → Decides a A → Decides b B → Decides c C →
    Decides (one_fails a b c) (OneFails A B C)
Decides-one_fails true true true x y z = (
  λ h. absurd (false≢true h),
  three_cases (λ p. absurd (p.0 (x.0 refl))) (λ p. absurd (p.1 (y.0 refl))) (λ p. absurd (p.2 (z.0 refl))),
)
Decides-one_fails false true true x y z = (λ _. inl (λ p. false≢true (x.1 p), y.0 refl, z.0 refl), λ _. refl)
Decides-one_fails true false true x y z = (λ _. inr (inl (x.0 refl, λ p. false≢true (y.1 p), z.0 refl)), λ _. refl)
Decides-one_fails true true false x y z = (λ _. inr (inr (x.0 refl, y.0 refl, λ p. false≢true (z.1 p))), λ _. refl)
Decides-one_fails false false true x y z =
    (λ h. absurd (false≢true h), three_cases (λ p. y.1 (p.1)) (λ p. x.1 (p.0)) (λ p. x.1 (p.0)))
Decides-one_fails false true false x y z =
    (λ h. absurd (false≢true h), three_cases (λ p. z.1 (p.2)) (λ p. x.1 (p.0)) (λ p. x.1 (p.0)))
Decides-one_fails true false false x y z =
    (λ h. absurd (false≢true h), three_cases (λ p. y.1 (p.1)) (λ p. z.1 (p.2)) (λ p. y.1 (p.1)))
Decides-one_fails false false false x y z =
    (λ h. absurd (false≢true h), three_cases (λ p. y.1 (p.1)) (λ p. x.1 (p.0)) (λ p. x.1 (p.0)))

-- `is_axis` says whether exactly one ratio is not 0
pub Decides-is_axis : (v : Vector) → Decides (is_axis v) (IsAxis v)
unfolding is_axis
Decides-is_axis v =
    Decides-one_fails (int_eq v.x (pos 0)) (int_eq v.y (pos 0)) (int_eq v.z (pos 0))
    (Decides-int_eq v.x (pos 0)) (Decides-int_eq v.y (pos 0)) (Decides-int_eq v.z (pos 0))

size-sign_of_zero : (z : ℤ) → z ≡ pos 0 → unsigned_abs (int_signum z) ≡ 0
size-sign_of_zero z e = rw e refl

size-sign_of_other : (z : ℤ) → z ≢ pos 0 → unsigned_abs (int_signum z) ≡ 1
size-sign_of_other (pos zero) e = absurd (e refl)
size-sign_of_other (pos (suc n)) e = omega arith
size-sign_of_other (negsuc n) e = refl

IsSignedUnit-signs_of : (v : Vector) → IsAxis v → IsSignedUnit (signs_of v)
IsSignedUnit-signs_of v =
    three_cases
    (λ p. rw (size-sign_of_other v.x (p.0), size-sign_of_zero v.y (p.1), size-sign_of_zero v.z (p.2)) refl)
    (λ p. rw (size-sign_of_zero v.x (p.0), size-sign_of_other v.y (p.1), size-sign_of_zero v.z (p.2)) refl)
    (λ p. rw (size-sign_of_zero v.x (p.0), size-sign_of_zero v.y (p.1), size-sign_of_other v.z (p.2)) refl)

-- the signs of an axis are the unit vector of a direction
direction_of_axis : (v : Vector) → IsAxis v → (d : Direction) × (unit d ≡ signs_of v)
direction_of_axis v h = direction_of_unit (signs_of v) (IsSignedUnit-signs_of v h)

abbrev opposite : Vector → Vector
opposite v = scaled (negsuc 0) v

abbrev on_one_line : Direction → Direction → Bool
on_one_line a r = not (are_parallel (unit a) (unit r)) || (vector_eq (unit r) (unit a) || vector_eq (unit r) (opposite (unit a)))

on_one_line_everywhere : every (λ a. every (λ r. on_one_line a r)) ≡ true
on_one_line_everywhere = refl

along_itself : every (λ a. are_parallel (unit a) (unit a) && are_parallel (unit a) (opposite (unit a))) ≡ true
along_itself = refl

abbrev rotates : Direction → Direction → Bool
rotates a r = are_parallel (unit a) (unit r) || is_signed_rotation (matrix_of r a)

rotates_everywhere : every (λ a. every (λ r. rotates a r)) ≡ true
rotates_everywhere = refl

-- axes on one line point the same way or opposite ways
same_or_opposite : (axis reference : Vector) → IsAxis axis → IsAxis reference →
    are_parallel (signs_of axis) (signs_of reference) ≡ true →
    (signs_of reference ≡ signs_of axis) ⊎ (signs_of reference ≡ opposite (signs_of axis))
same_or_opposite axis reference p q =
    let d = direction_of_axis axis p in
    let e = direction_of_axis reference q in
    let passes = every-at (λ r. on_one_line (d.0) r) (every-at (λ a. every (λ r. on_one_line a r)) on_one_line_everywhere (d.0)) (e.0) in
    let at_directions : are_parallel (unit (d.0)) (unit (e.0)) ≡ true → (unit (e.0) ≡ unit (d.0)) ⊎ (unit (e.0) ≡ opposite (unit (d.0))) =
    λ h. ⊎_elim (λ s. inl (same_vector _ _ s)) (λ o. inr (same_vector _ _ o)) (or_cases _ _ (under _ _ passes h)) in
    subst (λ (u : Vector). are_parallel u (signs_of reference) ≡ true → (signs_of reference ≡ u) ⊎ (signs_of reference ≡ opposite u)) (d.1)
    (subst (λ (v : Vector). are_parallel (unit (d.0)) v ≡ true → (v ≡ unit (d.0)) ⊎ (v ≡ opposite (unit (d.0)))) (e.1) at_directions)

parallel_to_itself : (axis : Vector) → IsAxis axis →
    (are_parallel (signs_of axis) (signs_of axis) ≡ true) × (are_parallel (signs_of axis) (opposite (signs_of axis)) ≡ true)
parallel_to_itself axis p =
    let d = direction_of_axis axis p in
    subst (λ (u : Vector). (are_parallel u u ≡ true) × (are_parallel u (opposite u) ≡ true)) (d.1)
    (and_parts _ _ (every-at (λ a. are_parallel (unit a) (unit a) && are_parallel (unit a) (opposite (unit a))) along_itself (d.0)))

pub perpendicular_unless_skew : (axis reference : Vector) → IsFalse (is_skew axis reference) → ArePerpendicularAxes axis reference
unfolding is_skew
perpendicular_unless_skew axis reference h =
    let parts = or_parts _ _ h in
    let axes = or_parts _ _ (parts.0) in
    let p = (Decides-is_axis axis).0 (not-false _ (axes.0)) in
    let q = (Decides-is_axis reference).0 (not-false _ (axes.1)) in
    let along = parallel_to_itself axis p in
    record {
      axis_is_axis = p;
      reference_is_axis = q;
      not_same = λ e. false≢true (sym (parts.1) ∙ subst (λ (v : Vector). are_parallel (signs_of axis) v ≡ true) (sym e) (along.0));
      not_opposite = λ e. false≢true (sym (parts.1) ∙ subst (λ (v : Vector). are_parallel (signs_of axis) v ≡ true) (sym e) (along.1));
    }

pub not_parallel : (axis reference : Vector) → ArePerpendicularAxes axis reference → are_parallel (signs_of axis) (signs_of reference) ≡ false
not_parallel axis reference h =
    ⊎_elim (λ t. absurd (⊎_elim h.not_same h.not_opposite (same_or_opposite axis reference h.axis_is_axis h.reference_is_axis t))) (λ f. f)
    (cases_Bool (are_parallel (signs_of axis) (signs_of reference)))

pub not_skew : (axis reference : Vector) → ArePerpendicularAxes axis reference → IsFalse (is_skew axis reference)
unfolding is_skew
not_skew axis reference h =
    or_from _ _
    (or_from _ _ (not_from_true _ ((Decides-is_axis axis).1 h.axis_is_axis)) (not_from_true _ ((Decides-is_axis reference).1 h.reference_is_axis)))
    (not_parallel axis reference h)

rotation-placed : (location : Pt3) (axis reference : Vector) → ArePerpendicularAxes axis reference → IsSignedRotation (placed location axis reference).matrix
unfolding placed
rotation-placed location axis reference h =
    let d = direction_of_axis axis h.axis_is_axis in
    let e = direction_of_axis reference h.reference_is_axis in
    let passes = every-at (λ r. rotates (d.0) r) (every-at (λ a. every (λ r. rotates a r)) rotates_everywhere (d.0)) (e.0) in
    let apart : are_parallel (unit (d.0)) (unit (e.0)) ≡ false =
    subst (λ (u : Vector). are_parallel u (unit (e.0)) ≡ false) (sym (d.1))
    (subst (λ (v : Vector). are_parallel (signs_of axis) v ≡ false) (sym (e.1)) (not_parallel axis reference h)) in
    let at_directions : IsSignedRotation (matrix_of (e.0) (d.0)) =
    ⊎_elim (λ t. absurd (false≢true (sym apart ∙ t))) (λ t. rotation_from_test _ t) (or_cases _ _ passes) in
    subst (λ (u : Vector). IsSignedRotation (record { first = signs_of reference; second = cross_product u (signs_of reference); third = u })) (d.1)
    (subst (λ (v : Vector). IsSignedRotation (record { first = v; second = cross_product (unit (d.0)) v; third = unit (d.0) })) (e.1) at_directions)

second_follows_everywhere : every_rotation (λ m. vector_eq m.second (cross_product m.third m.first)) ≡ true
second_follows_everywhere = refl

-- the second column of a signed rotation follows from the other two
second_column : (m : Matrix) → IsSignedRotation m → m.second ≡ cross_product m.third m.first
second_column m h =
    same_vector _ _ (every_rotation-at (λ n. vector_eq n.second (cross_product n.third n.first)) second_follows_everywhere m h)

pub one_frame : (location : Pt3) (axis reference : Vector) (f : Transform) → ArePerpendicularAxes axis reference →
    (IsPlacementFrame location axis reference f ↔ (f ≡ placed location axis reference))
unfolding placed
one_frame location axis reference f h = (
  λ p.
      let second : f.matrix.second ≡ cross_product (signs_of axis) (signs_of reference) =
      second_column f.matrix p.rotation ∙ rw (p.first, p.third) refl in
      let first = p.first in
      let third = p.third in
      let shift = p.shift in
      λ i. record { matrix = record { first = first i; second = second i; third = third i }; shift = shift i },
  λ e.
      record {
        rotation = subst (λ (t : Transform). IsSignedRotation t.matrix) (sym e) (rotation-placed location axis reference h);
        first = ap (λ (t : Transform). t.matrix.first) e;
        third = ap (λ (t : Transform). t.matrix.third) e;
        shift = ap (λ (t : Transform). t.shift) e;
      },
)

-- what a placement makes of two directions
abbrev rotation_placed : Vector → Vector → Matrix
rotation_placed axis reference =
    record {
      first = signs_of reference;
      second = cross_product (signs_of axis) (signs_of reference);
      third = signs_of axis;
    }

abbrev is_placed : Matrix → Bool
is_placed m = not (is_skew m.third m.first) && matrix_eq (rotation_placed m.third m.first) m

is_placed_everywhere : every_rotation is_placed ≡ true
unfolding is_skew is_axis
is_placed_everywhere = refl

pub each_is_placed : (location : Pt3) (m : Matrix) → IsSignedRotation m →
    IsFalse (is_skew m.third m.first) × (placed location m.third m.first ≡ record { matrix = m; shift = location })
unfolding placed
each_is_placed location m h =
    let parts = and_parts _ _ (every_rotation-at is_placed is_placed_everywhere m h) in
    let matrix = same_matrix _ _ (parts.1) in
    (not-true _ (parts.0), λ i. record { matrix = matrix i; shift = location })

pub upright : (f : Transform) → (IsTrue (is_upright f) ↔ (f.matrix.third ≡ up))
unfolding is_upright
upright f = (
  λ h.
      let a = and_parts _ _ h in
      let b = and_parts _ _ (a.0) in
      let x : f.matrix.third.x ≡ pos 0 = (Decides-int_eq f.matrix.third.x (pos 0)).0 (b.0) in
      let y : f.matrix.third.y ≡ pos 0 = (Decides-int_eq f.matrix.third.y (pos 0)).0 (b.1) in
      let z : f.matrix.third.z ≡ pos 1 = (Decides-int_eq f.matrix.third.z (pos 1)).0 (a.1) in
      λ i. record { x = x i; y = y i; z = z i },
  λ e.
      and_from _ _
      (and_from _ _
      ((Decides-int_eq f.matrix.third.x (pos 0)).1 (ap (λ (v : Vector). v.x) e))
      ((Decides-int_eq f.matrix.third.y (pos 0)).1 (ap (λ (v : Vector). v.y) e)))
      ((Decides-int_eq f.matrix.third.z (pos 1)).1 (ap (λ (v : Vector). v.z) e)),
)
