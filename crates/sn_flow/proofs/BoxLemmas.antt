-- Boxes of blocks that are turned.
use Rattle.std.proofs.Common.{◌≡◌, ◌≢◌, ◌⊎◌, refl, sym, ◌∙◌, ap, subst, inl, inr, ℕ, zero, suc, ◌+◌, ℤ, pos, negsuc, ◌+ℤ◌, ◌*ℤ◌, neg_ℤ, ◌≤ℤ◌, ◌<ℤ◌, unsigned_abs, arith}
use Rattle.std.specs.Int.{int_min, int_max}
use Rattle.std.specs.Prelude.{Result, Ok, Err, unwrap_or, Option, Some, if◌then◌else◌, Bool, true, false}
use Rattle.std.proofs.lemmas.Int.{ints, by_lt_z, int_max_is, int_min_is}
use Rattle.sn_geom.specs.declared.units.Pt3.{Pt3}
use Rattle.sn_geom.proofs.Ring.{sums, expand, neg_ℤ-*ℤ, unit-*ℤ}
use Rattle.sn_frame.specs.Matrix.{Vector, dot_product, row_x, row_y, row_z, IsSignedUnit, IsSignedRotation}
use Rattle.sn_frame.specs.Frame.{Transform, applied, vector_of}
use Rattle.sn_frame.specs.declared.frame.FrameFault.{FrameFault}
use Rattle.sn_model.specs.ModelContent.{ModelContent}
use Rattle.sn_refs.specs.Target.{values_of}
use Rattle.sn_entity.specs.Given.{one_at}
use Rattle.sn_words.specs.declared.options.RawBox.{RawBox}
use Rattle.sn_words.specs.Options.{IsBox}
use Rattle.sn_feature.specs.Placement.{placement_of, composed_at}
use Rattle.sn_feature.specs.Refusal.{◌>>=◌}
use Rattle.sn_flow.specs.Setup.{box_of_corners, applied_at, far_corner, block_box}
use Rattle.sn_flow.specs.Sides.{HasSides, box_at}

-- Signed units.

zero_of : (a : ℤ) → unsigned_abs a ≡ 0 → a ≡ pos 0
zero_of (pos zero) h = refl
zero_of (pos (suc n)) h = absurd (omega arith)
zero_of (negsuc n) h = absurd (omega arith)

unit_of : (c : ℤ) → unsigned_abs c ≡ 1 → (c ≡ pos 1) ⊎ (c ≡ negsuc 0)
unit_of (pos zero) h = absurd (omega arith)
unit_of (pos (suc n)) h = let is : n ≡ 0 = omega arith in inl (ap (λ k. pos (suc k)) is)
unit_of (negsuc n) h = let is : n ≡ 0 = omega arith in inr (ap (λ k. negsuc k) is)

-- what holds of each signed unit along X, along Y and along Z, either way
pub record HoldsOfUnits (P : ℤ → ℤ → ℤ → Type 0) : Type 0 where
  pub plus_x : P (pos 1) (pos 0) (pos 0)
  pub minus_x : P (negsuc 0) (pos 0) (pos 0)
  pub plus_y : P (pos 0) (pos 1) (pos 0)
  pub minus_y : P (pos 0) (negsuc 0) (pos 0)
  pub plus_z : P (pos 0) (pos 0) (pos 1)
  pub minus_z : P (pos 0) (pos 0) (negsuc 0)

at_three : (P : ℤ → ℤ → ℤ → Type 0) (a b c x y z : ℤ) → a ≡ x → b ≡ y → c ≡ z → P x y z → P a b c
at_three P a b c x y z e f g h = subst (λ v. P v b c) (sym e) (subst (λ v. P x v c) (sym f) (subst (λ v. P x y v) (sym g) h))

along_z : (P : ℤ → ℤ → ℤ → Type 0) → HoldsOfUnits P → (a b c : ℤ) → a ≡ pos 0 → b ≡ pos 0 → (c ≡ pos 1) ⊎ (c ≡ negsuc 0) → P a b c
along_z P h a b c e f (inl g) = at_three P a b c _ _ _ e f g h.plus_z
along_z P h a b c e f (inr g) = at_three P a b c _ _ _ e f g h.minus_z

along_y : (P : ℤ → ℤ → ℤ → Type 0) → HoldsOfUnits P → (a b c : ℤ) → a ≡ pos 0 → (b ≡ pos 1) ⊎ (b ≡ negsuc 0) → c ≡ pos 0 → P a b c
along_y P h a b c e (inl f) g = at_three P a b c _ _ _ e f g h.plus_y
along_y P h a b c e (inr f) g = at_three P a b c _ _ _ e f g h.minus_y

along_x : (P : ℤ → ℤ → ℤ → Type 0) → HoldsOfUnits P → (a b c : ℤ) → (a ≡ pos 1) ⊎ (a ≡ negsuc 0) → b ≡ pos 0 → c ≡ pos 0 → P a b c
along_x P h a b c (inl e) f g = at_three P a b c _ _ _ e f g h.plus_x
along_x P h a b c (inr e) f g = at_three P a b c _ _ _ e f g h.minus_x

beside_x : (P : ℤ → ℤ → ℤ → Type 0) → HoldsOfUnits P → (a b c : ℤ) → a ≡ pos 0 → unsigned_abs b + unsigned_abs c ≡ 1 → P a b c
beside_x P h a (pos zero) c e one = along_z P h a (pos 0) c e refl (unit_of c (omega arith))
beside_x P h a (pos (suc n)) c e one = along_y P h a (pos (suc n)) c e (unit_of (pos (suc n)) (omega arith)) (zero_of c (omega arith))
beside_x P h a (negsuc n) c e one = along_y P h a (negsuc n) c e (unit_of (negsuc n) (omega arith)) (zero_of c (omega arith))

pub of_unit : (P : ℤ → ℤ → ℤ → Type 0) → HoldsOfUnits P → (a b c : ℤ) → unsigned_abs a + unsigned_abs b + unsigned_abs c ≡ 1 → P a b c
of_unit P h (pos zero) b c one = beside_x P h (pos 0) b c refl (omega arith)
of_unit P h (pos (suc n)) b c one = along_x P h (pos (suc n)) b c (unit_of (pos (suc n)) (omega arith)) (zero_of b (omega arith)) (zero_of c (omega arith))
of_unit P h (negsuc n) b c one = along_x P h (negsuc n) b c (unit_of (negsuc n) (omega arith)) (zero_of b (omega arith)) (zero_of c (omega arith))

pub minus_one : (x : ℤ) → negsuc 0 *ℤ x ≡ neg_ℤ x
minus_one x = neg_ℤ-*ℤ (pos 1) x ∙ ap neg_ℤ (unit-*ℤ x)

-- The sum of products of a row and three sides.

apart : (x y z : ℤ) → pos 1 ≤ℤ x → pos 1 ≤ℤ y → pos 1 ≤ℤ z → HoldsOfUnits (λ a b c. a *ℤ x +ℤ b *ℤ y +ℤ c *ℤ z ≢ pos 0)
apart x y z h k l = record {
  plus_x = λ e. let f = simp expand at e in omega (arith, sums);
  minus_x = λ e. let f = simp (minus_one, expand) at e in omega (arith, sums);
  plus_y = λ e. let f = simp expand at e in omega (arith, sums);
  minus_y = λ e. let f = simp (minus_one, expand) at e in omega (arith, sums);
  plus_z = λ e. let f = simp expand at e in omega (arith, sums);
  minus_z = λ e. let f = simp (minus_one, expand) at e in omega (arith, sums);
}

below_if_apart : (s d : ℤ) → d ≢ pos 0 → int_min s (d +ℤ s) <ℤ int_max s (d +ℤ s)
below_if_apart s d h =
    by_lt_z s (d +ℤ s) (λ lt. omega (arith, ints, int_max_is, int_min_is))
    (λ le. by_lt_z (d +ℤ s) s (λ lt. omega (arith, ints, int_max_is, int_min_is)) (λ ge. absurd (h (omega (arith, ints)))))

row_apart : (r : Vector) (far : Pt3) (s : ℤ) → IsSignedUnit r → HasSides far → int_min s (dot_product r (vector_of far) +ℤ s) <ℤ int_max s (dot_product r (vector_of far) +ℤ s)
row_apart r far s unit sides = below_if_apart s (dot_product r (vector_of far)) (of_unit (λ a b c. a *ℤ far.x +ℤ b *ℤ far.y +ℤ c *ℤ far.z ≢ pos 0) (apart far.x far.y far.z sides.x sides.y sides.z) r.x r.y r.z unit)

-- the box of a turned block has three sides
pub turned_box : (f : Transform) (far : Pt3) → IsSignedRotation f.matrix → HasSides far → IsBox (box_of_corners f.shift (applied f far))
unfolding applied
turned_box f far turn sides = record {
  x = row_apart (row_x f.matrix) far f.shift.x turn.row_x sides;
  y = row_apart (row_y f.matrix) far f.shift.y turn.row_y sides;
  z = row_apart (row_z f.matrix) far f.shift.z turn.row_z sides;
}

-- The box of a block, step by step.

ok_if : {A E : Type 0} (b : Bool) (q x : A) (e : E) → Ok x ≡ (if b then Ok q else Err e) → x ≡ q
ok_if true q x e h = cc
ok_if false q x e h = absurd (cc)

pub sides_of_box : (f : Transform) (n : ℕ) (far corner : Pt3) (raw : RawBox) → Ok corner ≡ applied_at f n far → raw ≡ box_of_corners f.shift corner → IsSignedRotation f.matrix → HasSides far → IsBox raw
sides_of_box f n far corner raw at is turn sides =
    let reached = ok_if _ (applied f far) corner _ at in
    subst IsBox (sym (is ∙ ap (box_of_corners f.shift) reached)) (turned_box f far turn sides)

box_by : ModelContent → Transform → ℕ → ℕ → Result RawBox FrameFault
box_by m w block n = placement_of m n >>= λ inner. composed_at w n inner >>= λ frame. box_at frame n (far_corner m block)

pub block_box_is : (m : ModelContent) (w : Transform) (block n : ℕ) (inner : Transform) → one_at (values_of block m) 0 ≡ Some n → Ok inner ≡ placement_of m n → block_box m w block ≡ (composed_at w n inner >>= λ frame. box_at frame n (far_corner m block))
unfolding box_by
block_box_is m w block n inner named placed =
    let By : ℕ → Result RawBox FrameFault = box_by m w block in
    ap By (ap (λ (o : Option ℕ). unwrap_or o 0) named) ∙ ap (λ (r : Result Transform FrameFault). r >>= λ inner. composed_at w n inner >>= λ frame. box_at frame n (far_corner m block)) (sym placed)

pub block_box_err : (m : ModelContent) (w : Transform) (block n : ℕ) (inner : Transform) (why : FrameFault) → one_at (values_of block m) 0 ≡ Some n → Ok inner ≡ placement_of m n → Err why ≡ composed_at w n inner → block_box m w block ≡ Err why
block_box_err m w block n inner why named placed composed =
    block_box_is m w block n inner named placed ∙ ap (λ (r : Result Transform FrameFault). r >>= λ frame. box_at frame n (far_corner m block)) (sym composed)

pub block_box_ok : (m : ModelContent) (w : Transform) (block n : ℕ) (inner frame : Transform) → one_at (values_of block m) 0 ≡ Some n → Ok inner ≡ placement_of m n → Ok frame ≡ composed_at w n inner → block_box m w block ≡ box_at frame n (far_corner m block)
block_box_ok m w block n inner frame named placed composed =
    block_box_is m w block n inner named placed ∙ ap (λ (r : Result Transform FrameFault). r >>= λ frame. box_at frame n (far_corner m block)) (sym composed)
