-- Laws of outlines (this project's own).
use Rattle.std.specs.Prelude.{◌≡◌, ◌≢◌, ℕ, ◌≤◌, ◌*◌, ◌+◌, ℤ, pos, negsuc, neg_ℤ, ◌-ℤ◌, true, false, List, [], ◌∷◌, ◌++◌, unsigned_abs}
use Rattle.sn_geom.specs.declared.units.Pt.{Pt}
use Rattle.sn_model.specs.ModelContent.{ModelContent}
use Rattle.sn_frame.specs.declared.direction.Axis.{Axis}
use Rattle.sn_frame.specs.declared.direction.Axis.TheVariants.{X, Y, Z}
use Rattle.sn_frame.specs.declared.direction.Direction.{Direction}
use Rattle.sn_frame.specs.declared.direction.Sign.{Sign}
use Rattle.sn_frame.specs.declared.direction.Sign.TheVariants.{Plus, Minus}
use Rattle.sn_frame.specs.Frame.{Transform}
use Rattle.sn_outline.specs.declared.outline.Shape.TheVariants.{Rect}
use Rattle.sn_feature.specs.declared.entities.Boundary.TheVariants as boundary
use Rattle.sn_feature.specs.declared.entities.Course.TheVariants as course
use Rattle.sn_feature.specs.declared.entities.Form.TheVariants as form
use Rattle.sn_feature.specs.declared.entities.Pocket.{Pocket}
use Rattle.sn_feature.specs.declared.entities.Slot.{Slot}
use Rattle.sn_feature.specs.declared.sketch.Sketch.TheVariants.{Rectangle, Polygon}
use Rattle.sn_feature.specs.Entities.{course_of, profile_of, profile_length_of}
use Rattle.sn_feature.specs.Outline.{at, origin, corners, centred, face_sketch, straight, polyline_count, is_bad_outline, placed_shape}

abbrev pub to : Axis → Sign → Direction
to a s = record { along = a; sign = s }

-- A rectangle about the origin has its sides, and what lies before the origin is the half, or half a unit less.
abbrev pub SidesAreHalved : Type 0
SidesAreHalved =
    (width length : ℕ)
    → (a : Pt) × (b : Pt) × (centred width length ≡ Rectangle a b)
    × ((b.x -ℤ a.x) ≡ pos width) × ((b.y -ℤ a.y) ≡ pos length)
    × (2 * unsigned_abs a.x ≤ width) × (width ≤ 2 * unsigned_abs a.x + 1)
    × (2 * unsigned_abs a.y ≤ length) × (length ≤ 2 * unsigned_abs a.y + 1)

-- the frame that turns by a quarter, from +X to +Y, and shifts
abbrev pub quarter : ℤ → ℤ → Transform
quarter x y =
    record {
      matrix =
          record {
            first = record { x = pos 0; y = pos 1; z = pos 0 };
            second = record { x = negsuc 0; y = pos 0; z = pos 0 };
            third = record { x = pos 0; y = pos 0; z = pos 1 };
          };
      shift = record { x = x; y = y; z = pos 0 };
    }

-- a width of 5 runs from -2 to 3, and turns with its frame
abbrev pub WidthOfFive : Type 0
WidthOfFive =
    (centred 5 8 ≡ Rectangle (at (negsuc 1) (negsuc 3)) (at (pos 3) (pos 4)))
    × (placed_shape (quarter (pos 10) (pos 20)) (centred 5 8) ≡ Rect (at (pos 6) (pos 18)) (at (pos 14) (pos 23)))

-- a path along X has its profile to +Y, and one along Y to +X, whichever way it goes; along Z it has no outline
pub record FaceLiesBesidePath : Type 0 where
  pub right : (d p : ℕ) → face_sketch (to X Plus) d p ≡ Rectangle origin (at (pos d) (pos p))
  pub left : (d p : ℕ) → face_sketch (to X Minus) d p ≡ Rectangle origin (at (neg_ℤ (pos d)) (pos p))
  pub back : (d p : ℕ) → face_sketch (to Y Plus) d p ≡ Rectangle origin (at (pos p) (pos d))
  pub front : (d p : ℕ) → face_sketch (to Y Minus) d p ≡ Rectangle origin (at (pos p) (neg_ℤ (pos d)))
  pub upright : (s : Sign) (d p : ℕ) → face_sketch (to Z s) d p ≡ Polygon []

-- a path goes from the origin in its direction
pub record PathGoesInDirection : Type 0 where
  pub right : (d : ℕ) → straight (to X Plus) d ≡ origin ∷ at (pos d) (pos 0) ∷ []
  pub left : (d : ℕ) → straight (to X Minus) d ≡ origin ∷ at (neg_ℤ (pos d)) (pos 0) ∷ []
  pub back : (d : ℕ) → straight (to Y Plus) d ≡ origin ∷ at (pos 0) (pos d) ∷ []
  pub front : (d : ℕ) → straight (to Y Minus) d ≡ origin ∷ at (pos 0) (neg_ℤ (pos d)) ∷ []
  pub upright : (s : Sign) (d : ℕ) → straight (to Z s) d ≡ []

-- a last point that repeats the first is dropped, once; any other stays
abbrev pub RepeatedLastIsDropped : Type 0
RepeatedLastIsDropped =
    ((p : Pt) (ps : List Pt) → corners (p ∷ (ps ++ p ∷ [])) ≡ p ∷ ps)
    × ((p q : Pt) (ps : List Pt) → q ≢ p → corners (p ∷ (ps ++ q ∷ [])) ≡ p ∷ (ps ++ q ∷ []))
    × ((p : Pt) → corners (p ∷ []) ≡ p ∷ [])

-- a polyline may list 1,000 points and no more: the longest is a good trail of some width and a good boundary, and one point
-- more makes both bad
pub record LongPolylineIsBad : Type 0 where
  pub trail : (m : ModelContent) (s : Slot) (n : ℕ) → course_of m s.course ≡ course.General n → 1 ≤ profile_length_of m s.swept
      → polyline_count m n ≡ 1000 → is_bad_outline m (form.Slot s) ≡ false
  pub long_trail : (m : ModelContent) (s : Slot) (n : ℕ) → course_of m s.course ≡ course.General n
      → polyline_count m n ≡ 1001 → is_bad_outline m (form.Slot s) ≡ true
  pub polygon : (m : ModelContent) (p : Pocket) (n : ℕ) → (profile_of m p.boundary).boundary ≡ boundary.General n
      → polyline_count m n ≡ 1000 → is_bad_outline m (form.Pocket p) ≡ false
  pub long_polygon : (m : ModelContent) (p : Pocket) (n : ℕ) → (profile_of m p.boundary).boundary ≡ boundary.General n
      → polyline_count m n ≡ 1001 → is_bad_outline m (form.Pocket p) ≡ true
