-- MEANING (after axis2_placement_3d and plane of ISO 10303-42): placements of a model.
use Rattle.std.specs.Prelude.{ℕ, ℤ, pos, Option, Some, None, Result, Ok, Err, if◌then◌else◌}
use Rattle.sn_geom.specs.declared.units.Pt3.{Pt3}
use Rattle.sn_model.specs.ModelContent.{ModelContent}
use Rattle.sn_frame.specs.declared.frame.FrameFault.{FrameFault}
use Rattle.sn_frame.specs.declared.frame.FrameFault.TheVariants.{Skew, OutOfRange}
use Rattle.sn_frame.specs.Matrix.{Vector}
use Rattle.sn_frame.specs.Frame.{Transform, composed, is_in_range, is_skew, is_upright, placed}
use Rattle.sn_feature.specs.Entities.{named, named_if, triple}
use Rattle.sn_feature.specs.Refusal.{◌>>=◌}

-- the coordinates of a point, in tenths of a micrometre
unfoldable pub point_of : ModelContent → ℕ → Pt3
point_of m n = let t = triple m n 0 in record { x = t.x; y = t.y; z = t.z }

-- the ratios of a direction, in thousandths
unfoldable pub ratios : ModelContent → ℕ → Vector
ratios m n = let t = triple m n 0 in record { x = t.x; y = t.y; z = t.z }

unfoldable pub ratios_or : ModelContent → Vector → Option ℕ → Vector
ratios_or m v None = v
ratios_or m v (Some n) = ratios m n

unfoldable pub location : ModelContent → ℕ → Pt3
location m n = point_of m (named m n 0)

-- +Z where the placement gives no axis
unfoldable pub axis_of : ModelContent → ℕ → Vector
axis_of m n = ratios_or m (record { x = pos 0; y = pos 0; z = pos 1 }) (named_if m n 1)

-- +X where it gives no reference direction
unfoldable pub reference_of : ModelContent → ℕ → Vector
reference_of m n = ratios_or m (record { x = pos 1; y = pos 0; z = pos 0 }) (named_if m n 2)

-- the frame of a placement, unless it is skew
unfoldable pub placement_of : ModelContent → ℕ → Result Transform FrameFault
placement_of m n =
    if is_skew (axis_of m n) (reference_of m n) then Err (Skew n) else Ok (placed (location m n) (axis_of m n) (reference_of m n))

-- the placement's frame, followed by the outer one
unfoldable pub composed_at : Transform → ℕ → Transform → Result Transform FrameFault
composed_at outer n inner = let both = composed outer inner in if is_in_range both.shift then Ok both else Err (OutOfRange n)

-- the frame, if it maps +Z to +Z
unfoldable pub upright_at : ℕ → Transform → Result Transform FrameFault
upright_at n frame = if is_upright frame then Ok frame else Err (Skew n)

-- The frame of a placement that stands in an outer frame. First the placement may be skew, then the composed frame may
-- leave the range, and then it may turn +Z elsewhere.
unfoldable pub upright_frame : ModelContent → Transform → ℕ → Result Transform FrameFault
upright_frame m outer n = do
  inner ← placement_of m n
  frame ← composed_at outer n inner
  upright_at n frame

-- the height of the location of a plane, in the frame that its placement stands in; its directions are not read
unfoldable pub plane_height : ModelContent → ℕ → ℤ
plane_height m n = (location m (named m n 0)).z
