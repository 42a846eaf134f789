-- MEANING (this project's own, after the operations and tools of ISO 14649-11): bodies of tools, ways of cutting, and tools
-- that are wrong or too short.
use Rattle.std.specs.Prelude.{ℕ, ◌+◌, ◌*◌, ◌/◌, ◌==◌, nat_lt, min, max, Bool, true, false, ◌||◌, not, ℤ, pos, ◌-ℤ◌, int_lt, Option, Some, None, unwrap_or, if◌then◌else◌}
use Rattle.sn_geom.specs.declared.limits.TheConstants.{NO_DEPTH}
use Rattle.sn_geom.specs.declared.units.Body.{Body}
use Rattle.sn_model.specs.ModelContent.{ModelContent, row_of_number}
use Rattle.sn_outline.specs.declared.job.Bottom.{Bottom}
use Rattle.sn_outline.specs.declared.job.Bottom.TheVariants.{Flat}
use Rattle.sn_outline.specs.declared.job.Way.{Way}
use Rattle.sn_outline.specs.declared.job.Way.TheVariants as way
use Rattle.sn_feature.specs.declared.entities.Cutter.{Cutter}
use Rattle.sn_feature.specs.declared.entities.Cutter.TheVariants.{Endmill, TwistDrill}
use Rattle.sn_feature.specs.declared.entities.Cutting.{Cutting}
use Rattle.sn_feature.specs.declared.entities.Cutting.TheVariants.{Plane, BottomAndSide, Drilling}
use Rattle.sn_feature.specs.declared.entities.Form.{Form}
use Rattle.sn_feature.specs.declared.entities.Form.TheVariants.{Face, Pocket, Slot, Hole}
use Rattle.sn_feature.specs.declared.entities.Operation.{Operation}
use Rattle.sn_feature.specs.declared.entities.Tool.{Tool}
use Rattle.sn_feature.specs.Entities.{length_of, profile_length_of, bottom_from}

-- Features.

unfoldable pub bottom_of : ModelContent → Form → Bottom
bottom_of m (Pocket p) = bottom_from (row_of_number p.bottom m)
bottom_of m (Hole h) = bottom_from (row_of_number h.bottom m)
bottom_of m _ = Flat

unfoldable pub radius_of : ModelContent → Option ℕ → ℕ
radius_of m None = 0
radius_of m (Some n) = length_of m n

-- a radius of 0 counts as none given
abbrev pub twice_if : ℕ → Option ℕ
twice_if radius = if radius == 0 then None else Some (2 * radius)

-- The corner diameter that the feature gives: that of the greater radius of a pocket, and 0 of slots and holes. Where a
-- pocket gives none, and of each face, it is left to the tools of the job.
unfoldable pub corner_of : ModelContent → Form → Option ℕ
corner_of m (Face f) = None
corner_of m (Pocket p) = twice_if (max (radius_of m p.planar_radius) (radius_of m p.orthogonal_radius))
corner_of m (Slot s) = Some 0
corner_of m (Hole h) = Some 0

-- Tools.

-- how long the point of a tool is: of a drill half its diameter, rounded up, and of an endmill its edge radius
unfoldable pub point_length : Tool → ℕ
point_length t = elim t.cutter [ Endmill ↦ t.edge | TwistDrill ↦ (t.diameter + 1) / 2 ]

unfoldable pub body_of : Tool → Body
body_of t = record { d = t.diameter; e = point_length t }

-- Operations.

unfoldable pub axial_depth : Operation → ℕ
axial_depth o = unwrap_or o.axial NO_DEPTH

-- half the tool's diameter, rounded down, where it is not given; never more than the diameter
unfoldable pub radial_depth : Operation → ℕ → ℕ
radial_depth o d = min (unwrap_or o.radial (d / 2)) d

-- a hole of this diameter
unfoldable pub is_hole_of : ModelContent → ℕ → Form → Bool
is_hole_of m d (Hole h) = d == length_of m h.diameter
is_hole_of m d _ = false

-- a slot of this width
unfoldable pub is_slot_of : ModelContent → ℕ → Form → Bool
is_slot_of m w (Slot s) = w == profile_length_of m s.swept
is_slot_of m w _ = false

abbrev pub is_drilling : Cutting → Bool
is_drilling Drilling = true
is_drilling _ = false

-- A hole is drilled by a tool that is as wide as the hole without its side allowances, and such a tool goes along the trail
-- of a slot. All else is cleared.
unfoldable pub way_of : ModelContent → Form → Operation → ℕ → Way
way_of m form o d =
    let w = d + 2 * o.side in
    if is_drilling o.cutting || is_hole_of m w form then way.Drill
    else (if is_slot_of m w form then way.Trail else way.Clear)

-- Refusals.

abbrev pub is_face : Form → Bool
is_face (Face f) = true
is_face _ = false

abbrev pub is_hole : Form → Bool
is_hole (Hole h) = true
is_hole _ = false

-- a plane is milled on faces alone, bottom and sides on all but faces, and holes alone are drilled
abbrev pub is_for : Cutting → Form → Bool
is_for Plane form = is_face form
is_for BottomAndSide form = not (is_face form)
is_for Drilling form = is_hole form

-- a drill does not mill
abbrev pub can_cut : Cutter → Cutting → Bool
can_cut TwistDrill cutting = is_drilling cutting
can_cut Endmill cutting = true

-- the operation does not stand on such a feature, a drill is to mill, or the edge radius is above half the diameter
unfoldable pub is_wrong_tool : Form → Operation → Tool → Bool
is_wrong_tool form o t = not (is_for o.cutting form) || not (can_cut t.cutter o.cutting) || nat_lt t.diameter (2 * t.edge)

-- the overall length, if it is given, does not reach from the raw top down to the lowest tip
unfoldable pub is_short_tool : Option ℕ → ℤ → ℤ → Bool
is_short_tool None raw_top tip = false
is_short_tool (Some length) raw_top tip = int_lt (pos length) (raw_top -ℤ tip)
