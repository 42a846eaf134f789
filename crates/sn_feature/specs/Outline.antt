-- MEANING (this project's own, after the features, paths and profiles of ISO 14649-10): outlines of features.
use Rattle.std.specs.Prelude.{ℕ, ◌-◌, ◌/◌, ◌==◌, nat_lt, Bool, true, false, ◌&&◌, ◌||◌, ℤ, pos, neg_ℤ, ◌*ℤ◌, List, [], ◌∷◌, length, map, take, slice_index_or, Option, Some, None, Result, Ok, Err, if◌then◌else◌}
use Rattle.std.specs.Int.{int_min, int_max}
use Rattle.std.specs.List.{list_all}
use Rattle.std.specs.Ordering.{int_eq}
use Rattle.sn_geom.specs.declared.units.Pt.{Pt}
use Rattle.sn_geom.specs.declared.units.Pt3.{Pt3}
use Rattle.sn_model.specs.ModelContent.{ModelContent}
use Rattle.sn_frame.specs.declared.direction.Axis.TheVariants as axis
use Rattle.sn_frame.specs.declared.direction.Direction.{Direction}
use Rattle.sn_frame.specs.declared.frame.FrameFault.{FrameFault}
use Rattle.sn_frame.specs.declared.frame.FrameFault.TheVariants.{Skew, OutOfRange}
use Rattle.sn_frame.specs.Direction.{direction_of, sign_value}
use Rattle.sn_frame.specs.Frame.{Transform, applied, is_in_range, is_axis}
use Rattle.sn_outline.specs.declared.limits.TheConstants.{MOST_POINTS}
use Rattle.sn_outline.specs.declared.outline.Shape.{Shape}
use Rattle.sn_outline.specs.declared.outline.Shape.TheVariants as shape
use Rattle.sn_feature.specs.declared.entities.Boundary.{Boundary}
use Rattle.sn_feature.specs.declared.entities.Boundary.TheVariants as boundary
use Rattle.sn_feature.specs.declared.entities.Course.{Course}
use Rattle.sn_feature.specs.declared.entities.Course.TheVariants as course
use Rattle.sn_feature.specs.declared.entities.LinearCourse.{LinearCourse}
use Rattle.sn_feature.specs.declared.entities.Form.{Form}
use Rattle.sn_feature.specs.declared.entities.Form.TheVariants.{Face, Pocket, Slot, Hole}
use Rattle.sn_feature.specs.declared.site.Site.{Site}
use Rattle.sn_feature.specs.declared.sketch.Sketch.{Sketch}
use Rattle.sn_feature.specs.declared.sketch.Sketch.TheVariants.{Rectangle, Circle, Polygon, Trail}
use Rattle.sn_feature.specs.Entities.{listed, length_of, profile_length_of, course_of, linear_course_of, profile_of}
use Rattle.sn_feature.specs.Placement.{point_of, ratios, upright_frame}
use Rattle.sn_feature.specs.Refusal.{◌>>=◌}

-- Outlines where they are drawn: in the frame of their profile, or else in that of their feature.

abbrev pub at : ℤ → ℤ → Pt
at x y = record { x = x; y = y }

abbrev pub origin : Pt
origin = at (pos 0) (pos 0)

-- a point of a polyline; its Z is not read
unfoldable pub plane_point : ModelContent → ℕ → Pt
plane_point m n = let p = point_of m n in at p.x p.y

unfoldable pub polyline : ModelContent → ℕ → List Pt
polyline m n = map (plane_point m) (listed m n 0)

abbrev pub is_same : Pt → Pt → Bool
is_same p q = int_eq p.x q.x && int_eq p.y q.y

-- the last point, which is not the only one, is the first one again
unfoldable pub is_closed : List Pt → Bool
is_closed ps = nat_lt 1 (length ps) && is_same (slice_index_or ps 0 origin) (slice_index_or ps (length ps - 1) origin)

-- the corners of a polygon: a last point that repeats the first is dropped, once
unfoldable pub corners : List Pt → List Pt
corners ps = if is_closed ps then take (length ps - 1) ps else ps

-- A rectangle about the origin. Before the origin lies half of each side, rounded down, so a width of 5 runs from -2 to 3.
unfoldable pub centred : ℕ → ℕ → Sketch
centred width length =
    Rectangle (at (neg_ℤ (pos (width / 2))) (neg_ℤ (pos (length / 2)))) (at (pos (width - width / 2)) (pos (length - length / 2)))

-- how far a path goes in this direction, along its axis
unfoldable pub reach : Direction → ℕ → ℤ
reach d distance = sign_value d.sign *ℤ pos distance

-- A face begins at the origin. One side runs along the path for its distance; the other has the profile's length, and runs
-- to +Y beside a path along X and to +X beside a path along Y. A path along Z leaves no corners.
unfoldable pub face_sketch : Direction → ℕ → ℕ → Sketch
face_sketch d distance profile = elim d.along [
  | axis.X ↦ Rectangle origin (at (reach d distance) (pos profile))
  | axis.Y ↦ Rectangle origin (at (pos profile) (reach d distance))
  | axis.Z ↦ Polygon []
]

-- a path from the origin; one along Z leaves no points
unfoldable pub straight : Direction → ℕ → List Pt
straight d distance = elim d.along [
  | axis.X ↦ origin ∷ at (reach d distance) (pos 0) ∷ []
  | axis.Y ↦ origin ∷ at (pos 0) (reach d distance) ∷ []
  | axis.Z ↦ []
]

-- the direction of a DIRECTION that is an axis
unfoldable pub heading : ModelContent → ℕ → Direction
heading m n = direction_of (ratios m n)

abbrev pub trail : ModelContent → Course → List Pt
trail m (course.Linear c) = straight (heading m c.direction) (length_of m c.distance)
trail m (course.General n) = polyline m n

abbrev pub profile_sketch : ModelContent → Boundary → Sketch
profile_sketch m (boundary.General n) = Polygon (corners (polyline m n))
profile_sketch m (boundary.Rectangular r) = centred (length_of m r.width) (length_of m r.length)
profile_sketch m (boundary.Circular n) = Circle (length_of m n)

abbrev pub face_along : ModelContent → LinearCourse → ℕ → Sketch
face_along m c profile = face_sketch (heading m c.direction) (length_of m c.distance) profile

unfoldable pub sketch_of : ModelContent → Form → Sketch
sketch_of m (Face f) = face_along m (linear_course_of m f.course) (profile_length_of m f.boundary)
sketch_of m (Pocket p) = profile_sketch m (profile_of m p.boundary).boundary
sketch_of m (Slot s) = Trail (trail m (course_of m s.course)) (profile_length_of m s.swept)
sketch_of m (Hole h) = Circle (length_of m h.diameter)

-- Bad outlines.

abbrev pub is_upward : Direction → Bool
is_upward d = elim d.along [ axis.X ↦ false | axis.Y ↦ false | axis.Z ↦ true ]

-- a path without a distance, or along Z
unfoldable pub is_bad_line : ModelContent → LinearCourse → Bool
is_bad_line m c = length_of m c.distance == 0 || is_upward (heading m c.direction)

-- how many points a polyline lists
unfoldable pub polyline_count : ModelContent → ℕ → ℕ
polyline_count m n = length (listed m n 0)

-- a polyline with too many points
unfoldable pub is_long : ModelContent → ℕ → Bool
is_long m n = nat_lt MOST_POINTS (polyline_count m n)

abbrev pub is_bad_course : ModelContent → Course → Bool
is_bad_course m (course.Linear c) = is_bad_line m c
is_bad_course m (course.General n) = nat_lt (polyline_count m n) 2 || is_long m n

abbrev pub is_bad_boundary : ModelContent → Boundary → Bool
is_bad_boundary m (boundary.General n) = nat_lt (length (corners (polyline m n))) 3 || is_long m n
is_bad_boundary m (boundary.Rectangular r) = length_of m r.width == 0 || length_of m r.length == 0
is_bad_boundary m (boundary.Circular n) = length_of m n == 0

-- A size of the outline is 0, its path is along Z, or it has too few points: fewer than two of a trail, or than three
-- corners of a polygon. A polyline may also list too many.
unfoldable pub is_bad_outline : ModelContent → Form → Bool
is_bad_outline m (Face f) = profile_length_of m f.boundary == 0 || is_bad_line m (linear_course_of m f.course)
is_bad_outline m (Pocket p) = is_bad_boundary m (profile_of m p.boundary).boundary
is_bad_outline m (Slot s) = profile_length_of m s.swept == 0 || is_bad_course m (course_of m s.course)
is_bad_outline m (Hole h) = length_of m h.diameter == 0

-- Outlines in the setup.

-- the point of the plane Z = 0
abbrev pub flat : Pt → Pt3
flat p = record { x = p.x; y = p.y; z = pos 0 }

-- where a frame puts a point of that plane, seen from above
unfoldable pub put : Transform → Pt → Pt
put f p = let q = applied f (flat p) in at q.x q.y

-- that place is in the range of coordinates
unfoldable pub lands_in_range : Transform → Pt → Bool
lands_in_range f p = is_in_range (applied f (flat p))

-- the place, unless it leaves the range
unfoldable pub put_at : Site → Pt → Result Pt FrameFault
put_at s p = if lands_in_range s.frame p then Ok (put s.frame p) else Err (OutOfRange s.placement)

-- the places, unless one of them leaves the range
unfoldable pub points_at : Site → List Pt → Result (List Pt) FrameFault
points_at s ps = if list_all (lands_in_range s.frame) ps then Ok (map (put s.frame) ps) else Err (OutOfRange s.placement)

-- the corners, the centre or the points of the outline
abbrev pub outline_points : Sketch → List Pt
outline_points (Rectangle a b) = a ∷ at b.x a.y ∷ b ∷ at a.x b.y ∷ []
outline_points (Circle d) = origin ∷ []
outline_points (Polygon ps) = ps
outline_points (Trail ps width) = ps

-- the rectangle with these opposite corners
unfoldable pub between : Pt → Pt → Shape
between a b = shape.Rect (at (int_min a.x b.x) (int_min a.y b.y)) (at (int_max a.x b.x) (int_max a.y b.y))

abbrev pub placed_shape : Transform → Sketch → Shape
placed_shape f (Rectangle a b) = between (put f a) (put f b)
placed_shape f (Circle d) = shape.Circle (put f origin) d
placed_shape f (Polygon ps) = shape.Polygon (map (put f) ps)
placed_shape f (Trail ps width) = shape.Trail (map (put f) ps) width

-- the outline of a sketch at a site, unless one of its points leaves the range
unfoldable pub shape_at : Site → Sketch → Result Shape FrameFault
shape_at s sketch =
    if list_all (lands_in_range s.frame) (outline_points sketch) then Ok (placed_shape s.frame sketch) else Err (OutOfRange s.placement)

abbrev pub direction_if : Course → Option ℕ
direction_if (course.Linear c) = Some c.direction
direction_if (course.General n) = None

-- the direction of the feature's path, if it has one
unfoldable pub path_direction : ModelContent → Form → Option ℕ
path_direction m (Face f) = Some (linear_course_of m f.course).direction
path_direction m (Pocket p) = None
path_direction m (Slot s) = direction_if (course_of m s.course)
path_direction m (Hole h) = None

-- refused where the path's direction is no axis
unfoldable pub straight_path : ModelContent → Form → Result (Unit {0}) FrameFault
straight_path m form = elim (path_direction m form) [
  | None ↦ Ok tt
  | Some n ↦ (if is_axis (ratios m n) then Ok tt else Err (Skew n))
]

-- the placement of a pocket's profile, if it has one
unfoldable pub profile_placement : ModelContent → Form → Option ℕ
profile_placement m (Face f) = None
profile_placement m (Pocket p) = (profile_of m p.boundary).placement
profile_placement m (Slot s) = None
profile_placement m (Hole h) = None

abbrev pub site_of : Transform → ℕ → Site
site_of f n = record { frame = f; placement = n }

-- where the sketch stands: at the placement of its profile within the feature's frame, or in that frame itself
unfoldable pub outline_site : ModelContent → Site → Form → Result Site FrameFault
outline_site m feature form = elim (profile_placement m form) [
  | None ↦ Ok feature
  | Some n ↦ (upright_frame m feature.frame n >>= λ f. Ok (site_of f n))
]
