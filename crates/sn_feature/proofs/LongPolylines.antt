-- Polylines of as many points as may be, and of one more.
use Rattle.std.proofs.Common.{◌≡◌, ◌≤◌, ◌-◌, ℕ, Bool, true, false, ◌||◌, List, length, take, map, refl, sym, ap, ◌∙◌, if◌then◌else◌, arith}
use Rattle.std.specs.Prelude.{nat_lt, ◌==◌}
use Rattle.std.proofs.lemmas.Bool.Decides.{nat_tests}
use Rattle.std.proofs.lemmas.List.{length-map, length-take-le}
use Rattle.sn_geom.specs.declared.units.Pt.{Pt}
use Rattle.sn_model.specs.ModelContent.{ModelContent}
use Rattle.sn_outline.specs.declared.limits.TheConstants.{MOST_POINTS}
use Rattle.sn_feature.specs.declared.entities.Boundary.{Boundary}
use Rattle.sn_feature.specs.declared.entities.Boundary.TheVariants as boundary
use Rattle.sn_feature.specs.declared.entities.Course.{Course}
use Rattle.sn_feature.specs.declared.entities.Course.TheVariants as course
use Rattle.sn_feature.specs.declared.entities.Form.TheVariants as form
use Rattle.sn_feature.specs.declared.entities.Pocket.{Pocket}
use Rattle.sn_feature.specs.declared.entities.Slot.{Slot}
use Rattle.sn_feature.specs.Entities.{listed, course_of, profile_of, profile_length_of}
use Rattle.sn_feature.specs.Outline.{plane_point, polyline, is_closed, corners, polyline_count, is_long, is_bad_course, is_bad_boundary, is_bad_outline}
use Rattle.sn_feature.specs.OutlineLaws.{LongPolylineIsBad}

or_true : (a b : Bool) → b ≡ true → (a || b) ≡ true
or_true true b h = refl
or_true false b h = h

or_false : (a b : Bool) → a ≡ false → b ≡ false → (a || b) ≡ false
or_false true b g h = absurd cc
or_false false b g h = h

some_width : (n : ℕ) → 1 ≤ n → (n == 0) ≡ false
some_width n h = grind (arith, nat_tests)

module _ (m : ModelContent) (n : ℕ) where
  long : polyline_count m n ≡ 1001 → is_long m n ≡ true
  unfolding is_long
  long count = ap (nat_lt MOST_POINTS) count

  not_long : polyline_count m n ≡ 1000 → is_long m n ≡ false
  unfolding is_long
  not_long count = ap (nat_lt MOST_POINTS) count

  listed_points : length (polyline m n) ≡ polyline_count m n
  unfolding polyline polyline_count
  listed_points = length-map (listed m n 0) (plane_point m)

enough_by : (ps : List Pt) (b : Bool) → 4 ≤ length ps → 3 ≤ length (if b then take (length ps - 1) ps else ps)
enough_by ps true h = let taken : length (take (length ps - 1) ps) ≡ length ps - 1 = length-take-le (length ps - 1) ps (omega arith) in omega arith
enough_by ps false h = omega arith

not_few : (n : ℕ) → 3 ≤ n → nat_lt n 3 ≡ false
not_few n h = grind (arith, nat_tests)

enough : (ps : List Pt) → 4 ≤ length ps → nat_lt (length (corners ps)) 3 ≡ false
unfolding corners
enough ps h = not_few (length (if is_closed ps then take (length ps - 1) ps else ps)) (enough_by ps (is_closed ps) h)

module _ (m : ModelContent) (s : Slot) (n : ℕ) (is : course_of m s.course ≡ course.General n) where
  trail_by : is_bad_outline m (form.Slot s) ≡ (profile_length_of m s.swept == 0 || (nat_lt (polyline_count m n) 2 || is_long m n))
  unfolding is_bad_outline
  trail_by = ap (λ (c : Course). profile_length_of m s.swept == 0 || is_bad_course m c) is

  good_trail : 1 ≤ profile_length_of m s.swept → polyline_count m n ≡ 1000 → is_bad_outline m (form.Slot s) ≡ false
  good_trail wide count =
      trail_by
      ∙ or_false (profile_length_of m s.swept == 0) (nat_lt (polyline_count m n) 2 || is_long m n) (some_width (profile_length_of m s.swept) wide)
      (or_false (nat_lt (polyline_count m n) 2) (is_long m n) (ap (λ (k : ℕ). nat_lt k 2) count) (not_long m n count))

  bad_trail : polyline_count m n ≡ 1001 → is_bad_outline m (form.Slot s) ≡ true
  bad_trail count =
      trail_by
      ∙ or_true (profile_length_of m s.swept == 0) (nat_lt (polyline_count m n) 2 || is_long m n)
      (or_true (nat_lt (polyline_count m n) 2) (is_long m n) (long m n count))

module _ (m : ModelContent) (p : Pocket) (n : ℕ) (is : (profile_of m p.boundary).boundary ≡ boundary.General n) where
  boundary_by : is_bad_outline m (form.Pocket p) ≡ (nat_lt (length (corners (polyline m n))) 3 || is_long m n)
  unfolding is_bad_outline
  boundary_by = ap (is_bad_boundary m) is

  good_polygon : polyline_count m n ≡ 1000 → is_bad_outline m (form.Pocket p) ≡ false
  good_polygon count =
      let many : 4 ≤ length (polyline m n) = let all = listed_points m n ∙ count in omega arith in
      boundary_by ∙ or_false (nat_lt (length (corners (polyline m n))) 3) (is_long m n) (enough (polyline m n) many) (not_long m n count)

  bad_polygon : polyline_count m n ≡ 1001 → is_bad_outline m (form.Pocket p) ≡ true
  bad_polygon count = boundary_by ∙ or_true (nat_lt (length (corners (polyline m n))) 3) (is_long m n) (long m n count)

pub long_polyline_is_bad : LongPolylineIsBad
long_polyline_is_bad = record { trail = good_trail; long_trail = bad_trail; polygon = good_polygon; long_polygon = bad_polygon }
