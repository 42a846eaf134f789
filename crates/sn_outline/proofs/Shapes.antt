-- Rectangles, circles and trails.
use Rattle.std.proofs.Common.{inl, inr, ℕ, [], ◌∷◌, arith}
use Rattle.sn_geom.specs.declared.units.Pt.{Pt}
use Rattle.sn_geom.proofs.Ring.{sums}
use Rattle.sn_geom.proofs.Nearness.{near_one_place}
use Rattle.sn_outline.specs.Outline.{NearTrail}
use Rattle.sn_outline.specs.OutlineLaws.{RectangleHasItsBorder, TrailIsItsSegments, CircleIsItsTrail}
use Rattle.sn_outline.specs.Polygon.{path}
use Rattle.sn_outline.proofs.Paths.{IsNear, any_here, any_there, any_cases, any_none, near_segments, near_of_segments}

pub rectangle_has_its_border : RectangleHasItsBorder
rectangle_has_its_border low high x y left right front back = (
  record { left = omega (arith, sums); right = omega (arith, sums); front = front; back = back },
  record { left = omega (arith, sums); right = omega (arith, sums); front = front; back = back },
  record { left = left; right = right; front = omega (arith, sums); back = omega (arith, sums) },
  record { left = left; right = right; front = omega (arith, sums); back = omega (arith, sums) },
  λ h. let beyond = h.left in omega (arith, sums),
  λ h. let beyond = h.right in omega (arith, sums),
  λ h. let beyond = h.front in omega (arith, sums),
  λ h. let beyond = h.back in omega (arith, sums),
)

no_segment : (width : ℕ) (a p : Pt) → ¬ NearTrail (a ∷ []) width p
no_segment width a p near = any_none (IsNear width p) (near_segments (a ∷ []) width p near)

pub trail_is_its_segments : TrailIsItsSegments
trail_is_its_segments width a b p more = (
  (
    λ near. elim (any_cases (IsNear width p) (record { a = a; b = b }) (path b more) (near_segments (a ∷ b ∷ more) width p near)) [
      | inl here ↦ inl here
      | inr later ↦ inr (near_of_segments (b ∷ more) width p later)
    ],
    λ either. near_of_segments (a ∷ b ∷ more) width p (elim either [
      | inl here ↦ any_here (IsNear width p) (record { a = a; b = b }) (path b more) here
      | inr later ↦ any_there (IsNear width p) (record { a = a; b = b }) (path b more) (near_segments (b ∷ more) width p later)
    ]),
  ),
  no_segment width a p,
)

pub circle_is_its_trail : CircleIsItsTrail
circle_is_its_trail centre p d =
    let trail = (trail_is_its_segments d centre centre p []).0 in (
      λ inside. trail.1 (inl ((near_one_place d centre p).1 inside)),
      λ near. elim (trail.0 near) [ inl here ↦ (near_one_place d centre p).0 here | inr later ↦ absurd (no_segment d centre p later) ],
    )
