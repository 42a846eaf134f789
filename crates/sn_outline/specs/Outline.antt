-- MEANING: outlines, closed sets of points in the plane (this project's own; the shapes are after ISO 14649-10).
use Rattle.std.specs.Prelude.{◌≡◌, ℕ, ◌≤◌, ◌≤ℤ◌, List, ◌∷◌, ◌++◌}
use Rattle.sn_geom.specs.declared.units.Pt.{Pt}
use Rattle.sn_geom.specs.declared.limits.TheConstants.{REACH}
use Rattle.sn_geom.specs.Sweep.{Disc, Near}
use Rattle.sn_outline.specs.declared.outline.Shape.{Shape}
use Rattle.sn_outline.specs.declared.outline.Shape.TheVariants.{Rect, Circle, Polygon, Trail}
use Rattle.sn_outline.specs.declared.outline.Outline.{Outline}
use Rattle.sn_outline.specs.Polygon.{InPolygon}

-- p is in the rectangle, its border counted in
pub record InRectangle (low high p : Pt) : Type 0 where
  pub left : low.x ≤ℤ p.x
  pub right : p.x ≤ℤ high.x
  pub front : low.y ≤ℤ p.y
  pub back : p.y ≤ℤ high.y

-- p is within half the width of a segment of the trail
abbrev pub NearTrail : List Pt → ℕ → Pt → Type 0
NearTrail points width p = (before : List Pt) × (a : Pt) × (b : Pt) × (after : List Pt) × (points ≡ before ++ a ∷ b ∷ after) × Near width a b p

-- p is in the shape
abbrev pub InShape : Shape → Pt → Type 0
InShape (Rect low high) p = InRectangle low high p
InShape (Circle centre d) p = Disc d centre p
InShape (Polygon points) p = InPolygon points p
InShape (Trail points width) p = NearTrail points width p

-- p is in the outline: no outline has islands yet
abbrev pub InOutline : Outline → Pt → Type 0
InOutline outline p = InShape outline.shape p

-- a trail's width is one that nearness is tested for
abbrev pub HasNearWidth : Shape → Type 0
HasNearWidth (Rect low high) = Unit {0}
HasNearWidth (Circle centre d) = Unit {0}
HasNearWidth (Polygon points) = Unit {0}
HasNearWidth (Trail points width) = width ≤ REACH
