-- Laws of outlines (this project's own).
use Rattle.std.specs.Prelude.{◌↔◌, ◌⊎◌, ℕ, ℤ, pos, ◌+ℤ◌, ◌-ℤ◌, ◌≤ℤ◌, List, [], ◌∷◌, map}
use Rattle.sn_geom.specs.declared.units.Pt.{Pt}
use Rattle.sn_geom.specs.Sweep.{Near}
use Rattle.sn_outline.specs.declared.outline.Shape.{Shape}
use Rattle.sn_outline.specs.declared.outline.Shape.TheVariants.{Rect, Circle, Polygon, Trail}
use Rattle.sn_outline.specs.declared.outline.Outline.{Outline}
use Rattle.sn_outline.specs.Outline.{InShape, InOutline}

abbrev pub at : ℤ → ℤ → Pt
at x y = record { x = x; y = y }

-- the border of a rectangle is in it, and what is one unit beyond is not
abbrev pub RectangleHasItsBorder : Type 0
RectangleHasItsBorder =
    (low high : Pt) (x y : ℤ) → low.x ≤ℤ x → x ≤ℤ high.x → low.y ≤ℤ y → y ≤ℤ high.y
    → InShape (Rect low high) (at low.x y) × InShape (Rect low high) (at high.x y)
    × InShape (Rect low high) (at x low.y) × InShape (Rect low high) (at x high.y)
    × (¬ InShape (Rect low high) (at (low.x -ℤ pos 1) y)) × (¬ InShape (Rect low high) (at (high.x +ℤ pos 1) y))
    × (¬ InShape (Rect low high) (at x (low.y -ℤ pos 1))) × (¬ InShape (Rect low high) (at x (high.y +ℤ pos 1)))

-- a trail is its first segment and the trail of its later points, and a trail of one point is empty
abbrev pub TrailIsItsSegments : Type 0
TrailIsItsSegments =
    (width : ℕ) (a b p : Pt) (more : List Pt)
    → (InShape (Trail (a ∷ b ∷ more) width) p ↔ (Near width a b p ⊎ InShape (Trail (b ∷ more) width) p))
    × (¬ InShape (Trail (a ∷ []) width) p)

-- a circle is the trail that stays at its centre
abbrev pub CircleIsItsTrail : Type 0
CircleIsItsTrail =
    (centre p : Pt) (d : ℕ) → InShape (Circle centre d) p ↔ InShape (Trail (centre ∷ centre ∷ []) d) p

-- the place that is moved by v
abbrev pub moved : Pt → Pt → Pt
moved v p = record { x = p.x +ℤ v.x; y = p.y +ℤ v.y }

abbrev pub moved_shape : Pt → Shape → Shape
moved_shape v (Rect low high) = Rect (moved v low) (moved v high)
moved_shape v (Circle centre d) = Circle (moved v centre) d
moved_shape v (Polygon points) = Polygon (map (moved v) points)
moved_shape v (Trail points width) = Trail (map (moved v) points) width

abbrev pub moved_outline : Pt → Outline → Outline
moved_outline v outline = record { shape = moved_shape v outline.shape; islands = map (moved_shape v) outline.islands }

-- moving an outline and a point together changes nothing
abbrev pub MovingTogetherChangesNothing : Type 0
MovingTogetherChangesNothing =
    (outline : Outline) (v p : Pt) → InOutline (moved_outline v outline) (moved v p) ↔ InOutline outline p
