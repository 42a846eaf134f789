-- Laws of polygons (this project's own).
use Rattle.std.specs.Prelude.{◌≡◌, ◌↔◌, ◌⊎◌, ℕ, ◌%◌, IsTrue, Bool, ◌&&◌, ◌||◌, ℤ, pos, ◌≤ℤ◌, ◌<ℤ◌, int_lt, List, [], ◌∷◌, ◌++◌, reverse}
use Rattle.std.specs.List.{count_by}
use Rattle.sn_geom.specs.declared.units.Pt.{Pt}
use Rattle.sn_geom.specs.declared.units.Seg.{Seg}
use Rattle.sn_geom.specs.Sweep.{Near, IsFraction, offset_at}
use Rattle.sn_outline.specs.Outline.{InRectangle}
use Rattle.sn_outline.specs.Polygon.{InPolygon, IsOnBorder, edges, rises, falls, crosses, crosses_right, crossings, beside}

-- after n of m equal parts the edge is at the height of p, to the right of p
pub record IsRightAt (n m : ℕ) (p : Pt) (e : Seg) : Type 0 where
  pub fraction : IsFraction n m
  pub level : offset_at n m e.a.y e.b.y p.y ≡ pos 0
  pub right : offset_at n m e.a.x e.b.x p.x <ℤ pos 0

-- an edge crosses the ray from p exactly where one of its ends is at the height of p or below it and the other above
-- it, and somewhere on it is a point at the height of p and to the right of p
abbrev pub CrossesRightSomewhere : Type 0
CrossesRightSomewhere =
    (p : Pt) (e : Seg) → IsTrue (crosses_right p e) ↔ (IsTrue (crosses p.y e) × ((n : ℕ) × (m : ℕ) × IsRightAt n m p e))

-- the border crosses each height an even number of times
abbrev pub CrossesEachHeightEvenly : Type 0
CrossesEachHeightEvenly = (points : List Pt) (y : ℤ) → count_by (crosses y) (edges points) % 2 ≡ 0

-- the edge crosses the height of p, and does so to the left of p
abbrev pub crosses_left : Pt → Seg → Bool
crosses_left p e = rises p.y e && int_lt (beside p e) (pos 0) || falls p.y e && int_lt (pos 0) (beside p e)

-- off the border the ray to the left tells the same
abbrev pub LeftRayTellsTheSame : Type 0
LeftRayTellsTheSame =
    (points : List Pt) (p : Pt) → ¬ IsOnBorder p (edges points)
    → crossings p (edges points) % 2 ≡ count_by (crosses_left p) (edges points) % 2

-- the first point does not matter
abbrev pub AnyPointIsFirst : Type 0
AnyPointIsFirst = (front back : List Pt) (p : Pt) → InPolygon (front ++ back) p ↔ InPolygon (back ++ front) p

-- nor does the direction
abbrev pub EitherDirection : Type 0
EitherDirection = (points : List Pt) (p : Pt) → InPolygon (reverse points) p ↔ InPolygon points p

-- a spike that is walked both ways adds its own points alone
abbrev pub SpikeEnclosesNothing : Type 0
SpikeEnclosesNothing =
    (front back : List Pt) (a b p : Pt)
    → InPolygon (front ++ a ∷ b ∷ a ∷ back) p ↔ (Near 0 a b p ⊎ InPolygon (front ++ a ∷ back) p)

-- the four corners of a rectangle, from the low one on
abbrev pub corners : Pt → Pt → List Pt
corners low high = low ∷ record { x = high.x; y = low.y } ∷ high ∷ record { x = low.x; y = high.y } ∷ []

-- the polygon of the four corners of a rectangle is the rectangle
abbrev pub RectangleIsItsCorners : Type 0
RectangleIsItsCorners =
    (low high p : Pt) → low.x ≤ℤ high.x → low.y ≤ℤ high.y → InPolygon (corners low high) p ↔ InRectangle low high p
