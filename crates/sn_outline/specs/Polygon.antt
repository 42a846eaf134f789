-- MEANING: polygons by the even-odd rule, their border counted in (this project's own).
use Rattle.std.specs.Prelude.{◌≡◌, ◌⊎◌, ℕ, ◌%◌, Bool, ◌&&◌, ◌||◌, ℤ, pos, ◌-ℤ◌, ◌*ℤ◌, int_le, int_lt, List, [], ◌∷◌}
use Rattle.std.specs.List.{Any, count_by}
use Rattle.sn_geom.specs.declared.units.Pt.{Pt}
use Rattle.sn_geom.specs.declared.units.Seg.{Seg}
use Rattle.sn_geom.specs.Sweep.{Near}

-- The edges of a polygon lead from each corner to the next, and from the last to the first.

-- the segments of the path from p through the points
abbrev pub path : Pt → List Pt → List Seg
path p [] = []
path p (q ∷ rest) = (record { a = p; b = q }) ∷ path q rest

-- the end of that path
abbrev pub end_of : Pt → List Pt → Pt
end_of p [] = p
end_of p (q ∷ rest) = end_of q rest

-- the path once around, from the last corner on
abbrev pub edges : List Pt → List Seg
edges [] = []
edges (p ∷ rest) = path (end_of p rest) (p ∷ rest)

-- Where edges cross the ray from a point to the right, in the direction of the first axis.

-- the edge begins at the height y or below it, and ends above it
abbrev pub rises : ℤ → Seg → Bool
rises y e = int_le e.a.y y && int_lt y e.b.y

-- the edge begins above the height y, and ends at it or below it
abbrev pub falls : ℤ → Seg → Bool
falls y e = int_lt y e.a.y && int_le e.b.y y

-- an end of the edge is at the height y or below it, and the other above it
abbrev pub crosses : ℤ → Seg → Bool
crosses y e = rises y e || falls y e

-- above 0 where p lies to the left of the edge's line, seen in the edge's direction; below 0 to its right; 0 on it
abbrev pub beside : Pt → Seg → ℤ
beside p e = (e.b.x -ℤ e.a.x) *ℤ (p.y -ℤ e.a.y) -ℤ (e.b.y -ℤ e.a.y) *ℤ (p.x -ℤ e.a.x)

-- the edge crosses the height of p, and does so to the right of p
abbrev pub crosses_right : Pt → Seg → Bool
crosses_right p e = rises p.y e && int_lt (pos 0) (beside p e) || falls p.y e && int_lt (beside p e) (pos 0)

-- how often the edges cross the ray; an edge that is walked twice counts twice
abbrev pub crossings : Pt → List Seg → ℕ
crossings p es = count_by (crosses_right p) es

-- Which points are in a polygon.

abbrev pub IsOnBorder : Pt → List Seg → Type 0
IsOnBorder p es = Any (λ e. Near 0 e.a e.b p) es

-- p is on the border of the polygon, or the border crosses the ray from p an odd number of times
abbrev pub InPolygon : List Pt → Pt → Type 0
InPolygon points p = IsOnBorder p (edges points) ⊎ (crossings p (edges points) % 2 ≡ 1)
