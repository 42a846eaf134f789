-- PRIVATE: rows of planes on the way to being filled (the code's own words).
use Rattle.std.specs.Prelude.{◌≡◌, Bool, true, false, not, ◌&&◌, ℤ, pos, ◌≤ℤ◌, int_le, int_lt, List, [], ◌∷◌, slice_index_or}
use Rattle.sn_geom.specs.declared.units.Seg.{Seg}
use Rattle.sn_outline.specs.Polygon.{beside, crosses_right}
use Rattle.sn_raster.specs.Grid.{Grid, Node, place}
use Rattle.sn_raster.specs.Plane.{Plane, mark_of}

abbrev pub at : ℤ → ℤ → Node
at i j = record { i = i; j = j }

-- the node is in row j, from the first column to the last
pub record IsInRun (first last j : ℤ) (n : Node) : Type 0 where
  pub row : n.j ≡ j
  pub left : first ≤ℤ n.i
  pub right : n.i ≤ℤ last

-- whether the plane has the node, for a node of the window
abbrev pub bit : Plane → Node → Bool
bit plane n = slice_index_or plane.marks (mark_of plane.grid n) false

abbrev pub differs : Bool → Bool → Bool
differs true b = not b
differs false b = b

-- whether the test holds of an odd number of edges
abbrev pub is_odd : (Seg → Bool) → List Seg → Bool
is_odd f [] = false
is_odd f (e ∷ es) = differs (f e) (is_odd f es)

-- whether column i is not past the last, and its node in row j lies to the left of the edge's line
abbrev pub is_left : Grid → ℤ → Seg → ℤ → Bool
is_left g j e i = int_le i g.i1 && int_lt (pos 0) (beside (place g.pitch (at i j)) e)

-- whether column i is not past the last, and the edge crosses the ray from its node in row j
abbrev pub is_crossed : Grid → ℤ → Seg → ℤ → Bool
is_crossed g j e i = int_le i g.i1 && crosses_right (place g.pitch (at i j)) e
