-- MEANING: planes, sets of nodes of the window of a grid (this project's own).
use Rattle.std.specs.Prelude.{◌≡◌, ◌+◌, ◌*◌, ℕ, IsTrue, Bool, false, ◌-ℤ◌, unsigned_abs, List, length, slice_index_or}
use Rattle.sn_raster.specs.Grid.{Grid, Node, IsGrid, IsInWindow, places}

-- A plane over a grid, by its marks. How marks are kept is the plane's own: contracts say which nodes it has.
pub record Plane : Type 0 where
  pub grid : Grid
  pub marks : List Bool

-- the mark of a node of the window: row by row, and in a row column by column
abbrev pub mark_of : Grid → Node → ℕ
mark_of g n = unsigned_abs (n.j -ℤ g.j0) * places g.i0 g.i1 + unsigned_abs (n.i -ℤ g.i0)

-- the plane has the node
pub record Has (plane : Plane) (n : Node) : Type 0 where
  pub in_window : IsInWindow plane.grid n
  pub marked : IsTrue (slice_index_or plane.marks (mark_of plane.grid n) false)

-- the rule that each plane keeps: a mark for each node of the window
pub record IsPlane (plane : Plane) : Type 0 where
  pub grid : IsGrid plane.grid
  pub full : length plane.marks ≡ places plane.grid.i0 plane.grid.i1 * places plane.grid.j0 plane.grid.j1

-- no node is in the plane
abbrev pub IsEmpty : Plane → Type 0
IsEmpty plane = (n : Node) → ¬ Has plane n
