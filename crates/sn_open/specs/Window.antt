-- The window of a grid by columns and rows, counted from its first (the code's own words, of contracts too).
use Rattle.std.specs.Prelude.{ℕ, ◌↔◌, pos, ◌+ℤ◌, Bool, IsTrue}
use Rattle.sn_raster.specs.Grid.{Grid, Node, IsInWindow, places}
use Rattle.sn_raster.specs.Plane.{Plane, Has}

-- how many columns and rows the window has
abbrev pub columns : Grid → ℕ
columns g = places g.i0 g.i1

abbrev pub rows : Grid → ℕ
rows g = places g.j0 g.j1

-- the node in a column and a row of the window
abbrev pub node_at : Grid → ℕ → ℕ → Node
node_at g column row = record { i = g.i0 +ℤ pos column; j = g.j0 +ℤ pos row }

-- a node of the window that the plane has where on is true, and lacks where it is false
pub record IsMarked (plane : Plane) (on : Bool) (n : Node) : Type 0 where
  pub window : IsInWindow plane.grid n
  pub value : Has plane n ↔ IsTrue on
