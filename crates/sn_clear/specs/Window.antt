-- MEANING: the window of a grid by columns and rows, counted from its first.
use Rattle.std.specs.Prelude.{◌≡◌, ℕ, ◌<◌, pos, ◌+ℤ◌, Bool, false, List, length, slice_index_or}
use Rattle.sn_raster.specs.Grid.{Grid, Node, places}
use Rattle.sn_raster.specs.Plane.{Plane}

-- how many columns and rows the window has
abbrev pub columns : Grid → ℕ
columns g = places g.i0 g.i1

abbrev pub rows : Grid → ℕ
rows g = places g.j0 g.j1

-- the node in a column and a row of the window
abbrev pub node_at : Grid → ℕ → ℕ → Node
node_at g column row = record { i = g.i0 +ℤ pos column; j = g.j0 +ℤ pos row }

-- these are the marks of the first nodes of a plane
pub record AreMarks (plane : Plane) (count : ℕ) (marks : List Bool) : Type 0 where
  pub full : length marks ≡ count
  pub same : (k : ℕ) → k < count → slice_index_or marks k false ≡ slice_index_or plane.marks k false
