-- PRIVATE: planes whose nodes are put in or taken out one after the other, by a set that says which are in.
use Rattle.std.specs.Prelude.{◌≡◌, ◌↔◌, ℕ, ◌≤◌, ◌<◌}
use Rattle.sn_raster.specs.Grid.{Grid, Node, Nodes}
use Rattle.sn_raster.specs.Plane.{Plane, Has}
use Rattle.sn_open.specs.Window.{columns, rows, node_at}

-- the nodes of a row in the columns before this one are put, and all others as they were
pub record IsRowPut (P : Nodes) (g : Grid) (row : ℕ) (old new : Plane) (column : ℕ) : Type 0 where
  pub grid : new.grid ≡ g
  pub done : (k : ℕ) → k < column → Has new (node_at g k row) ↔ P (node_at g k row)
  pub rest : (n : Node) → ((k : ℕ) → k < column → ¬ (n ≡ node_at g k row)) → Has new n ↔ Has old n

-- the nodes of the rows before this one are put, and those of the others as they were
pub record AreRowsPut (P : Nodes) (g : Grid) (old new : Plane) (row : ℕ) : Type 0 where
  pub grid : new.grid ≡ g
  pub done : (k r : ℕ) → k < columns g → r < row → Has new (node_at g k r) ↔ P (node_at g k r)
  pub rest : (k r : ℕ) → k < columns g → row ≤ r → r < rows g → Has new (node_at g k r) ↔ Has old (node_at g k r)

-- the plane has the node, and the other lacks it
abbrev pub IsAlone : Plane → Plane → Nodes
IsAlone plane other n = Has plane n × (¬ Has other n)

-- the first such node of a row
pub record IsFirstAloneIn (plane other : Plane) (column row : ℕ) : Type 0 where
  pub column_in : column < columns plane.grid
  pub alone : IsAlone plane other (node_at plane.grid column row)
  pub first : (k : ℕ) → k < column → ¬ IsAlone plane other (node_at plane.grid k row)

-- the first of all
pub record IsFirstAlone (plane other : Plane) (column row : ℕ) : Type 0 where
  pub row_in : row < rows plane.grid
  pub in_row : IsFirstAloneIn plane other column row
  pub earlier : (k r : ℕ) → k < columns plane.grid → r < row → ¬ IsAlone plane other (node_at plane.grid k r)
