-- MEANING: the nodes beside a node in its row and in its column (this project's own).
use Rattle.std.specs.Prelude.{◌≡◌, ◌≤◌, ◌-ℤ◌, unsigned_abs}
use Rattle.sn_raster.specs.Grid.{Node, Nodes, IsInWindow}
use Rattle.sn_raster.specs.Plane.{Plane, Has}

-- m is n, or beside it in its row
pub record IsBesideInRow (n m : Node) : Type 0 where
  pub row : m.j ≡ n.j
  pub column : unsigned_abs (m.i -ℤ n.i) ≤ 1

-- m is n, or beside it in its column
pub record IsBesideInColumn (n m : Node) : Type 0 where
  pub column : m.i ≡ n.i
  pub row : unsigned_abs (m.j -ℤ n.j) ≤ 1

-- the plane has n and the nodes of the window beside it in its row
abbrev pub HasBesideInRow : Plane → Nodes
HasBesideInRow plane n = (q : Node) → IsInWindow plane.grid q → IsBesideInRow n q → Has plane q

-- the plane has n and the nodes of the window beside it in its column
abbrev pub HasBesideInColumn : Plane → Nodes
HasBesideInColumn plane n = (q : Node) → IsInWindow plane.grid q → IsBesideInColumn n q → Has plane q
