-- PRIVATE: how marked nodes spread over the window, in quarters: a mark takes in nodes after it, in one direction of the
-- columns and one of the rows. How far it reaches in a row goes by how many rows lie between, and falls with them.
use Rattle.std.specs.Prelude.{◌≡◌, ℕ, ◌+◌, ◌-◌, ◌≤◌, ◌<◌, ◌⊎◌, ◌-ℤ◌, unsigned_abs, Bool, List, length, slice_index}
use Rattle.sn_raster.specs.Grid.{Grid, Node}
use Rattle.sn_raster.specs.Plane.{Plane, Has}
use Rattle.sn_open.specs.Window.{columns, rows, node_at, IsMarked}
use Rattle.sn_open.specs.declared.spread.Direction.{Direction}
use Rattle.sn_open.specs.declared.spread.Direction.TheVariants.{Rising, Falling}

-- a direction of the columns and one of the rows, in which marks take in later nodes
pub record Quarter : Type 0 where
  pub columns : Direction
  pub rows : Direction

abbrev pub quarter_of : Direction → Direction → Quarter
quarter_of columns rows = record { columns = columns; rows = rows }

-- the k-th of n places in a direction, counted from 0
abbrev pub place_in : Direction → ℕ → ℕ → ℕ
place_in Rising n k = k
place_in Falling n k = n - 1 - k

-- the node in a column of the window and the row that comes at this place in the direction
abbrev pub node_along : Direction → Grid → ℕ → ℕ → Node
node_along along g column row = node_at g column (place_in along (rows g) row)

-- the node in the column and the row that come at these places in the directions of the quarter
abbrev pub node_by : Quarter → Grid → ℕ → ℕ → Node
node_by quarter g column row = node_along quarter.rows g (place_in quarter.columns (columns g) column) row

-- half widths, in columns, for each count of rows between: they fall, and there is none beyond the window
pub record AreHalfWidths (rows : ℕ) (widths : List ℕ) : Type 0 where
  pub full : length widths ≡ rows + 1
  pub fall : (k k' : ℕ) → k ≤ k' → k' ≤ rows → slice_index widths k' ≤ slice_index widths k
  pub last : slice_index widths rows ≡ 0

-- gap rows lie between row r and the last marked row before it; where there is none, gap is the count of all rows
pub record IsGap (plane : Plane) (on : Bool) (along : Direction) (column r gap : ℕ) : Type 0 where
  pub least : (row : ℕ) → row < r → IsMarked plane on (node_along along plane.grid column row) → gap + row < r
  pub found : gap < rows plane.grid
      → (row : ℕ) × IsMarked plane on (node_along along plane.grid column row) × (gap + row + 1 ≡ r)
  pub few : gap ≤ rows plane.grid

-- the gap of each column before row r
pub record AreGaps (plane : Plane) (on : Bool) (along : Direction) (r : ℕ) (gaps : List ℕ) : Type 0 where
  pub full : length gaps ≡ columns plane.grid
  pub each : (column : ℕ) → column < columns plane.grid → IsGap plane on along column r (slice_index gaps column)

-- the gaps as row r is passed: before the next row in the columns before this one, and before row r in the others
pub record ArePassing (plane : Plane) (on : Bool) (along : Direction) (r column : ℕ) (gaps : List ℕ) : Type 0 where
  pub full : length gaps ≡ columns plane.grid
  pub passed : (k : ℕ) → k < column → IsGap plane on along k (r + 1) (slice_index gaps k)
  pub ahead : (k : ℕ) → column ≤ k → k < columns plane.grid → IsGap plane on along k r (slice_index gaps k)

-- the mark at the earlier column and row takes in the node at the later ones
pub record TakesIn (plane : Plane) (on : Bool) (quarter : Quarter) (widths : List ℕ) (column' row' column row : ℕ) : Type 0 where
  pub column_before : column' ≤ column
  pub row_before : row' ≤ row
  pub marked : IsMarked plane on (node_by quarter plane.grid column' row')
  pub near : column < column' + slice_index widths (row - row')

-- a mark of the quarter takes in the node
abbrev pub IsTakenIn : Plane → Bool → Quarter → List ℕ → ℕ → ℕ → Type 0
IsTakenIn plane on quarter widths column row = (column' : ℕ) × (row' : ℕ) × TakesIn plane on quarter widths column' row' column row

-- the width that goes with the gap of the k-th of n columns in a direction
abbrev pub width_in : List ℕ → List ℕ → Direction → ℕ → ℕ → ℕ
width_in widths gaps across n k = slice_index widths (slice_index gaps (place_in across n k))

-- how far the marks of the columns before this one reach in a row
pub record IsReach (widths gaps : List ℕ) (across : Direction) (n column reach : ℕ) : Type 0 where
  pub most : (k : ℕ) → k < column → k + width_in widths gaps across n k ≤ reach
  pub found : 0 < reach → (k : ℕ) × (k < column) × (reach ≡ k + width_in widths gaps across n k)

-- the marks of the columns up to this one reach beyond it
abbrev pub IsInReach : List ℕ → List ℕ → Direction → ℕ → ℕ → Type 0
IsInReach widths gaps across n column = (k : ℕ) × (k ≤ column) × (column < k + width_in widths gaps across n k)

-- a plane that keeps its nodes and gains those of a row that are reached: all in the columns before this one
pub record GainsInRow (widths gaps : List ℕ) (across : Direction) (g : Grid) (row column : ℕ) (old new : Plane) : Type 0 where
  pub grid : new.grid ≡ g
  pub kept : (n : Node) → Has old n → Has new n
  pub gained : (n : Node) → Has new n → Has old n
      ⊎ ((k : ℕ) × (k < columns g) × IsInReach widths gaps across (columns g) k × (n ≡ node_at g (place_in across (columns g) k) row))
  pub taken : (k : ℕ) → k < column → IsInReach widths gaps across (columns g) k → Has new (node_at g (place_in across (columns g) k) row)

-- the marked node covers the other: it reaches to its column in its row
pub record Covers (plane : Plane) (on : Bool) (widths : List ℕ) (mark n : Node) : Type 0 where
  pub marked : IsMarked plane on mark
  pub near : unsigned_abs (n.i -ℤ mark.i) < slice_index widths (unsigned_abs (n.j -ℤ mark.j))

abbrev pub IsCovered : Plane → Bool → List ℕ → Node → Type 0
IsCovered plane on widths n = (mark : Node) × Covers plane on widths mark n

-- a plane that keeps its nodes and gains only nodes that marked ones cover
pub record Gains (from : Plane) (on : Bool) (widths : List ℕ) (old new : Plane) : Type 0 where
  pub grid : new.grid ≡ from.grid
  pub kept : (n : Node) → Has old n → Has new n
  pub gained : (n : Node) → Has new n → Has old n ⊎ IsCovered from on widths n

-- the nodes in the columns before this one of a row that are taken in are there
abbrev pub HasTakenIn : Plane → Bool → Quarter → List ℕ → ℕ → Plane → ℕ → Type 0
HasTakenIn from on quarter widths row new column =
    (k : ℕ) → k < column → IsTakenIn from on quarter widths k row → Has new (node_by quarter from.grid k row)

-- and those of all rows before this one
abbrev pub HasAllTakenIn : Plane → Bool → Quarter → List ℕ → Plane → ℕ → Type 0
HasAllTakenIn from on quarter widths new row =
    (r : ℕ) → r < row → HasTakenIn from on quarter widths r new (columns from.grid)
