-- MEANING: the material that is left after passes at feed, and the heights that stand for it (this project's own).
use Rattle.std.specs.Prelude.{◌≡◌, ◌↔◌, ◌⊎◌, ◌*◌, ◌<◌, ℕ, ℤ, pos, ◌+ℤ◌, ◌-ℤ◌, ◌≤ℤ◌, ◌<ℤ◌, ◌*ℤ◌, unsigned_abs, List, length, slice_index_or}
use Rattle.std.specs.List.{All, Contains, sum_by}
use Rattle.sn_geom.specs.declared.units.Pt3.{Pt3}
use Rattle.sn_geom.specs.declared.units.Body.{Body}
use Rattle.sn_geom.specs.declared.units.Cell.{Cell}
use Rattle.sn_geom.specs.Sweep.{Cut, Touch}
use Rattle.sn_outline.specs.Job.{Job}
use Rattle.sn_raster.specs.Grid.{Grid, Node, IsGrid, IsGridOf, IsInWindow, IsRawNode, places}
use Rattle.sn_raster.specs.Plane.{mark_of}

-- Cells.

-- the node under a cell
abbrev pub node_of : Cell → Node
node_of c = record { i = c.i; j = c.j }

-- the place and the height of a cell: the low end of its slab
abbrev pub low_end : ℕ → Cell → Pt3
low_end pitch c = record { x = c.i *ℤ pos pitch; y = c.j *ℤ pos pitch; z = c.z }

-- the cells of the raw box: slabs of one unit from its bottom up to its top
pub record IsRawCell (job : Job) (c : Cell) : Type 0 where
  pub node : IsRawNode job (node_of c)
  pub above : job.low.z ≤ℤ c.z
  pub below : c.z <ℤ job.high.z

-- Material.

-- a straight pass of a turning tool at feed, its tip from a point to a point
pub record Pass : Type 0 where
  pub body : Body
  pub from : Pt3
  pub to : Pt3

-- the cell is surely cut in the pass, over a grid of this pitch
abbrev pub IsCutBy : ℕ → Pass → Cell → Type 0
IsCutBy pitch pass c = Cut pass.body.d pass.body.e pass.from pass.to (low_end pitch c)

-- the raw cells that none of the passes cuts surely
pub record IsMaterial (job : Job) (passes : List Pass) (c : Cell) : Type 0 where
  pub raw : IsRawCell job c
  pub uncut : (pass : Pass) → Contains passes pass → ¬ IsCutBy job.pitch pass c

-- Heights.

-- A height for each node of the window of a grid. How they are kept is their own: contracts say which cells they have.
pub record HeightMap : Type 0 where
  pub grid : Grid
  pub heights : List ℤ

abbrev pub height_of : HeightMap → Node → ℤ
height_of map n = slice_index_or map.heights (mark_of map.grid n) (pos 0)

-- the cells over the nodes of the window, from the raw bottom up to the height of the node
pub record HasCell (map : HeightMap) (c : Cell) : Type 0 where
  pub in_window : IsInWindow map.grid (node_of c)
  pub above : map.grid.bottom ≤ℤ c.z
  pub below : c.z <ℤ height_of map (node_of c)

-- a height from the raw bottom to the raw top
pub record IsHeight (g : Grid) (height : ℤ) : Type 0 where
  pub from_bottom : g.bottom ≤ℤ height
  pub to_top : height ≤ℤ g.top

-- the rule that heights keep: one for each node of the window, none below the raw bottom or above the raw top
pub record IsHeightMap (map : HeightMap) : Type 0 where
  pub grid : IsGrid map.grid
  pub full : length map.heights ≡ places map.grid.i0 map.grid.i1 * places map.grid.j0 map.grid.j1
  pub within : All (IsHeight map.grid) map.heights

-- the heights stand for the material after the passes: they have its cells and no others
pub record StandsFor (map : HeightMap) (job : Job) (passes : List Pass) : Type 0 where
  pub grid : IsGridOf map.grid job
  pub cells : (c : Cell) → HasCell map c ↔ IsMaterial job passes c

-- a cell that is left, at the height from or more, that a tool of diameter d touches, its tip moving from a to b
pub record IsTouchedCell (map : HeightMap) (d : ℕ) (a b : Pt3) (from : ℤ) (c : Cell) : Type 0 where
  pub left : HasCell map c
  pub from_height : from ≤ℤ c.z
  pub touched : Touch d a b (low_end map.grid.pitch c)

-- cells go by their rows, in a row by their columns, and over a node by their heights
abbrev pub IsBefore : Cell → Cell → Type 0
IsBefore c c' = (c.j <ℤ c'.j) ⊎ ((c.j ≡ c'.j) × ((c.i <ℤ c'.i) ⊎ ((c.i ≡ c'.i) × (c.z <ℤ c'.z))))

-- the first of the cells that P holds of
pub record IsFirst (P : Cell → Type 0) (c : Cell) : Type 0 where
  pub holds : P c
  pub first : (other : Cell) → P other → ¬ IsBefore other c

-- Tops and counts.

-- the greatest of the heights over the nodes that N holds of, and the raw bottom where it holds of none
pub record IsTop (map : HeightMap) (N : Node → Type 0) (top : ℤ) : Type 0 where
  pub greatest : (n : Node) → N n → height_of map n ≤ℤ top
  pub reached : (top ≡ map.grid.bottom) ⊎ ((n : Node) × N n × (height_of map n ≡ top))

-- no cell over a node that N holds of is at the height top or above it, and it is the raw bottom or such a cell ends at it
pub record IsTopOfCells (map : HeightMap) (N : Node → Type 0) (top : ℤ) : Type 0 where
  pub none_above : (c : Cell) → N (node_of c) → HasCell map c → c.z <ℤ top
  pub reached : (top ≡ map.grid.bottom) ⊎ ((c : Cell) × N (node_of c) × HasCell map c × (c.z +ℤ pos 1 ≡ top))

-- the heights above the raw bottom, summed over the nodes of the window
abbrev pub cells_left : HeightMap → ℕ
cells_left map = sum_by (λ height. unsigned_abs (height -ℤ map.grid.bottom)) map.heights

-- the cells that P holds of have the numbers from 0 up to n less 1, each number once
pub record AreNumbered (P : Cell → Type 0) (n : ℕ) (number : Cell → ℕ) : Type 0 where
  pub below : (c : Cell) → P c → number c < n
  pub apart : (c other : Cell) → P c → P other → number c ≡ number other → c ≡ other
  pub each : (k : ℕ) → k < n → (c : Cell) × P c × (number c ≡ k)

-- n is how many cells P holds of
abbrev pub IsCount : (Cell → Type 0) → ℕ → Type 0
IsCount P n = (number : Cell → ℕ) × AreNumbered P n number
