-- Laws of the strokes of a step that clears its feature (this project's own).
use Rattle.std.specs.Prelude.{◌≡◌, ◌≢◌, ◌↔◌, ℕ, ◌+◌, ◌*◌, ◌%◌, ◌<◌, ◌⊎◌, IsTrue, Bool, false, List, slice_index_or}
use Rattle.std.specs.List.{All}
use Rattle.sn_raster.specs.Grid.{Grid, InDisc, Node, place}
use Rattle.sn_raster.specs.Plane.{Plane, Has}
use Rattle.sn_outline.specs.JobRule.{IsPitch}
use Rattle.sn_clear.specs.declared.spot.Spot.{Spot}
use Rattle.sn_clear.specs.declared.spot.Run.{Run}
use Rattle.sn_clear.specs.declared.spot.Line.{Line}
use Rattle.sn_clear.specs.declared.spot.Line.TheVariants.{Rising, Falling}
use Rattle.sn_clear.specs.Window.{columns, rows, node_at}
use Rattle.sn_clear.specs.Field.{Field, IsSpot, is_useful, holds, spot_of}
use Rattle.sn_clear.specs.Runs.{IsLine, runs_on}
use Rattle.sn_clear.specs.Rows.{row_number, is_selected, row_place, line_at, sweep}
use Rattle.sn_clear.specs.Columns.{IsCentreOf, covers, with_columns}
use Rattle.sn_clear.specs.Strokes.{field_of}
use Rattle.sn_clear.specs.Thrift.{AreRunsOn, AreThrifty, HasUseful, IsHolder, IsNextColumn, IsOpen, IsSelectedRow}

-- Where strokes lie.

-- a stroke along a row or a column of the window, each of whose centres is useful
pub record IsUsefulRun (f : Field) (run : Run) : Type 0 where
  pub from : IsSpot f run.from
  pub to : IsSpot f run.to
  pub straight : (run.from.row ≡ run.to.row) ⊎ (run.from.column ≡ run.to.column)
  pub centres : (c : Spot) → IsCentreOf run c → IsTrue (is_useful f c)

-- all strokes lie on useful centres, and those of the rows along rows
abbrev pub StrokesLieOnUsefulCentres : Type 0
StrokesLieOnUsefulCentres =
    (f : Field) (every : ℕ) (targets : List Bool)
    → All (IsUsefulRun f) (with_columns f targets (sweep f every)) × All (λ run. run.from.row ≡ run.to.row) (sweep f every)

-- a useful centre is a free centre whose disc holds a target
abbrev pub UsefulCentresHoldTargets : Type 0
UsefulCentresHoldTargets =
    (g : Grid) (d : ℕ) (centres targets : Plane) (column row : ℕ) → IsPitch g.pitch → centres.grid ≡ g → targets.grid ≡ g
    → column < columns g → row < rows g
    → IsTrue (is_useful (field_of g d centres targets) (record { column = column; row = row }))
    ↔ (Has centres (node_at g column row) × ((t : Node) × Has targets t × InDisc g.pitch d (place g.pitch (node_at g column row)) t))

-- What strokes cover.

-- a stroke covers the nodes in the discs of its centres
abbrev pub StrokesCoverByTheirCentres : Type 0
StrokesCoverByTheirCentres = (f : Field) (run : Run) (s : Spot) → IsTrue (covers f run s) ↔ ((c : Spot) × IsCentreOf run c × IsTrue (holds f c s))

-- a disc holds the nodes that it has on the grid
abbrev pub DiscsAreThoseOfTheGrid : Type 0
DiscsAreThoseOfTheGrid =
    (g : Grid) (d : ℕ) (centres targets : Plane) (c s : Spot) → IsPitch g.pitch
    → IsTrue (holds (field_of g d centres targets) c s) ↔ InDisc g.pitch d (place g.pitch (node_at g c.column c.row)) (node_at g s.column s.row)

-- Rows.

-- the strokes of a line are its maximal runs, each ending before the next begins
abbrev pub RowsAreMaximalRuns : Type 0
RowsAreMaximalRuns = (f : Field) (line : Line) → IsLine f line → AreRunsOn f line (runs_on f line)

-- a row is selected where its number is a multiple, and where no later row has a useful centre
abbrev pub MultiplesAndTheLastAreSelected : Type 0
MultiplesAndTheLastAreSelected = (f : Field) (every row : ℕ) → row < f.rows → IsTrue (is_selected f every row) ↔ IsSelectedRow f every row

-- the last row with a useful centre is selected
abbrev pub LastRowIsSelected : Type 0
LastRowIsSelected =
    (f : Field) (every row : ℕ) → row < f.rows → HasUseful f row → ((later : ℕ) → row < later → later < f.rows → ¬ HasUseful f later)
    → IsTrue (is_selected f every row)

-- the number of a row is how many rows before it have a useful centre
abbrev pub RowNumbersCountUsefulRows : Type 0
RowNumbersCountUsefulRows =
    (f : Field)
    → (row_number f 0 ≡ 0)
    × ((row : ℕ) → HasUseful f row → row_number f (row + 1) ≡ row_number f row + 1)
    × ((row : ℕ) → ¬ HasUseful f row → row_number f (row + 1) ≡ row_number f row)

-- its place is how many rows before it are selected
abbrev pub RowPlacesCountSelectedRows : Type 0
RowPlacesCountSelectedRows =
    (f : Field) (every : ℕ)
    → (row_place f every 0 ≡ 0)
    × ((row : ℕ) → IsSelectedRow f every row → row_place f every (row + 1) ≡ row_place f every row + 1)
    × ((row : ℕ) → row < f.rows → ¬ IsSelectedRow f every row → row_place f every (row + 1) ≡ row_place f every row)

-- the first selected row rises, and from each to the next the direction changes
abbrev pub DirectionsAlternate : Type 0
DirectionsAlternate =
    (row place : ℕ) → (place % 2 ≡ 0 → line_at row place ≡ Rising row) × (place % 2 ≢ 0 → line_at row place ≡ Falling row)

-- Thrift.

-- each target is in the disc of a useful centre
abbrev pub EachTargetIsHeld : Field → List Bool → Type 0
EachTargetIsHeld f targets = (k : ℕ) → k < f.columns * f.rows → IsTrue (slice_index_or targets k false) → (c : Spot) × IsHolder f (spot_of f k) c

-- so it is where each target is in the disc of a free centre
abbrev pub HeldByCentres : Type 0
HeldByCentres =
    (g : Grid) (d : ℕ) (centres targets : Plane) → IsPitch g.pitch → centres.grid ≡ g → targets.grid ≡ g
    → ((t : Node) → Has targets t → (c : Node) × Has centres c × InDisc g.pitch d (place g.pitch c) t)
    → EachTargetIsHeld (field_of g d centres targets) targets.marks

-- where each target is held the strokes are thrifty
abbrev pub StrokesAreThrifty : Type 0
StrokesAreThrifty =
    (f : Field) (every : ℕ) (targets : List Bool) → EachTargetIsHeld f targets → AreThrifty f every targets (with_columns f targets (sweep f every))

-- one list of strokes is thrifty
abbrev pub OneListIsThrifty : Type 0
OneListIsThrifty =
    (f : Field) (every : ℕ) (targets : List Bool) (a b : List Run) → AreThrifty f every targets a → AreThrifty f every targets b → a ≡ b

-- a column covers a target that no stroke before it covers
abbrev pub ColumnsCoverOpenTargets : Type 0
ColumnsCoverOpenTargets =
    (f : Field) (targets : List Bool) (strokes : List Run) (run : Run) → IsNextColumn f targets strokes run
    → (k : ℕ) × IsOpen f targets strokes k × IsTrue (covers f run (spot_of f k))
