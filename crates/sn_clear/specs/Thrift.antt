-- MEANING: which strokes are thrifty: the maximal runs of the selected rows, and then columns, each for the first target that no
-- earlier stroke covers, until no target is left (this project's own). The numbers, the places and the directions of rows are
-- computed (Rows), and laws say what they are (StrokeLaws); all else is described.
use Rattle.std.specs.Prelude.{◌≡◌, ◌↔◌, ℕ, zero, suc, ◌+◌, ◌*◌, ◌%◌, ◌<◌, ◌≤◌, ◌⊎◌, IsTrue, Bool, false, List, [], ◌∷◌, ◌++◌, slice_index_or}
use Rattle.std.specs.List.{AllPairs, Contains}
use Rattle.sn_clear.specs.declared.spot.Spot.{Spot}
use Rattle.sn_clear.specs.declared.spot.Run.{Run}
use Rattle.sn_clear.specs.declared.spot.Line.{Line}
use Rattle.sn_clear.specs.declared.spot.Line.TheVariants.{Rising, Falling, Up}
use Rattle.sn_clear.specs.Field.{Field, IsSpot, is_useful, holds, spot_of}
use Rattle.sn_clear.specs.Runs.{places_on, is_useful_on, run_between}
use Rattle.sn_clear.specs.Rows.{row_number, row_place, line_at}
use Rattle.sn_clear.specs.Columns.{is_covered}

-- Rows.

-- useful centres at all places of a line from one to another, and at none beside them
pub record IsMaximalRun (f : Field) (line : Line) (from to : ℕ) : Type 0 where
  pub order : from ≤ to
  pub within : to < places_on f line
  pub useful : (k : ℕ) → from ≤ k → k ≤ to → IsTrue (is_useful_on f line k)
  pub before : (k : ℕ) → k + 1 ≡ from → ¬ IsTrue (is_useful_on f line k)
  pub after : to + 1 < places_on f line → ¬ IsTrue (is_useful_on f line (to + 1))

-- the stroke is a maximal run on the line
abbrev pub IsRunOn : Field → Line → Run → Type 0
IsRunOn f line run = (from : ℕ) × (to : ℕ) × IsMaximalRun f line from to × (run ≡ run_between f line from to)

-- on the way of the line the first stroke ends before the second begins
abbrev pub Precedes : Line → Run → Run → Type 0
Precedes (Rising row) a b = a.to.column < b.from.column
Precedes (Falling row) a b = b.from.column < a.to.column
Precedes (Up column) a b = a.to.row < b.from.row

-- the strokes are the maximal runs on the line, in the order of its way
pub record AreRunsOn (f : Field) (line : Line) (strokes : List Run) : Type 0 where
  pub runs : (run : Run) → Contains strokes run ↔ IsRunOn f line run
  pub order : AllPairs (Precedes line) strokes

-- the row has a useful centre
abbrev pub HasUseful : Field → ℕ → Type 0
HasUseful f row = (column : ℕ) × (column < f.columns) × IsTrue (is_useful f (record { column = column; row = row }))

-- a row whose number among those with a useful centre is a multiple of every, or the last of them
pub record IsSelectedRow (f : Field) (every row : ℕ) : Type 0 where
  pub inside : row < f.rows
  pub some : HasUseful f row
  pub chosen : (row_number f row % every ≡ 0) ⊎ ((later : ℕ) → row < later → later < f.rows → ¬ HasUseful f later)

-- the parts of the first n rows, joined
abbrev pub joined : (ℕ → List Run) → ℕ → List Run
joined parts zero = []
joined parts (suc n) = joined parts n ++ parts n

-- the strokes are those of the selected rows, row by row, each row in the direction of its place
pub record IsSweep (f : Field) (every : ℕ) (strokes : List Run) : Type 0 where
  pub parts : ℕ → List Run
  pub selected : (row : ℕ) → IsSelectedRow f every row → AreRunsOn f (line_at row (row_place f every row)) (parts row)
  pub others : (row : ℕ) → ¬ IsSelectedRow f every row → parts row ≡ []
  pub whole : strokes ≡ joined parts f.rows

-- Columns.

-- the node of number k is a target that no stroke covers
pub record IsOpen (f : Field) (targets : List Bool) (strokes : List Run) (k : ℕ) : Type 0 where
  pub inside : k < f.columns * f.rows
  pub target : IsTrue (slice_index_or targets k false)
  pub uncovered : ¬ IsTrue (is_covered f strokes (spot_of f k))

-- the first such target, row by row, and in a row column by column
pub record IsFirstOpen (f : Field) (targets : List Bool) (strokes : List Run) (k : ℕ) : Type 0 where
  pub is_open : IsOpen f targets strokes k
  pub first : (m : ℕ) → m < k → ¬ IsOpen f targets strokes m

-- a useful centre whose disc holds the node
pub record IsHolder (f : Field) (s c : Spot) : Type 0 where
  pub inside : IsSpot f c
  pub useful : IsTrue (is_useful f c)
  pub near : IsTrue (holds f c s)

-- the one of least column, and then of least row
pub record IsFirstHolder (f : Field) (s c : Spot) : Type 0 where
  pub holder : IsHolder f s c
  pub first : (other : Spot) → IsHolder f s other → (c.column < other.column) ⊎ ((c.column ≡ other.column) × (c.row ≤ other.row))

-- the column stroke for the first open target: the maximal run through the first useful centre whose disc holds it
pub record IsNextColumn (f : Field) (targets : List Bool) (strokes : List Run) (run : Run) : Type 0 where
  pub target : ℕ
  pub open_first : IsFirstOpen f targets strokes target
  pub centre : Spot
  pub holder : IsFirstHolder f (spot_of f target) centre
  pub from : ℕ
  pub to : ℕ
  pub maximal : IsMaximalRun f (Up centre.column) from to
  pub through : (from ≤ centre.row) × (centre.row ≤ to)
  pub is : run ≡ run_between f (Up centre.column) from to

-- each of the columns is the next after the strokes before it
abbrev pub AreNextColumns : Field → List Bool → List Run → List Run → Type 0
AreNextColumns f targets strokes [] = Unit {0}
AreNextColumns f targets strokes (run ∷ rest) = IsNextColumn f targets strokes run × AreNextColumns f targets (strokes ++ run ∷ []) rest

-- the strokes of the rows, then columns, and after them no open target
pub record AreThrifty (f : Field) (every : ℕ) (targets : List Bool) (strokes : List Run) : Type 0 where
  pub rows : List Run
  pub columns : List Run
  pub are_rows : IsSweep f every rows
  pub are_columns : AreNextColumns f targets rows columns
  pub whole : strokes ≡ rows ++ columns
  pub none_open : (k : ℕ) → ¬ IsOpen f targets strokes k
