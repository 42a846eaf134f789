-- MEANING: what strokes cover, and the column strokes that are added while a target is not covered (this project's own).
use Rattle.std.specs.Prelude.{◌≡◌, ℕ, zero, suc, ◌*◌, ◌<◌, ◌≤◌, min, max, Bool, false, not, ◌&&◌, if◌then◌else◌, Option, Some, None, List, [], ◌∷◌, ◌++◌, slice_index_or}
use Rattle.std.specs.List.{list_any}
use Rattle.sn_clear.specs.declared.spot.Spot.{Spot}
use Rattle.sn_clear.specs.declared.spot.Run.{Run}
use Rattle.sn_clear.specs.declared.spot.Line.TheVariants.{Up}
use Rattle.sn_clear.specs.Field.{Field, IsSpot, is_useful, holds, spot_of}
use Rattle.sn_clear.specs.Places.{run_start}
use Rattle.sn_clear.specs.Runs.{is_useful_on, end_on, run_between}

-- Covering.

-- the place from a to b, or from b to a, that is nearest to k
abbrev pub nearest_place : ℕ → ℕ → ℕ → ℕ
nearest_place a b k = max (min a b) (min k (max a b))

-- the centre of a stroke that is nearest to a node
abbrev pub nearest_centre : Run → Spot → Spot
nearest_centre run s =
    record { column = nearest_place run.from.column run.to.column s.column; row = nearest_place run.from.row run.to.row s.row }

-- the centres of a stroke
pub record IsCentreOf (run : Run) (c : Spot) : Type 0 where
  pub column_from : min run.from.column run.to.column ≤ c.column
  pub column_to : c.column ≤ max run.from.column run.to.column
  pub row_from : min run.from.row run.to.row ≤ c.row
  pub row_to : c.row ≤ max run.from.row run.to.row

-- a stroke covers the nodes in the discs of its centres, so those in the disc of the nearest one
abbrev pub covers : Field → Run → Spot → Bool
covers f run s = holds f (nearest_centre run s) s

abbrev pub is_covered : Field → List Run → Spot → Bool
is_covered f strokes s = list_any (λ run. covers f run s) strokes

-- Column strokes.

-- the first node, or else the second
abbrev pub or_else : Option Spot → Option Spot → Option Spot
or_else (Some s) second = Some s
or_else None second = second

-- the first node found at one of the places before n
unfoldable pub first_found : (ℕ → Option Spot) → ℕ → Option Spot
first_found found zero = None
first_found found (suc n) = or_else (first_found found n) (found n)

-- the node where it is a useful centre whose disc holds the node s
abbrev pub centre_at : Field → Spot → ℕ → ℕ → Option Spot
centre_at f s column row =
    if is_useful f (record { column = column; row = row }) && holds f (record { column = column; row = row }) s
    then Some (record { column = column; row = row }) else None

-- the useful centre of least row in a column whose disc holds the node
abbrev pub centre_in : Field → Spot → ℕ → Option Spot
centre_in f s column = first_found (centre_at f s column) f.rows

-- the useful centre of least column, and then of least row, whose disc holds the node
abbrev pub centre_for : Field → Spot → Option Spot
centre_for f s = first_found (centre_in f s) f.columns

-- the maximal run of useful centres in the column of one of them, in rising rows
abbrev pub column_through : Field → Spot → Run
column_through f c = run_between f (Up c.column) (run_start (is_useful_on f (Up c.column)) c.row) (end_on f (Up c.column) c.row)

-- the column of a centre, if there is one
abbrev pub columns_through : Field → Option Spot → List Run
columns_through f (Some c) = column_through f c ∷ []
columns_through f None = []

abbrev pub column_for : Field → Spot → List Run
column_for f s = columns_through f (centre_for f s)

-- the node of number k is a target that no stroke so far covers
abbrev pub is_open : Field → List Bool → List Run → ℕ → Bool
is_open f targets strokes k = slice_index_or targets k false && not (is_covered f strokes (spot_of f k))

-- the strokes so far and the column for the node of number k, where that is a target which they do not cover
abbrev pub with_column : Field → List Bool → List Run → ℕ → List Run
with_column f targets strokes k =
    strokes ++ (if is_open f targets strokes k then column_for f (spot_of f k) else [])

-- the strokes of a list and the columns that are added for the first n nodes
unfoldable pub with_columns_before : Field → List Bool → List Run → ℕ → List Run
with_columns_before f targets strokes zero = strokes
with_columns_before f targets strokes (suc n) = with_column f targets (with_columns_before f targets strokes n) n

abbrev pub with_columns : Field → List Bool → List Run → List Run
with_columns f targets strokes = with_columns_before f targets strokes (f.columns * f.rows)

-- the nodes that are left are the targets which no stroke of the list covers
pub record IsLeft (f : Field) (targets left : List Bool) (strokes : List Run) : Type 0 where
  pub open_targets : (k : ℕ) → k < f.columns * f.rows → slice_index_or left k false ≡ is_open f targets strokes k

-- a stroke up a column of the window
pub record IsColumn (f : Field) (run : Run) : Type 0 where
  pub from : IsSpot f run.from
  pub to : IsSpot f run.to
  pub column : run.from.column ≡ run.to.column
  pub rising : run.from.row ≤ run.to.row
