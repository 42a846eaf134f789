-- MEANING: the useful centres of a window, by columns and rows counted from its first, and the discs about them (this project's own).
use Rattle.std.specs.Prelude.{◌≡◌, ℕ, ◌+◌, ◌-◌, ◌*◌, ◌/◌, ◌%◌, ◌<◌, ◌≤◌, Bool, false, nat_le, List, length, slice_index_or}
use Rattle.sn_geom.specs.declared.limits.TheConstants.{MOST_NODES, REACH, MOST_DIAMETER}
use Rattle.sn_clear.specs.declared.spot.Spot.{Spot}

-- What strokes go over: the counts of columns and rows of a window, how far discs reach, and for each node, row by row and in a
-- row column by column, whether it is a useful centre. A disc reaches the nodes whose squared distance, in pitches, is at most reach.
pub record Field : Type 0 where
  pub columns : ℕ
  pub rows : ℕ
  pub reach : ℕ
  pub useful : List Bool

-- a node of the window
pub record IsSpot (f : Field) (s : Spot) : Type 0 where
  pub column : s.column < f.columns
  pub row : s.row < f.rows

-- the number of a node: row by row, and in a row column by column
abbrev pub number_of : Field → Spot → ℕ
number_of f s = s.row * f.columns + s.column

-- the node of a number
abbrev pub spot_of : Field → ℕ → Spot
spot_of f k = record { column = k % f.columns; row = k / f.columns }

-- the node is a useful centre
abbrev pub is_useful : Field → Spot → Bool
is_useful f s = slice_index_or f.useful (number_of f s) false

-- how far two places are apart
abbrev pub apart : ℕ → ℕ → ℕ
apart a b = (a - b) + (b - a)

-- the square of the distance of two nodes, in pitches
abbrev pub squared_distance : Spot → Spot → ℕ
squared_distance a b = apart a.column b.column * apart a.column b.column + apart a.row b.row * apart a.row b.row

-- the disc about the node c holds the node s
abbrev pub holds : Field → Spot → Spot → Bool
holds f c s = nat_le (squared_distance c s) f.reach

-- the rule that each field keeps
pub record IsField (f : Field) : Type 0 where
  pub full : length f.useful ≡ f.columns * f.rows
  pub few : f.columns * f.rows ≤ MOST_NODES
  pub sides : (f.columns ≤ 2 * REACH + 1) × (f.rows ≤ 2 * REACH + 1)
  pub near : f.reach ≤ MOST_DIAMETER * MOST_DIAMETER
