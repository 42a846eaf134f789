-- MEANING: the rows that a clearing step selects, and the strokes that sweep them (this project's own).
use Rattle.std.specs.Prelude.{ℕ, zero, suc, ◌+◌, ◌%◌, ◌==◌, Bool, ◌&&◌, ◌||◌, if◌then◌else◌, List, [], ◌++◌}
use Rattle.sn_clear.specs.declared.spot.Run.{Run}
use Rattle.sn_clear.specs.declared.spot.Line.{Line}
use Rattle.sn_clear.specs.declared.spot.Line.TheVariants.{Rising, Falling}
use Rattle.sn_clear.specs.Field.{Field, is_useful}
use Rattle.sn_clear.specs.Places.{passes_before, count_before}
use Rattle.sn_clear.specs.Runs.{runs_on}

-- the row has a useful centre
abbrev pub has_useful : Field → ℕ → Bool
has_useful f row = passes_before (λ column. is_useful f (record { column = column; row = row })) f.columns

-- the number of a row among those with a useful centre, from 0
abbrev pub row_number : Field → ℕ → ℕ
row_number f row = count_before (has_useful f) row

-- how many rows have a useful centre
abbrev pub useful_rows : Field → ℕ
useful_rows f = count_before (has_useful f) f.rows

-- the rows whose number is a multiple of every, and the last
abbrev pub is_selected : Field → ℕ → ℕ → Bool
is_selected f every row =
    has_useful f row && ((row_number f row % every == 0) || (row_number f row + 1 == useful_rows f))

-- the place of a row among the selected ones, from 0
abbrev pub row_place : Field → ℕ → ℕ → ℕ
row_place f every row = count_before (is_selected f every) row

-- a row of even place is gone over in rising columns, one of odd place in falling columns
abbrev pub line_at : ℕ → ℕ → Line
line_at row place = if place % 2 == 0 then Rising row else Falling row

-- the strokes of the selected ones of the first n rows
unfoldable pub sweep_before : Field → ℕ → ℕ → List Run
sweep_before f every zero = []
sweep_before f every (suc row) =
    sweep_before f every row ++ (if is_selected f every row then runs_on f (line_at row (row_place f every row)) else [])

-- the strokes of all selected rows
abbrev pub sweep : Field → ℕ → List Run
sweep f every = sweep_before f every f.rows
