-- MEANING: the strokes that are the runs of useful centres on a line (this project's own).
use Rattle.std.specs.Prelude.{ℕ, zero, suc, ◌-◌, ◌<◌, Bool, if◌then◌else◌, List, [], ◌∷◌, ◌++◌}
use Rattle.sn_clear.specs.declared.spot.Spot.{Spot}
use Rattle.sn_clear.specs.declared.spot.Run.{Run}
use Rattle.sn_clear.specs.declared.spot.Line.{Line}
use Rattle.sn_clear.specs.declared.spot.Line.TheVariants.{Rising, Falling, Up}
use Rattle.sn_clear.specs.Field.{Field, is_useful}
use Rattle.sn_clear.specs.Places.{begins, run_end}

-- the line is one of the window
abbrev pub IsLine : Field → Line → Type 0
IsLine f (Rising row) = row < f.rows
IsLine f (Falling row) = row < f.rows
IsLine f (Up column) = column < f.columns

-- how many nodes a line has
abbrev pub places_on : Field → Line → ℕ
places_on f (Rising row) = f.columns
places_on f (Falling row) = f.columns
places_on f (Up column) = f.rows

-- the node at a place of a line, on the way that the line goes
abbrev pub spot_on : Field → Line → ℕ → Spot
spot_on f (Rising row) k = record { column = k; row = row }
spot_on f (Falling row) k = record { column = f.columns - 1 - k; row = row }
spot_on f (Up column) k = record { column = column; row = k }

-- the node at a place of a line is a useful centre
abbrev pub is_useful_on : Field → Line → ℕ → Bool
is_useful_on f line k = is_useful f (spot_on f line k)

-- the last place of the run of useful centres from the place k
abbrev pub end_on : Field → Line → ℕ → ℕ
end_on f line k = run_end (is_useful_on f line) k (places_on f line - 1 - k)

-- the stroke from one place of a line to another
abbrev pub run_between : Field → Line → ℕ → ℕ → Run
run_between f line from to = record { from = spot_on f line from; to = spot_on f line to }

-- the runs that begin at one of the first n places of a line, on its way
unfoldable pub runs_before : Field → Line → ℕ → List Run
runs_before f line zero = []
runs_before f line (suc n) =
    runs_before f line n ++ (if begins (is_useful_on f line) n then run_between f line n (end_on f line n) ∷ [] else [])

-- the maximal runs of useful centres on a line, on its way
abbrev pub runs_on : Field → Line → List Run
runs_on f line = runs_before f line (places_on f line)
