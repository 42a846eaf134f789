-- MEANING: the text of a report, the counts of a part (this project's own).
use Rattle.std.specs.Prelude.{ℕ, List, ◌++◌, length, codes, decimal, flat_map}
use Rattle.sn_report.specs.declared.counts.CountRow.{CountRow}
use Rattle.sn_report.specs.declared.counts.Counts.{Counts}

-- words and a whole number
abbrev pub numbered : List ℕ → ℕ → List ℕ
numbered words n = words ++ decimal n

-- how many steps are executed
abbrev pub steps_text : ℕ → List ℕ
steps_text count = numbered (codes "steps ") count ++ codes "\n"

-- how many nodes the window has across and up
abbrev pub grid_text : ℕ → ℕ → List ℕ
grid_text across up = numbered (codes "grid ") across ++ (numbered (codes " ") up ++ codes "\n")

-- the line of an executed step
abbrev pub row_text : CountRow → List ℕ
row_text row =
    numbered (codes "ws ") row.ws
    ++ (numbered (codes " tool ") row.tool
    ++ (numbered (codes " strokes ") row.strokes
    ++ (numbered (codes " layers ") row.layers
    ++ (numbered (codes " lifts ") row.lifts
    ++ (numbered (codes " cells ") row.cells ++ codes "\n")))))

-- the counts of the part, and a line for each step
abbrev pub report_text : Counts → List ℕ
report_text c = steps_text (length c.rows) ++ (grid_text c.across c.up ++ flat_map row_text c.rows)
