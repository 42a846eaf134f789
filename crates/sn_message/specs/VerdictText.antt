-- MEANING: the line that a verdict is told in (this project's own).
use Rattle.std.specs.Prelude.{ℕ, List, ◌++◌, codes, decimal}
use Rattle.std.specs.Fmt.{signed_decimal}
use Rattle.sn_geom.specs.declared.block.LineFault.{LineFault}
use Rattle.sn_geom.specs.declared.block.LineFault.TheVariants as line
use Rattle.sn_geom.specs.declared.machine.MachFault.{MachFault}
use Rattle.sn_geom.specs.declared.machine.MachFault.TheVariants as machine
use Rattle.sn_geom.specs.declared.units.Cell.{Cell}
use Rattle.sn_open.specs.declared.verdict.Cause.{Cause}
use Rattle.sn_open.specs.declared.verdict.Cause.TheVariants as cause
use Rattle.sn_open.specs.declared.verdict.Verdict.{Verdict}
use Rattle.sn_open.specs.declared.verdict.Verdict.TheVariants as verdict

-- words and a column of a line
abbrev pub at_column : List ℕ → ℕ → List ℕ
at_column words column = words ++ (codes " at " ++ decimal column)

-- words and a cell
abbrev pub at_cell : List ℕ → Cell → List ℕ
at_cell words c = words ++ (codes " at i " ++ (signed_decimal c.i ++ (codes " j " ++ (signed_decimal c.j ++ (codes " z " ++ signed_decimal c.z)))))

abbrev pub line_fault_words : LineFault → List ℕ
line_fault_words line.LongLine = codes "long line"
line_fault_words (line.BadChar column) = at_column (codes "bad character") column
line_fault_words (line.BadNumber column) = at_column (codes "bad number") column
line_fault_words (line.TooFine column) = at_column (codes "too fine") column
line_fault_words (line.OutOfRange column) = at_column (codes "out of range") column
line_fault_words (line.Twice column) = at_column (codes "letter twice") column
line_fault_words (line.SameGroup column) = at_column (codes "same group") column
line_fault_words (line.Unsupported column) = at_column (codes "unsupported") column
line_fault_words (line.OpenComment column) = at_column (codes "open comment") column

abbrev pub machine_fault_words : MachFault → List ℕ
machine_fault_words machine.Percent = codes "stray percent"
machine_fault_words machine.AfterEnd = codes "after end"
machine_fault_words machine.NoMotion = codes "no motion"
machine_fault_words machine.NoTool = codes "no tool"
machine_fault_words machine.WrongOffset = codes "wrong offset"
machine_fault_words machine.ModeUnset = codes "mode unset"
machine_fault_words machine.NoOffset = codes "no offset"
machine_fault_words machine.LostAxis = codes "lost axis"
machine_fault_words machine.Slanted = codes "slanted"
machine_fault_words machine.NoFeed = codes "no feed"
machine_fault_words machine.SpindleOff = codes "spindle off"

abbrev pub cause_words : Cause → List ℕ
cause_words (cause.LineFault fault) = line_fault_words fault
cause_words (cause.MachFault fault) = machine_fault_words fault
cause_words cause.WrongMark = codes "wrong mark"
cause_words cause.LowEntry = codes "low entry"
cause_words cause.Early = codes "feed before a mark"
cause_words cause.OtherTool = codes "other tool"
cause_words cause.OtherFeed = codes "other feed"
cause_words cause.OtherSpeed = codes "other speed"
cause_words (cause.Gouge c) = at_cell (codes "gouge") c
cause_words (cause.Deep c) = at_cell (codes "too deep") c
cause_words (cause.Crash c) = at_cell (codes "rapid in material") c

-- a yes, or a no with the line at fault and its cause, or with what the whole program lacks
abbrev pub verdict_words : Verdict → List ℕ
verdict_words verdict.Yes = codes "yes"
verdict_words (verdict.Line n cause) = codes "no: line " ++ (decimal n ++ (codes ": " ++ cause_words cause))
verdict_words verdict.NoEnd = codes "no: no end"
verdict_words (verdict.Missing ws) = codes "no: #" ++ (decimal ws ++ codes " not executed")
verdict_words (verdict.Uncovered feature c) = codes "no: #" ++ (decimal feature ++ at_cell (codes " uncovered") c)

abbrev pub verdict_text : Verdict → List ℕ
verdict_text v = verdict_words v ++ codes "\n"
