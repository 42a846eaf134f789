use Rattle.std.proofs.Common.{◌+◌, ◌*◌}
use Rattle.sn_clear.specs.Window.{columns, AreMarks}
use Rattle.sn_clear.proofs.planes.push_marks.Given as goal

abbrev pub invariant-loop-column : goal.invariant-loop-column
invariant-loop-column l = AreMarks l.plane (l.row * columns l.g + l.column) l.marks.items
