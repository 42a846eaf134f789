use Rattle.std.proofs.Common.{◌*◌}
use Rattle.sn_clear.specs.Window.{columns, AreMarks}
use Rattle.sn_clear.proofs.planes.marks_of.Given as goal

abbrev pub invariant-loop-row : goal.invariant-loop-row
invariant-loop-row l = AreMarks l.plane (l.row * columns l.g) l.marks.items
