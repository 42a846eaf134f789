use Rattle.sn_geom.proofs.LineMarks.{mark_is_number}
use Rattle.sn_geom.proofs.line_laws.marks.Goals as goal

pub returns : goal.returns
returns c = mark_is_number
