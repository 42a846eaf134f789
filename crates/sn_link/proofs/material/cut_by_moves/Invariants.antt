use Rattle.std.proofs.Common.{drop}
use Rattle.sn_link.proofs.MaterialLemmas.{IsCutTo}
use Rattle.sn_link.proofs.material.cut_by_moves.Given as goal

abbrev pub invariant-loop-to : goal.invariant-loop-to
invariant-loop-to l = IsCutTo l.body l.fn.tip l.moves l.fn.heights l.heights l.at (drop l.to-index l.moves)
