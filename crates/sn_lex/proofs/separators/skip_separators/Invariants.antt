use Rattle.std.proofs.Common.{length}
use Rattle.sn_lex.specs.Split.{LeavesSeparators}
use Rattle.sn_lex.proofs.separators.skip_separators.Given as goal

abbrev pub invariant-loop-after : goal.invariant-loop-after
invariant-loop-after l = LeavesSeparators l.bytes l.rest

abbrev pub decreases-loop-after : goal.decreases-loop-after
decreases-loop-after l = length l.rest
