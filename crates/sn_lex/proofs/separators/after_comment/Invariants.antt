use Rattle.sn_lex.proofs.Comments.{NoneClosedBefore}
use Rattle.sn_lex.proofs.separators.after_comment.Given as goal

abbrev pub invariant-loop-end : goal.invariant-loop-end
invariant-loop-end l = NoneClosedBefore l.bytes l.end
