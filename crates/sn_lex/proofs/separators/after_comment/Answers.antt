use Rattle.std.proofs.Common.{arith}
use Rattle.sn_lex.proofs.Comments.{open_comment, closed_comment}
use Rattle.sn_lex.proofs.separators.after_comment.Goals as goal

pub returns-then-bytes-end-eq47 : goal.returns-then-bytes-end-eq47
returns-then-bytes-end-eq47 c = closed_comment _ _ (omega arith) (omega arith) c.loop-end.invariant c.if-bytes-end-eq42.true c.if-bytes-end-eq47.true

pub returns : goal.returns
returns c = open_comment _ c.loop-end.end (omega arith) c.loop-end.invariant
