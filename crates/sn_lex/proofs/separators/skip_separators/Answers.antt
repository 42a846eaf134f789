use Rattle.sn_lex.proofs.Comments.{one_more_separator}
use Rattle.sn_lex.proofs.separators.skip_separators.Goals as goal

pub loop-after-preserved : goal.loop-after-preserved
loop-after-preserved c = one_more_separator _ _ _ c.loop-after.invariant c.in-Some.ensures
