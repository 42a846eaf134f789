use Rattle.sn_program.proofs.GoodLemmas.{plans_are_good}
use Rattle.sn_program.proofs.WritableLemmas.{plans_can_be_written}
use Rattle.sn_program.proofs.laws.good.goods.Goals as goal

pub returns-clause-good : goal.returns-clause-good
returns-clause-good c = plans_are_good c.planned_moves.ensures.safe c.planned_moves.ensures.end_above c.planned_moves.ensures.cut

pub returns-clause-writable : goal.returns-clause-writable
returns-clause-writable c = plans_can_be_written c.planned_moves.ensures.end_above c.planned_moves.ensures.straight
