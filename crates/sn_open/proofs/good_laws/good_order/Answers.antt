use Rattle.sn_open.proofs.GoodLawLemmas.{good_programs_are_read}
use Rattle.sn_open.proofs.good_laws.good_order.Goals as goal

pub returns-clause-are_read : goal.returns-clause-are_read
returns-clause-are_read c = good_programs_are_read
