use Rattle.sn_open.proofs.ReachLawLemmas.{required_blocks_are_rounded, first_unreached_is_first, first_unreached_is_one}
use Rattle.sn_open.proofs.laws.unreached.Goals as goal

pub returns-clause-blocks : goal.returns-clause-blocks
returns-clause-blocks c = required_blocks_are_rounded

pub returns-clause-first : goal.returns-clause-first
returns-clause-first c = first_unreached_is_first

pub returns-clause-one : goal.returns-clause-one
returns-clause-one c = first_unreached_is_one
