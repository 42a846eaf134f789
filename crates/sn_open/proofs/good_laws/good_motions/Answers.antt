use Rattle.sn_open.proofs.GoodLawLemmas.{good_rapids_are_clear, good_feeds_stay_allowed, good_programs_move_clear}
use Rattle.sn_open.proofs.good_laws.good_motions.Goals as goal

pub returns-clause-rapids_are_clear : goal.returns-clause-rapids_are_clear
returns-clause-rapids_are_clear c = good_rapids_are_clear

pub returns-clause-feeds_stay_allowed : goal.returns-clause-feeds_stay_allowed
returns-clause-feeds_stay_allowed c = good_feeds_stay_allowed

pub returns-clause-move_clear : goal.returns-clause-move_clear
returns-clause-move_clear c = good_programs_move_clear
