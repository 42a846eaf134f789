use Rattle.sn_open.proofs.GoodActLemmas.{marks_are_in_turn}
use Rattle.sn_open.proofs.verdict_laws.mark_causes.Goals as goal

pub returns-clause-in_turn : goal.returns-clause-in_turn
returns-clause-in_turn c = marks_are_in_turn
