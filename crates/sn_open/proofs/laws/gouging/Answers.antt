use Rattle.sn_open.proofs.GougeLawLemmas.{gouges_are_forbidden, no_gouge_stays_allowed}
use Rattle.sn_open.proofs.laws.gouging.Goals as goal

pub returns-clause-forbidden : goal.returns-clause-forbidden
returns-clause-forbidden c = gouges_are_forbidden

pub returns-clause-none : goal.returns-clause-none
returns-clause-none c = no_gouge_stays_allowed
