use Rattle.sn_open.proofs.GoodLawLemmas.{current_step_is_marked}
use Rattle.sn_open.proofs.PassLemmas.{marks_append, one_body, passes_append}
use Rattle.sn_open.proofs.good_laws.acts.Goals as goal

pub returns-clause-current : goal.returns-clause-current
returns-clause-current c = current_step_is_marked

pub returns-clause-in_a_row : goal.returns-clause-in_a_row
returns-clause-in_a_row c = λ steps some others. (marks_append some others, passes_append steps some others)

pub returns-clause-bodies : goal.returns-clause-bodies
returns-clause-bodies c = one_body
