use Rattle.sn_open.proofs.VerdictLemmas.{ends_and_marks_are_missed, features_go_by_their_steps}
use Rattle.sn_open.proofs.verdict_laws.stages.Goals as goal

pub returns-clause-missed : goal.returns-clause-missed
returns-clause-missed c = ends_and_marks_are_missed

pub returns-clause-features : goal.returns-clause-features
returns-clause-features c = features_go_by_their_steps
