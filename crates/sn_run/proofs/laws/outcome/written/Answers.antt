use Rattle.sn_run.proofs.WrittenLemmas.{one_setting, written_is_approved}
use Rattle.sn_run.proofs.laws.outcome.written.Goals as goal

pub returns-clause-one_setting : goal.returns-clause-one_setting
returns-clause-one_setting c = one_setting

pub returns-clause-approved : goal.returns-clause-approved
returns-clause-approved c = written_is_approved c.one_meaning.ensures
