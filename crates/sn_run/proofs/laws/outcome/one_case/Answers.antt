use Rattle.sn_run.proofs.OutcomeLawLemmas as lemmas
use Rattle.sn_run.proofs.laws.outcome.one_case.Goals as goal

pub returns : goal.returns
returns c = lemmas.one_case c.one_meaning.ensures c.one_file.ensures c.one_fault.ensures c.one_model.ensures c.one_verdict.ensures
