use Rattle.sn_run.proofs.JudgedLemmas as lemmas
use Rattle.sn_run.proofs.judge.sound_or_refused.Goals as goal

pub returns : goal.returns
returns c = lemmas.sound_or_refused c.one_file.ensures c.one_fault.ensures c.one_model.ensures c.one_verdict.ensures
