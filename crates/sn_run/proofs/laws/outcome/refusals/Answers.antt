use Rattle.sn_run.proofs.OutcomeLawLemmas.{one_refusal, bad_words_are_no_command}
use Rattle.sn_run.proofs.laws.outcome.refusals.Goals as goal

pub returns-clause-one_refusal : goal.returns-clause-one_refusal
returns-clause-one_refusal c =
    one_refusal c.one_meaning.ensures c.one_file.ensures c.one_fault.ensures c.one_model.ensures c.one_verdict.ensures c.sound_or_refused.ensures

pub returns-clause-bad_words : goal.returns-clause-bad_words
returns-clause-bad_words c = bad_words_are_no_command
