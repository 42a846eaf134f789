use Rattle.sn_run.proofs.CommandLemmas.{accepted_words_ask, one_command, trials_have_no_options}
use Rattle.sn_run.proofs.laws.command.commands.Goals as goal

pub returns-clause-accepted : goal.returns-clause-accepted
returns-clause-accepted c = accepted_words_ask

pub returns-clause-one_command : goal.returns-clause-one_command
returns-clause-one_command c = one_command c.one_meaning.ensures

pub returns-clause-trials : goal.returns-clause-trials
returns-clause-trials c = trials_have_no_options
