use Rattle.sn_program.proofs.AlikeLemmas.{good_goes_by_the_acts, lines_of_one_block}
use Rattle.sn_program.proofs.SilentLemmas.{silent_lines_do_nothing}
use Rattle.sn_program.proofs.laws.layout.layouts.Goals as goal

pub returns-clause-acts : goal.returns-clause-acts
returns-clause-acts c = good_goes_by_the_acts c.programs.ensures.one_meaning

pub returns-clause-lines : goal.returns-clause-lines
returns-clause-lines c = lines_of_one_block c.line_readings.ensures.one_block

pub returns-clause-silent : goal.returns-clause-silent
returns-clause-silent c = silent_lines_do_nothing c.texts.ensures.one_meaning c.texts.ensures.in_pieces c.programs.ensures.from_the_start
