use Rattle.sn_open.proofs.VerdictLemmas.{programs_have_one_verdict, no_lines_no_end}
use Rattle.sn_open.proofs.ProgramLineLemmas.{lines_are_counted, first_lines_are_at_fault}
use Rattle.sn_open.proofs.verdict_laws.verdicts.Goals as goal

pub returns-clause-one : goal.returns-clause-one
returns-clause-one c = programs_have_one_verdict (record { one_block = c.line_readings.ensures.one_block; one_fault = c.line_readings.ensures.one_fault; not_both = c.line_readings.ensures.not_both })

pub returns-clause-counted : goal.returns-clause-counted
returns-clause-counted c = lines_are_counted

pub returns-clause-no_lines : goal.returns-clause-no_lines
returns-clause-no_lines c = no_lines_no_end

pub returns-clause-first_lines : goal.returns-clause-first_lines
returns-clause-first_lines c = first_lines_are_at_fault (record { one_block = c.line_readings.ensures.one_block; one_fault = c.line_readings.ensures.one_fault; not_both = c.line_readings.ensures.not_both })
