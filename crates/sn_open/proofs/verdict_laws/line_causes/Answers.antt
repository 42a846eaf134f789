use Rattle.sn_open.proofs.CauseLemmas.{lines_have_one_first_cause, unread_lines_are_at_fault, refused_lines_are_at_fault}
use Rattle.sn_open.proofs.verdict_laws.line_causes.Goals as goal

pub returns-clause-one_first : goal.returns-clause-one_first
returns-clause-one_first c = lines_have_one_first_cause (record { one_block = c.line_readings.ensures.one_block; one_fault = c.line_readings.ensures.one_fault; not_both = c.line_readings.ensures.not_both })

pub returns-clause-unread : goal.returns-clause-unread
returns-clause-unread c = unread_lines_are_at_fault

pub returns-clause-refused : goal.returns-clause-refused
returns-clause-refused c = refused_lines_are_at_fault (record { one_block = c.line_readings.ensures.one_block; one_fault = c.line_readings.ensures.one_fault; not_both = c.line_readings.ensures.not_both })
