use Rattle.sn_open.proofs.GoodActLemmas.{right_acts_have_no_cause, good_acts_have_no_cause, good_programs_have_no_fault, good_programs_do_all}
use Rattle.sn_open.proofs.verdict_laws.good_programs.Goals as goal

pub returns-clause-acts : goal.returns-clause-acts
returns-clause-acts c = right_acts_have_no_cause

pub returns-clause-all_acts : goal.returns-clause-all_acts
returns-clause-all_acts c = good_acts_have_no_cause

pub returns-clause-lines : goal.returns-clause-lines
returns-clause-lines c = good_programs_have_no_fault (record { one_block = c.line_readings.ensures.one_block; one_fault = c.line_readings.ensures.one_fault; not_both = c.line_readings.ensures.not_both })

pub returns-clause-all : goal.returns-clause-all
returns-clause-all c = good_programs_do_all
