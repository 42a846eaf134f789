use Rattle.sn_program.proofs.AlikeLemmas.{words_may_swap}
use Rattle.sn_program.proofs.SplitLemmas.{modal_motions_may_be_left_out, rates_may_stand_alone, lines_may_be_replaced}
use Rattle.sn_program.proofs.laws.layout.splits.Goals as goal

pub returns-clause-order : goal.returns-clause-order
returns-clause-order c = words_may_swap

pub returns-clause-modal : goal.returns-clause-modal
returns-clause-modal c = modal_motions_may_be_left_out

pub returns-clause-alone : goal.returns-clause-alone
returns-clause-alone c = rates_may_stand_alone

pub returns-clause-replaced : goal.returns-clause-replaced
returns-clause-replaced c = lines_may_be_replaced
