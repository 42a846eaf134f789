use Rattle.sn_geom.proofs.LineReadings.{one_block, one_fault, not_both, block_exactly, items_say}
use Rattle.sn_geom.proofs.line_laws.line_readings.Goals as goal

pub returns-clause-one_block : goal.returns-clause-one_block
returns-clause-one_block c = one_block

pub returns-clause-one_fault : goal.returns-clause-one_fault
returns-clause-one_fault c = one_fault

pub returns-clause-not_both : goal.returns-clause-not_both
returns-clause-not_both c = not_both

pub returns-clause-no_fault : goal.returns-clause-no_fault
returns-clause-no_fault c = block_exactly

pub returns-clause-items : goal.returns-clause-items
returns-clause-items c = items_say
