use Rattle.sn_block.proofs.Reading.{every_block_found}
use Rattle.sn_block.proofs.line.read_line.Goals as goal

pub returns-clause-every_block : goal.returns-clause-every_block
returns-clause-every_block c = every_block_found c.line_readings.ensures.one_block c.line_readings.ensures.not_both c.args.line.now c.read_items.result c.read_items.ensures
