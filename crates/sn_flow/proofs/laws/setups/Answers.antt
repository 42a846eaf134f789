use Rattle.sn_flow.proofs.SetupLawLemmas.{first_naming_tells, unnamed_stands, bounded_by_block, rawpiece_first, own_block_else, block_in_box, greatest_or_raw_top}
use Rattle.sn_flow.proofs.laws.setups.Goals as goal

pub returns-clause-naming : goal.returns-clause-naming
returns-clause-naming c = first_naming_tells

pub returns-clause-unnamed : goal.returns-clause-unnamed
returns-clause-unnamed c = unnamed_stands

pub returns-clause-bounded : goal.returns-clause-bounded
returns-clause-bounded c = bounded_by_block

pub returns-clause-rawpiece : goal.returns-clause-rawpiece
returns-clause-rawpiece c = rawpiece_first

pub returns-clause-own : goal.returns-clause-own
returns-clause-own c = own_block_else

pub returns-clause-turned : goal.returns-clause-turned
returns-clause-turned c = block_in_box

pub returns-clause-greatest : goal.returns-clause-greatest
returns-clause-greatest c = greatest_or_raw_top
