use Rattle.sn_open.proofs.ReachLawLemmas.{larger_tools_have_less_room, greater_sides_allow_less, openings_are_allowed}
use Rattle.sn_open.proofs.laws.larger.Goals as goal

pub returns-clause-tools : goal.returns-clause-tools
returns-clause-tools c = larger_tools_have_less_room

pub returns-clause-sides : goal.returns-clause-sides
returns-clause-sides c = greater_sides_allow_less

pub returns-clause-openings : goal.returns-clause-openings
returns-clause-openings c = openings_are_allowed
