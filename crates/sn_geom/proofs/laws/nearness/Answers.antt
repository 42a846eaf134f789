use Rattle.sn_geom.proofs.Nearness.{near_one_place, near_either_way, near_of_longer, near_of_larger}
use Rattle.sn_geom.proofs.laws.nearness.Goals as goal

pub returns-clause-one_place : goal.returns-clause-one_place
returns-clause-one_place c = near_one_place

pub returns-clause-either_way : goal.returns-clause-either_way
returns-clause-either_way c = near_either_way

pub returns-clause-longer : goal.returns-clause-longer
returns-clause-longer c = near_of_longer

pub returns-clause-larger : goal.returns-clause-larger
returns-clause-larger c = near_of_larger
