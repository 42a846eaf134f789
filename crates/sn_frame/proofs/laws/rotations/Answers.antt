use Rattle.sn_frame.proofs.Counting.{rotations_are_distinct, rotations_are_listed}
use Rattle.sn_frame.proofs.Placing.{each_is_placed}
use Rattle.sn_frame.proofs.laws.rotations.Goals as goal

pub returns-clause-distinct : goal.returns-clause-distinct
returns-clause-distinct c = rotations_are_distinct

pub returns-clause-all : goal.returns-clause-all
returns-clause-all c = rotations_are_listed

pub returns-clause-placed : goal.returns-clause-placed
returns-clause-placed c = each_is_placed
