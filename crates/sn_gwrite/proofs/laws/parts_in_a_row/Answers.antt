use Rattle.sn_gwrite.proofs.PartMeanings.{parts_mean_in_turn, no_part_means_nothing, parts_are_program}
use Rattle.sn_gwrite.proofs.OneHole.{one_hole_means}
use Rattle.sn_gwrite.proofs.laws.parts_in_a_row.Goals as goal

pub returns : goal.returns
returns c = record { in_turn = parts_mean_in_turn; none = no_part_means_nothing; program = parts_are_program; worked = one_hole_means }
