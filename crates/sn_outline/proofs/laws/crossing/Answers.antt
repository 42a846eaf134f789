use Rattle.sn_outline.proofs.Crossing.{each_height_evenly, left_ray_tells_the_same}
use Rattle.sn_outline.proofs.Sides.{crosses_right_somewhere}
use Rattle.sn_outline.proofs.laws.crossing.Goals as goal

pub returns-clause-each_height : goal.returns-clause-each_height
returns-clause-each_height c = each_height_evenly

pub returns-clause-left_ray : goal.returns-clause-left_ray
returns-clause-left_ray c = left_ray_tells_the_same

pub returns-clause-somewhere : goal.returns-clause-somewhere
returns-clause-somewhere c = crosses_right_somewhere
