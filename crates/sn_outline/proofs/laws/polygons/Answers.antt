use Rattle.sn_outline.proofs.Around.{any_point_is_first, either_direction, spike_encloses_nothing}
use Rattle.sn_outline.proofs.laws.polygons.Goals as goal

pub returns-clause-first : goal.returns-clause-first
returns-clause-first c = any_point_is_first

pub returns-clause-direction : goal.returns-clause-direction
returns-clause-direction c = either_direction

pub returns-clause-spike : goal.returns-clause-spike
returns-clause-spike c = spike_encloses_nothing
