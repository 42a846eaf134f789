use Rattle.sn_link.proofs.SafeLemmas.{planned_moves_are_safe, planned_moves_end_above, planned_moves_cut_the_targets, planned_moves_are_straight, clearing_steps_are_thrifty}
use Rattle.sn_link.proofs.laws.planned_moves.Goals as goal

pub returns-clause-safe : goal.returns-clause-safe
returns-clause-safe c = planned_moves_are_safe c.grids.ensures.margin c.outside.ensures.discs c.clearing.ensures.lie c.clearing.ensures.along

pub returns-clause-end_above : goal.returns-clause-end_above
returns-clause-end_above c = planned_moves_end_above c.grids.ensures.margin c.outside.ensures.discs c.clearing.ensures.lie c.clearing.ensures.along

pub returns-clause-cut : goal.returns-clause-cut
returns-clause-cut c = planned_moves_cut_the_targets c.grids.ensures.margin c.outside.ensures.discs c.clearing.ensures.lie c.clearing.ensures.along

pub returns-clause-straight : goal.returns-clause-straight
returns-clause-straight c = planned_moves_are_straight c.grids.ensures.margin c.outside.ensures.discs c.clearing.ensures.lie c.clearing.ensures.along

pub returns-clause-thrifty : goal.returns-clause-thrifty
returns-clause-thrifty c = clearing_steps_are_thrifty c.grids.ensures.margin c.outside.ensures.discs c.clearing.ensures.thrifty
