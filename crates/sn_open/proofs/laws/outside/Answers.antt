use Rattle.sn_open.proofs.OutsideLemmas.{outside_is_allowed, window_has_discs, allowed_cells}
use Rattle.sn_open.proofs.laws.outside.Goals as goal

pub returns-clause-allowed : goal.returns-clause-allowed
returns-clause-allowed c = outside_is_allowed c.grids.ensures.margin c.grids.ensures.window c.grids.ensures.raw

pub returns-clause-discs : goal.returns-clause-discs
returns-clause-discs c = window_has_discs c.grids.ensures.window

pub returns-clause-cells : goal.returns-clause-cells
returns-clause-cells c = allowed_cells
