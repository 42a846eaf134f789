use Rattle.std.proofs.Common.{pos, ◌+ℤ◌, ◌<ℤ◌}
use Rattle.sn_geom.specs.declared.units.Cell.{Cell}
use Rattle.sn_sweep.specs.Left.{IsStandingIn}
use Rattle.sn_sweep.proofs.left.left_in_rows.Given as goal

abbrev pub invariant-loop-row : goal.invariant-loop-row
invariant-loop-row l = (c : Cell) → c.j <ℤ (l.g.j0 +ℤ pos l.row) → ¬ IsStandingIn l.nodes l.map l.band c
