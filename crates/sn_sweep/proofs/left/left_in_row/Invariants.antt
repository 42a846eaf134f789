use Rattle.std.proofs.Common.{◌≡◌, pos, ◌+ℤ◌, ◌<ℤ◌}
use Rattle.sn_geom.specs.declared.units.Cell.{Cell}
use Rattle.sn_sweep.specs.Left.{IsStandingIn}
use Rattle.sn_sweep.proofs.left.left_in_row.Given as goal

abbrev pub invariant-loop-column : goal.invariant-loop-column
invariant-loop-column l = (c : Cell) → c.j ≡ l.g.j0 +ℤ pos l.row → c.i <ℤ (l.g.i0 +ℤ pos l.column) → ¬ IsStandingIn l.nodes l.map l.band c
