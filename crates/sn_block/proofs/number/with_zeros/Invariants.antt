use Rattle.std.proofs.Common.{◌≡◌, ◌≤◌}
use Rattle.std.specs.Prelude.{min}
use Rattle.std.specs.Str.Parse.{digits_value_after}
use Rattle.sn_block.specs.declared.number.TheConstants.{MOST_SIZE}
use Rattle.sn_geom.specs.LineText.{zeros}
use Rattle.sn_block.proofs.number.with_zeros.Given as goal

abbrev pub invariant-loop-place : goal.invariant-loop-place
invariant-loop-place l = (l.size ≡ min MOST_SIZE (digits_value_after 10 l.start (zeros l._place))) × (l.size ≤ MOST_SIZE)
