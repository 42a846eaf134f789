-- The borders of the kinds.
use Rattle.std.proofs.Common.{ℤ, pos, ◌≤ℤ◌, arith}
use Rattle.std.specs.Prelude.{◌+ℤ◌, ◌-ℤ◌}
use Rattle.std.proofs.lemmas.Int.{ints}
use Rattle.sn_entity.specs.Borders.{HasBorders, KindsHaveBorders}
use Rattle.sn_entity.specs.Measure.{Measure, IsWithin, length_from, coordinate, diameter, edge_radius, feed, speed, thousandths, ratio}

not-less : (least : ℤ) → least ≤ℤ (least -ℤ pos 1) → ⊥
not-less least h = omega (arith, ints)

not-more : (greatest : ℤ) → (greatest +ℤ pos 1) ≤ℤ greatest → ⊥
not-more greatest h = omega (arith, ints)

same : (z : ℤ) → z ≤ℤ z
same z = omega (arith, ints)

-- a measure has its limits as borders
borders : (m : Measure) → m.least ≤ℤ m.greatest → HasBorders (IsWithin m) m.least m.greatest
borders m rising = record {
  least_is_inside = record { low = same m.least; high = rising };
  greatest_is_inside = record { low = rising; high = same m.greatest };
  less_is_outside = λ h. not-less m.least h.low;
  more_is_outside = λ h. not-more m.greatest h.high;
}

pub kinds_have_borders : KindsHaveBorders
kinds_have_borders = record {
  coordinate = borders coordinate (omega arith);
  allowance = borders (length_from (pos 0)) (omega arith);
  length = borders (length_from (pos 1)) (omega arith);
  diameter = borders diameter (omega arith);
  edge = borders edge_radius (omega arith);
  feed = borders feed (omega arith);
  speed = borders speed (omega arith);
  value = borders thousandths (omega arith);
  point = borders coordinate (omega arith);
  ratio = borders ratio (omega arith);
}
