-- MEANING (this project's own): the numbers of parameters, their units and limits. As in ISO 14649, lengths are written in
-- millimetres, feeds in metres per second and speeds in revolutions per second.
use Rattle.std.specs.Prelude.{◌≡◌, ℕ, ◌≤◌, ℤ, pos, neg_ℤ, ◌≤ℤ◌, unsigned_abs, Bool, true, false, cond, List}
use Rattle.sn_geom.specs.Decimal.{Decimal, IsNumber, ScalesTo}
use Rattle.sn_geom.specs.declared.limits.TheConstants.{PER_MM, REACH, LEAST_DIAMETER, MOST_DIAMETER, MOST_EDGE, FEED_SCALE, SPEED_SCALE, MOST_RATE, PER_ONE, MOST_VALUE}
use Rattle.sn_entity.specs.declared.measure.TheConstants.{MOST_RATIO}

-- how a number is taken: times a factor, rounded, its sign dropped or not, from the least to the greatest value
pub record Measure : Type 0 where
  pub factor : ℕ
  pub signed : Bool
  pub least : ℤ
  pub greatest : ℤ

abbrev pub measure : ℕ → ℤ → ℤ → Measure
measure factor least greatest = record { factor = factor; signed = true; least = least; greatest = greatest }

abbrev pub length_from : ℤ → Measure
length_from least = measure PER_MM least (pos REACH)

abbrev pub coordinate : Measure
coordinate = length_from (neg_ℤ (pos REACH))

abbrev pub diameter : Measure
diameter = measure PER_MM (pos LEAST_DIAMETER) (pos MOST_DIAMETER)

abbrev pub edge_radius : Measure
edge_radius = measure PER_MM (pos 0) (pos MOST_EDGE)

abbrev pub feed : Measure
feed = measure FEED_SCALE (pos 1) (pos MOST_RATE)

abbrev pub speed : Measure
speed = record { factor = SPEED_SCALE; signed = false; least = pos 1; greatest = pos MOST_RATE }

abbrev pub thousandths : Measure
thousandths = measure PER_ONE (neg_ℤ (pos MOST_VALUE)) (pos MOST_VALUE)

abbrev pub ratio : Measure
ratio = measure PER_ONE (neg_ℤ (pos MOST_RATIO)) (pos MOST_RATIO)

-- no factor is above that of feeds, and no limit is wider than that of values
pub record IsSmall (m : Measure) : Type 0 where
  pub factor : m.factor ≤ FEED_SCALE
  pub least : unsigned_abs m.least ≤ MOST_VALUE
  pub greatest : unsigned_abs m.greatest ≤ MOST_VALUE

-- within the limits
pub record IsWithin (m : Measure) (z : ℤ) : Type 0 where
  pub low : m.least ≤ℤ z
  pub high : z ≤ℤ m.greatest

-- the number of this text has the value z
pub record Measures (m : Measure) (text : List ℕ) (z : ℤ) : Type 0 where
  pub decimal : Decimal
  pub rounded : ℤ
  pub number : IsNumber text decimal
  pub scales : ScalesTo decimal m.factor rounded
  pub value : z ≡ cond m.signed rounded (pos (unsigned_abs rounded))
  pub within : IsWithin m z
