-- MEANING (this project's own): the least and the greatest number of each kind.
use Rattle.std.specs.Prelude.{ℕ, ◌*◌, ◌/◌, ℤ, pos, neg_ℤ, ◌+ℤ◌, ◌-ℤ◌}
use Rattle.sn_geom.specs.declared.limits.TheConstants.{PER_MM, PER_ONE}
use Rattle.sn_entity.specs.declared.row.Kind.TheVariants.{L, L0, L1, Dia, Edge, Feed, Speed, N, P, V}
use Rattle.sn_entity.specs.Limits.{IsWithinKind}

abbrev pub millimetres : ℕ → ℤ
millimetres n = pos (n * PER_MM)

-- hundredths of a millimetre
abbrev pub hundredths : ℕ → ℤ
hundredths n = pos (n * PER_MM / 100)

abbrev pub ones : ℕ → ℤ
ones n = pos (n * PER_ONE)

-- both numbers are within limits, and the next ones outside them are not
pub record HasBorders (IsInside : ℤ → Type 0) (least greatest : ℤ) : Type 0 where
  pub least_is_inside : IsInside least
  pub greatest_is_inside : IsInside greatest
  pub less_is_outside : ¬ IsInside (least -ℤ pos 1)
  pub more_is_outside : ¬ IsInside (greatest +ℤ pos 1)

-- each kind that has numbers has its borders: lengths reach to 2 m, diameters from 0.01 mm to 200 mm, edge radii to 100 mm,
-- feeds to 100 m/min, speeds to 100,000 rev/min, values to 2 million and the ratios of directions to 2,000
pub record KindsHaveBorders : Type 0 where
  pub coordinate : HasBorders (IsWithinKind L) (neg_ℤ (millimetres 2000)) (millimetres 2000)
  pub allowance : HasBorders (IsWithinKind L0) (pos 0) (millimetres 2000)
  pub length : HasBorders (IsWithinKind L1) (pos 1) (millimetres 2000)
  pub diameter : HasBorders (IsWithinKind Dia) (hundredths 1) (millimetres 200)
  pub edge : HasBorders (IsWithinKind Edge) (pos 0) (millimetres 100)
  pub feed : HasBorders (IsWithinKind Feed) (pos 1) (pos 100000)
  pub speed : HasBorders (IsWithinKind Speed) (pos 1) (pos 100000)
  pub value : HasBorders (IsWithinKind N) (neg_ℤ (ones 2000000)) (ones 2000000)
  pub point : HasBorders (IsWithinKind P) (neg_ℤ (millimetres 2000)) (millimetres 2000)
  pub ratio : HasBorders (IsWithinKind V) (neg_ℤ (ones 2000)) (ones 2000)
