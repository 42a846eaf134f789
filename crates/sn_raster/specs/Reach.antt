-- MEANING: what may be near a segment on one axis (this project's own).
use Rattle.std.specs.Prelude.{ℕ, ℤ, pos, ◌+ℤ◌, ◌-ℤ◌, ◌≤ℤ◌}
use Rattle.std.specs.Int.{int_min, int_max}
use Rattle.sn_raster.specs.Grid.{half_up}

-- on one axis, x is between a and b or at most half of d, rounded up, outside of them
pub record IsBeside (d : ℕ) (a b x : ℤ) : Type 0 where
  pub low : (int_min a b -ℤ pos (half_up d)) ≤ℤ x
  pub high : x ≤ℤ (int_max a b +ℤ pos (half_up d))
