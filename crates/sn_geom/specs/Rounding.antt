-- MEANING: rounding to the nearest whole number, a half away from zero (this project's own).
use Rattle.std.specs.Prelude.{◌≡◌, ℕ, ◌<◌, ◌≤◌, ℤ, pos, ◌-ℤ◌, ◌*ℤ◌, unsigned_abs}

-- how far the whole number z is from n / m, taken m times
abbrev pub distance : ℤ → ℕ → ℤ → ℕ
distance n m z = unsigned_abs (n -ℤ z *ℤ pos m)

-- z is n / m rounded: no whole number is nearer to n / m, and one that is as near is no farther from 0
pub record RoundsTo (n : ℤ) (m : ℕ) (z : ℤ) : Type 0 where
  pub nearest : (w : ℤ) → distance n m z ≤ distance n m w
  pub away : (w : ℤ) → distance n m w ≡ distance n m z → unsigned_abs w ≤ unsigned_abs z

-- each fraction is rounded to just one whole number
abbrev pub RoundsToOne : Type 0
RoundsToOne = (n : ℤ) (m : ℕ) → 0 < m → (z : ℤ) × RoundsTo n m z × ((w : ℤ) → RoundsTo n m w → w ≡ z)
