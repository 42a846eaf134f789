-- PRIVATE: differences of coordinates (this project's own).
use Rattle.std.specs.Prelude.{◌*◌, ◌≤◌, ℤ, unsigned_abs}
use Rattle.sn_geom.specs.declared.limits.TheConstants.{REACH}

-- z is the difference of two coordinates: at most twice REACH in size
abbrev pub IsDifference : ℤ → Type 0
IsDifference z = unsigned_abs z ≤ 2 * REACH
