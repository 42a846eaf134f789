-- MEANING: lengths and coordinates (this project's own).
use Rattle.std.specs.Prelude.{ℤ, ◌≤◌, unsigned_abs}
use Rattle.sn_geom.specs.declared.limits.TheConstants.{REACH}

-- z is a coordinate or a length: at most REACH in size, either sign
abbrev pub IsLength : ℤ → Type 0
IsLength z = unsigned_abs z ≤ REACH
