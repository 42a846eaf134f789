-- MEANING (this project's own): the limits of the numbers that the instances of a sound model give at the places of their rows.
use Rattle.std.specs.Prelude.{ℤ, Option, Some, None}
use Rattle.sn_entity.specs.declared.row.Read.{Read}
use Rattle.sn_entity.specs.declared.value.Triple.{Triple}
use Rattle.sn_entity.specs.Limits.{IsWithinKind, AreWithinKind}

-- the number is within the limits of what the row reads there
abbrev pub IsWithinRead : Option Read → ℤ → Type 0
IsWithinRead (Some r) z = IsWithinKind r.kind z
IsWithinRead None z = Unit {0}

-- so are the three numbers
abbrev pub AreWithinRead : Option Read → Triple → Type 0
AreWithinRead (Some r) t = AreWithinKind r.kind t
AreWithinRead None t = Unit {0}
