-- Laws of what may be near a segment (this project's own).
use Rattle.std.specs.Prelude.{ℕ}
use Rattle.sn_geom.specs.declared.units.Pt.{Pt}
use Rattle.sn_geom.specs.Sweep.{Near}
use Rattle.sn_raster.specs.Reach.{IsBeside}

-- what is near a segment is in a box about it: on each axis between its ends, or at most half of d, rounded up, outside
-- of them
abbrev pub NearIsInABox : Type 0
NearIsInABox = (d : ℕ) (a b p : Pt) → Near d a b p → IsBeside d a.x b.x p.x × IsBeside d a.y b.y p.y
