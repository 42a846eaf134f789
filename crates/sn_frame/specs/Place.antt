-- PRIVATE: places on the way to a point, which may lie outside the range of coordinates.
use Rattle.std.specs.Prelude.{◌≡◌, ℕ, ◌≤◌, ℤ, ◌+ℤ◌, ◌*ℤ◌, unsigned_abs}
use Rattle.sn_geom.specs.declared.units.Pt3.{Pt3}
use Rattle.sn_frame.specs.Matrix.{Vector}
use Rattle.sn_frame.specs.declared.place.Place.{Place}

-- each coordinate is at most so large
pub record IsWithin (limit : ℕ) (p : Place) : Type 0 where
  pub x : unsigned_abs p.x ≤ limit
  pub y : unsigned_abs p.y ≤ limit
  pub z : unsigned_abs p.z ≤ limit

-- the second place is so many times u away from the first
pub record IsMoved (from to : Place) (u : Vector) (distance : ℤ) : Type 0 where
  pub x : to.x ≡ from.x +ℤ u.x *ℤ distance
  pub y : to.y ≡ from.y +ℤ u.y *ℤ distance
  pub z : to.z ≡ from.z +ℤ u.z *ℤ distance

abbrev pub point_of : Place → Pt3
point_of p = record { x = p.x; y = p.y; z = p.z }
