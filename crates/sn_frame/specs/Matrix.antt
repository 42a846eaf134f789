-- MEANING: three by three matrices of whole numbers, and the signed rotations among them (this project's own).
use Rattle.std.specs.Prelude.{◌≡◌, ◌+◌, ℤ, pos, ◌+ℤ◌, ◌-ℤ◌, ◌*ℤ◌, unsigned_abs}

-- three numbers, along X, Y and Z
pub record Vector : Type 0 where
  pub x : ℤ
  pub y : ℤ
  pub z : ℤ

-- a matrix, by its columns
pub record Matrix : Type 0 where
  pub first : Vector
  pub second : Vector
  pub third : Vector

-- the rows of a matrix
abbrev pub row_x : Matrix → Vector
row_x m = record { x = m.first.x; y = m.second.x; z = m.third.x }

abbrev pub row_y : Matrix → Vector
row_y m = record { x = m.first.y; y = m.second.y; z = m.third.y }

abbrev pub row_z : Matrix → Vector
row_z m = record { x = m.first.z; y = m.second.z; z = m.third.z }

-- the sum of the products, number by number
abbrev pub dot_product : Vector → Vector → ℤ
dot_product u v = u.x *ℤ v.x +ℤ u.y *ℤ v.y +ℤ u.z *ℤ v.z

abbrev pub scaled : ℤ → Vector → Vector
scaled s v = record { x = s *ℤ v.x; y = s *ℤ v.y; z = s *ℤ v.z }

-- by the right-hand rule
abbrev pub cross_product : Vector → Vector → Vector
cross_product u v =
    record {
      x = u.y *ℤ v.z -ℤ u.z *ℤ v.y;
      y = u.z *ℤ v.x -ℤ u.x *ℤ v.z;
      z = u.x *ℤ v.y -ℤ u.y *ℤ v.x;
    }

-- a matrix times a vector
abbrev pub image : Matrix → Vector → Vector
image m v = record { x = dot_product (row_x m) v; y = dot_product (row_y m) v; z = dot_product (row_z m) v }

-- a matrix times a matrix
abbrev pub product : Matrix → Matrix → Matrix
product m k = record { first = image m k.first; second = image m k.second; third = image m k.third }

abbrev pub determinant : Matrix → ℤ
determinant m = dot_product m.first (cross_product m.second m.third)

-- one of the three numbers is 1 or -1 and the other two are 0: their sizes add up to 1
abbrev pub IsSignedUnit : Vector → Type 0
IsSignedUnit v = unsigned_abs v.x + unsigned_abs v.y + unsigned_abs v.z ≡ 1

-- each row and each column has one 1 or -1 and is 0 elsewhere, and the determinant is 1
pub record IsSignedRotation (m : Matrix) : Type 0 where
  pub first : IsSignedUnit m.first
  pub second : IsSignedUnit m.second
  pub third : IsSignedUnit m.third
  pub row_x : IsSignedUnit (row_x m)
  pub row_y : IsSignedUnit (row_y m)
  pub row_z : IsSignedUnit (row_z m)
  pub determinant : determinant m ≡ pos 1
