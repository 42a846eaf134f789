-- MEANING: what directions along the coordinate axes stand for.
use Rattle.std.specs.Prelude.{ℤ, pos, negsuc, not, if◌then◌else◌}
use Rattle.std.specs.Ordering.{int_eq}
use Rattle.sn_frame.specs.Matrix.{Vector, Matrix, cross_product}
use Rattle.sn_frame.specs.declared.direction.Axis.{Axis}
use Rattle.sn_frame.specs.declared.direction.Axis.TheVariants.{X, Y, Z}
use Rattle.sn_frame.specs.declared.direction.Sign.{Sign}
use Rattle.sn_frame.specs.declared.direction.Sign.TheVariants.{Plus, Minus}
use Rattle.sn_frame.specs.declared.direction.Direction.{Direction}

abbrev pub sign_value : Sign → ℤ
sign_value Plus = pos 1
sign_value Minus = negsuc 0

-- the vector with this number along this axis
abbrev pub along : Axis → ℤ → Vector
along X s = record { x = s; y = pos 0; z = pos 0 }
along Y s = record { x = pos 0; y = s; z = pos 0 }
along Z s = record { x = pos 0; y = pos 0; z = s }

-- the vector of length 1 in a direction
abbrev pub unit : Direction → Vector
unit d = along d.along (sign_value d.sign)

abbrev pub sign_of : ℤ → Sign
sign_of (pos n) = Plus
sign_of (negsuc n) = Minus

-- the direction of a vector with one number that is not 0
abbrev pub direction_of : Vector → Direction
direction_of v =
    if not (int_eq v.x (pos 0)) then record { along = X; sign = sign_of v.x }
    else (if not (int_eq v.y (pos 0)) then record { along = Y; sign = sign_of v.y }
    else record { along = Z; sign = sign_of v.z })

-- the right-handed matrix with these images of +X and +Z
abbrev pub matrix_of : Direction → Direction → Matrix
matrix_of reference axis =
    record {
      first = unit reference;
      second = cross_product (unit axis) (unit reference);
      third = unit axis;
    }
