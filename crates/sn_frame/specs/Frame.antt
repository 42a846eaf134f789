-- MEANING: frames: what a placement means (axis2_placement_3d of ISO 10303-42, narrowed to directions along the axes).
use Rattle.std.specs.Prelude.{Bool, ◌&&◌, ◌||◌, not, nat_le, ◌==◌, ℤ, pos, ◌+ℤ◌, unsigned_abs, List, [], ◌∷◌, slice_index_or}
use Rattle.std.specs.List.{count_by}
use Rattle.std.specs.Int.{int_signum}
use Rattle.std.specs.Ordering.{int_eq}
use Rattle.sn_geom.specs.declared.units.Pt3.{Pt3}
use Rattle.sn_geom.specs.declared.limits.TheConstants.{REACH}
use Rattle.sn_frame.specs.Matrix.{Vector, Matrix, dot_product, row_x, row_y, row_z, cross_product, product}

-- what a frame does to a point: the matrix, and then the shift
pub record Transform : Type 0 where
  pub matrix : Matrix
  pub shift : Pt3

abbrev pub vector_of : Pt3 → Vector
vector_of p = record { x = p.x; y = p.y; z = p.z }

-- where a frame puts a point
unfoldable pub applied : Transform → Pt3 → Pt3
applied f p =
    record {
      x = dot_product (row_x f.matrix) (vector_of p) +ℤ f.shift.x;
      y = dot_product (row_y f.matrix) (vector_of p) +ℤ f.shift.y;
      z = dot_product (row_z f.matrix) (vector_of p) +ℤ f.shift.z;
    }

-- the inner frame, followed by the outer one
unfoldable pub composed : Transform → Transform → Transform
composed outer inner = record { matrix = product outer.matrix inner.matrix; shift = applied outer inner.shift }

-- the frame maps +Z to +Z
unfoldable pub is_upright : Transform → Bool
is_upright f = int_eq f.matrix.third.x (pos 0) && int_eq f.matrix.third.y (pos 0) && int_eq f.matrix.third.z (pos 1)

-- the frame that leaves every point where it is
abbrev pub identity : Transform
identity =
    record {
      matrix =
          record {
            first = record { x = pos 1; y = pos 0; z = pos 0 };
            second = record { x = pos 0; y = pos 1; z = pos 0 };
            third = record { x = pos 0; y = pos 0; z = pos 1 };
          };
      shift = record { x = pos 0; y = pos 0; z = pos 0 };
    }

-- each coordinate is within the range of coordinates
unfoldable pub is_in_range : Pt3 → Bool
is_in_range p = nat_le (unsigned_abs p.x) REACH && nat_le (unsigned_abs p.y) REACH && nat_le (unsigned_abs p.z) REACH

-- the three ratios of a direction
abbrev pub ratios_of : List ℤ → Vector
ratios_of ratios =
    record {
      x = slice_index_or ratios 0 (pos 0);
      y = slice_index_or ratios 1 (pos 0);
      z = slice_index_or ratios 2 (pos 0);
    }

-- exactly one of the three ratios is not 0
unfoldable pub is_axis : Vector → Bool
is_axis ratios = count_by (λ r. not (int_eq r (pos 0))) (ratios.x ∷ ratios.y ∷ ratios.z ∷ []) == 1

-- the ratios with only their signs kept, which is of length 1 where they are an axis
abbrev pub signs_of : Vector → Vector
signs_of ratios = record { x = int_signum ratios.x; y = int_signum ratios.y; z = int_signum ratios.z }

-- the two lie on one line: their cross product is 0
abbrev pub are_parallel : Vector → Vector → Bool
are_parallel u v =
    let w = cross_product u v in
    int_eq w.x (pos 0) && int_eq w.y (pos 0) && int_eq w.z (pos 0)

-- a direction is no axis, or the axis and the reference direction lie on one line
unfoldable pub is_skew : Vector → Vector → Bool
is_skew axis reference = not (is_axis axis) || not (is_axis reference) || are_parallel (signs_of axis) (signs_of reference)

-- the frame of a placement: the reference direction is the first column, the axis the third, the location the shift
unfoldable pub placed : Pt3 → Vector → Vector → Transform
placed location axis reference =
    record {
      matrix =
          record {
            first = signs_of reference;
            second = cross_product (signs_of axis) (signs_of reference);
            third = signs_of axis;
          };
      shift = location;
    }
