-- MEANING (this project's own, after the setups and workpieces of ISO 14649-10): the workpiece, where it stands in the setup,
-- the raw box, and the security height. Values are told by the order in which the row of an instance reads them, from 0.
use Rattle.std.specs.Prelude.{ℕ, ℤ, pos, nat_eq, List, [], map, slice_get, Option, Some, None, unwrap_or, option_map, option_and_then, Result, Ok, Err, if◌then◌else◌}
use Rattle.std.specs.Int.{int_min, int_max}
use Rattle.std.specs.List.{find, reduce, cons_option}
use Rattle.std.specs.Option.{option_or}
use Rattle.sn_geom.specs.declared.units.Pt3.{Pt3}
use Rattle.sn_model.specs.ModelContent.{ModelContent}
use Rattle.sn_refs.specs.Reference.{names_block}
use Rattle.sn_frame.specs.declared.frame.FrameFault.{FrameFault}
use Rattle.sn_frame.specs.declared.frame.FrameFault.TheVariants.{OutOfRange}
use Rattle.sn_frame.specs.Frame.{Transform, applied, identity, is_in_range}
use Rattle.sn_words.specs.declared.options.RawBox.{RawBox}
use Rattle.sn_walk.specs.Node.{main_setup}
use Rattle.sn_feature.specs.Entities.{named, named_if, listed, amount}
use Rattle.sn_feature.specs.Placement.{placement_of, composed_at, plane_height}
use Rattle.sn_feature.specs.Refusal.{◌>>=◌}
use Rattle.sn_feature.specs.Step.{security_of}

-- The workpiece.

-- the first workpiece of the project's list, if it has one
abbrev pub workpiece_of : ModelContent → Option ℕ
workpiece_of m = slice_get (listed m m.project 1) 0

-- the instances that an instance names in a list, and none where there is no instance
abbrev pub listed_of : ModelContent → Option ℕ → ℕ → List ℕ
listed_of m None k = []
listed_of m (Some n) k = listed m n k

-- the first of the setup's WORKPIECE_SETUPs that names the workpiece
abbrev pub workpiece_setup_of : ModelContent → ℕ → Option ℕ
workpiece_setup_of m workpiece = find (λ n. nat_eq (named m n 0) workpiece) (listed_of m (main_setup m) 1)

-- the placement of the workpiece in the setup, if it has one
abbrev pub origin_of : ModelContent → Option ℕ
origin_of m = option_map (λ n. named m n 1) (option_and_then (workpiece_setup_of m) (workpiece_of m))

abbrev pub placement_or_identity : ModelContent → Option ℕ → Result Transform FrameFault
placement_or_identity m None = Ok identity
placement_or_identity m (Some n) = placement_of m n

-- the workpiece's frame in the setup, unless its placement is skew
abbrev pub workpiece_frame : ModelContent → Result Transform FrameFault
workpiece_frame m = placement_or_identity m (origin_of m)

-- The raw box.

abbrev pub block_if : ModelContent → Option ℕ → Option ℕ
block_if m None = None
block_if m (Some n) = if names_block n m then Some n else None

-- the BLOCK that bounds a workpiece, if one does
abbrev pub block_of : ModelContent → ℕ → Option ℕ
block_of m workpiece = block_if m (named_if m workpiece 1)

-- the BLOCK of its rawpiece, and else its own
abbrev pub raw_block_of : ModelContent → ℕ → Option ℕ
raw_block_of m workpiece = option_or (option_and_then (block_of m) (named_if m workpiece 0)) (block_of m workpiece)

-- the BLOCK that bounds the raw material, if there is one
abbrev pub raw_block : ModelContent → Option ℕ
raw_block m = option_and_then (raw_block_of m) (workpiece_of m)

-- the box of two opposite corners
abbrev pub box_of_corners : Pt3 → Pt3 → RawBox
box_of_corners p q =
    record {
      low = record { x = int_min p.x q.x; y = int_min p.y q.y; z = int_min p.z q.z };
      high = record { x = int_max p.x q.x; y = int_max p.y q.y; z = int_max p.z q.z };
    }

-- the corner of a BLOCK that lies opposite to its placement, in the frame of that placement
abbrev pub far_corner : ModelContent → ℕ → Pt3
far_corner m block = record { x = pos (amount m block 1); y = pos (amount m block 2); z = pos (amount m block 3) }

-- where the frame of placement n puts a point, unless that is out of range
abbrev pub applied_at : Transform → ℕ → Pt3 → Result Pt3 FrameFault
applied_at frame n p = let q = applied frame p in if is_in_range q then Ok q else Err (OutOfRange n)

-- The box of a BLOCK in the setup. It has its corner at its placement, which stands in the workpiece's frame. First the
-- placement may be skew, then the composed frame may leave the range, and then the opposite corner.
abbrev pub block_box : ModelContent → Transform → ℕ → Result RawBox FrameFault
block_box m workpiece block = do
  inner ← placement_of m (named m block 0)
  frame ← composed_at workpiece (named m block 0) inner
  far ← applied_at frame (named m block 0) (far_corner m block)
  Ok (box_of_corners frame.shift far)

-- The security height.

-- the height of the security plane of a setup, if it has one
abbrev pub setup_security : ModelContent → Option ℕ → Option ℤ
setup_security m None = None
setup_security m (Some setup) = option_map (plane_height m) (named_if m setup 0)

-- the heights of the security planes of the main setup and of the executed steps, by their locations alone
abbrev pub security_heights : ModelContent → List ℕ → List ℤ
security_heights m steps = cons_option (setup_security m (main_setup m)) (map (security_of m) steps)

-- the greatest of them, and the raw top where there is none
abbrev pub security_height : ModelContent → List ℕ → ℤ → ℤ
security_height m steps raw_top = unwrap_or (reduce int_max (security_heights m steps)) raw_top
