-- The common instances are sound, and their numbers rise up to 23.
use Rattle.std.proofs.Common.{ℕ, List, [], ◌++◌, codes, refl, lit<, lit≤}
use Rattle.std.specs.List.{AllByRecursion}
use Rattle.sn_lex.specs.Form.{AreDigits, IsName, IsInstanceNumber}
use Rattle.sn_p21.specs.declared.file.Param.{Param}
use Rattle.sn_p21.specs.declared.file.Param.TheVariants as param
use Rattle.sn_report.specs.Generated.{none, real, placement, size, project, workplan, workpiece, setup, block, security, workpiece_setup, project_instances, above_origin, origin_instances, tool, tool_body, mill_dimension, drill_dimension, technology, tool_instances, course, shared_instances, common_instances}
use Rattle.sn_report.proofs.Climbing.{Climbs}
use Rattle.sn_report.proofs.Sound.{IsSound, join_all, text_sound, none_sound, ref_sound, enum_sound, int_sound, real_sound, negative_sound, list_sound, numbers_sound, IsSoundInstance, AreSoundInstances, simple_sound}

-- Parameters.

no : IsSound 1 none
no = none_sound 1

empty : IsSound 1 (param.List [])
empty = list_sound [] tt

-- digits and a point
point_sound : (depth : ℕ) (digits : List ℕ) → AreDigits digits → IsSound depth (param.Real (digits ++ codes "."))
point_sound depth digits are = real_sound depth digits [] are refl

zero_sound : (depth : ℕ) → IsSound depth (real "0.")
zero_sound depth = point_sound depth (codes "0") (lit< tt, refl)

f_sound : IsSound 1 (param.Enum (codes "F"))
f_sound = enum_sound 1 (codes "F") (refl, refl)

pub placement_sound : (n at : ℕ) → IsInstanceNumber n → IsInstanceNumber at → IsSoundInstance (placement n at)
placement_sound n at is is_at = simple_sound n (codes "AXIS2_PLACEMENT_3D") _ is (refl, refl) (text_sound 1 [], (ref_sound 1 at is_at, (no, (no, tt))))

-- Instances.

project_sound : IsSoundInstance project
project_sound =
    simple_sound 1 (codes "PROJECT") _ (lit< tt, lit< tt) (refl, refl)
    (text_sound 1 (codes "TRIAL"), (ref_sound 1 2 (lit< tt, lit< tt), (list_sound _ (ref_sound 0 3 (lit< tt, lit< tt), tt), (no, (no, (no, tt))))))

workplan_sound : (steps : List ℕ) → AllByRecursion IsInstanceNumber steps → IsSoundInstance (workplan steps)
workplan_sound steps are =
    simple_sound 2 (codes "WORKPLAN") _ (lit< tt, lit< tt) (refl, refl)
    (text_sound 1 (codes "MAIN"), (list_sound _ (numbers_sound 0 steps are), (no, (ref_sound 1 4 (lit< tt, lit< tt), (no, tt)))))

workpiece_sound : IsSoundInstance workpiece
workpiece_sound =
    simple_sound 3 (codes "WORKPIECE") _ (lit< tt, lit< tt) (refl, refl)
    (text_sound 1 (codes "BLOCK"), (no, (no, (no, (no, (ref_sound 1 5 (lit< tt, lit< tt), (empty, tt)))))))

setup_sound : IsSoundInstance setup
setup_sound =
    simple_sound 4 (codes "SETUP") _ (lit< tt, lit< tt) (refl, refl)
    (text_sound 1 (codes "SETUP"), (no, (ref_sound 1 6 (lit< tt, lit< tt), (list_sound _ (ref_sound 0 7 (lit< tt, lit< tt), tt), tt))))

block_sound : IsSoundInstance block
block_sound =
    simple_sound 5 (codes "BLOCK") _ (lit< tt, lit< tt) (refl, refl)
    (text_sound 1 (codes "RAW"), (ref_sound 1 8 (lit< tt, lit< tt), (point_sound 1 (codes "160") (lit< tt, refl), (point_sound 1 (codes "160") (lit< tt, refl), (point_sound 1 (codes "20") (lit< tt, refl), tt)))))

security_sound : IsSoundInstance security
security_sound = simple_sound 6 (codes "PLANE") _ (lit< tt, lit< tt) (refl, refl) (text_sound 1 (codes "SECURITY"), (ref_sound 1 9 (lit< tt, lit< tt), tt))

workpiece_setup_sound : IsSoundInstance workpiece_setup
workpiece_setup_sound =
    simple_sound 7 (codes "WORKPIECE_SETUP") _ (lit< tt, lit< tt) (refl, refl)
    (ref_sound 1 3 (lit< tt, lit< tt), (ref_sound 1 8 (lit< tt, lit< tt), (no, (no, (empty, tt)))))

above_origin_sound : (n : ℕ) (height : List ℕ) → IsInstanceNumber n → AreDigits height → IsSoundInstance (above_origin n (height ++ codes "."))
above_origin_sound n height is are =
    simple_sound n (codes "CARTESIAN_POINT") _ is (refl, refl)
    (text_sound 1 [], (list_sound _ (zero_sound 0, (zero_sound 0, (point_sound 0 height are, tt))), tt))

tool_sound : (n : ℕ) (name : List ℕ) (body : ℕ) → IsInstanceNumber n → IsInstanceNumber body → IsSoundInstance (tool n name body)
tool_sound n name body is is_body =
    simple_sound n (codes "CUTTING_TOOL") _ is (refl, refl)
    (text_sound 1 name, (ref_sound 1 body is_body, (empty, (point_sound 1 (codes "80") (lit< tt, refl), (no, (no, tt))))))

tool_body_sound : (n : ℕ) (keyword : List ℕ) (dimension : ℕ) (teeth : List ℕ) → IsInstanceNumber n → IsName keyword → IsInstanceNumber dimension → AreDigits teeth → IsSoundInstance (tool_body n keyword dimension teeth)
tool_body_sound n keyword dimension teeth is named is_dimension are =
    simple_sound n keyword _ is named
    (ref_sound 1 dimension is_dimension, (int_sound 1 teeth are, (enum_sound 1 (codes "RIGHT") (refl, refl), (f_sound, (no, (no, tt))))))

mill_dimension_sound : IsSoundInstance mill_dimension
mill_dimension_sound =
    simple_sound 14 (codes "MILLING_TOOL_DIMENSION") _ (lit< tt, lit< tt) (refl, refl)
    (point_sound 1 (codes "8") (lit< tt, refl), (no, (no, (point_sound 1 (codes "30") (lit< tt, refl), (zero_sound 1, (no, (no, tt)))))))

drill_dimension_sound : IsSoundInstance drill_dimension
drill_dimension_sound =
    simple_sound 17 (codes "MILLING_TOOL_DIMENSION") _ (lit< tt, lit< tt) (refl, refl)
    (point_sound 1 (codes "10") (lit< tt, refl), (no, (no, (point_sound 1 (codes "60") (lit< tt, refl), (no, (no, (no, tt)))))))

technology_sound : IsSoundInstance technology
technology_sound =
    simple_sound 18 (codes "MILLING_TECHNOLOGY") _ (lit< tt, lit< tt) (refl, refl)
    (real_sound 1 (codes "0") (codes "02") (lit< tt, refl) refl, (enum_sound 1 (codes "TCP") (refl, refl), (no, (negative_sound 1 (codes "50") (lit< tt, refl), (no, (f_sound, (f_sound, (f_sound, (no, tt)))))))))

course_sound : IsSoundInstance course
course_sound =
    simple_sound 19 (codes "DIRECTION") _ (lit< tt, lit< tt) (refl, refl)
    (text_sound 1 [], (list_sound _ (point_sound 0 (codes "1") (lit< tt, refl), (zero_sound 0, (zero_sound 0, tt))), tt))

pub size_sound : (n : ℕ) (p : Param) → IsInstanceNumber n → IsSound 1 p → IsSoundInstance (size n p)
size_sound n p is sound = simple_sound n (codes "TOLERANCED_LENGTH_MEASURE") _ is (refl, refl) (sound, (no, tt))

-- All of them.

project_rows_sound : (steps : List ℕ) → AllByRecursion IsInstanceNumber steps → AreSoundInstances (project_instances steps)
project_rows_sound steps are = (project_sound, (workplan_sound steps are, (workpiece_sound, (setup_sound, (block_sound, (security_sound, (workpiece_setup_sound, tt)))))))

origin_rows_sound : AreSoundInstances origin_instances
origin_rows_sound = (
  placement_sound 8 10 (lit< tt, lit< tt) (lit< tt, lit< tt),
  (
    placement_sound 9 11 (lit< tt, lit< tt) (lit< tt, lit< tt),
    (
      above_origin_sound 10 (codes "0") (lit< tt, lit< tt) (lit< tt, refl),
      (above_origin_sound 11 (codes "30") (lit< tt, lit< tt) (lit< tt, refl), tt),
    ),
  ),
)

tool_rows_sound : AreSoundInstances tool_instances
tool_rows_sound = (
  tool_sound 12 (codes "MILL") 13 (lit< tt, lit< tt) (lit< tt, lit< tt),
  (
    tool_body_sound 13 (codes "ENDMILL") 14 (codes "4") (lit< tt, lit< tt) (refl, refl) (lit< tt, lit< tt) (lit< tt, refl),
    (
      mill_dimension_sound,
      (
        tool_sound 15 (codes "DRILL") 16 (lit< tt, lit< tt) (lit< tt, lit< tt),
        (
          tool_body_sound 16 (codes "TWIST_DRILL") 17 (codes "2") (lit< tt, lit< tt) (refl, refl) (lit< tt, lit< tt) (lit< tt, refl),
          (drill_dimension_sound, (technology_sound, tt)),
        ),
      ),
    ),
  ),
)

shared_rows_sound : AreSoundInstances shared_instances
shared_rows_sound = (
  course_sound,
  (
    simple_sound 20 (codes "THROUGH_BOTTOM_CONDITION") [] (lit< tt, lit< tt) (refl, refl) tt,
    (
      simple_sound 21 (codes "PLANAR_POCKET_BOTTOM_CONDITION") [] (lit< tt, lit< tt) (refl, refl) tt,
      (
        size_sound 22 _ (lit< tt, lit< tt) (point_sound 1 (codes "10") (lit< tt, refl)),
        (size_sound 23 _ (lit< tt, lit< tt) (point_sound 1 (codes "8") (lit< tt, refl)), tt),
      ),
    ),
  ),
)

pub common_sound : (steps : List ℕ) → AllByRecursion IsInstanceNumber steps → AreSoundInstances (common_instances steps)
common_sound steps are =
    let front = join_all IsSoundInstance (project_instances steps) origin_instances (project_rows_sound steps are) origin_rows_sound in
    join_all IsSoundInstance (project_instances steps ++ origin_instances ++ tool_instances) shared_instances
    (join_all IsSoundInstance (project_instances steps ++ origin_instances) tool_instances front tool_rows_sound)
    shared_rows_sound

pub common_climbs : (steps : List ℕ) → Climbs 0 100 (common_instances steps)
common_climbs steps = (lit≤ tt, (lit≤ tt, (lit≤ tt, (lit≤ tt, (lit≤ tt, (lit≤ tt, (lit≤ tt, (lit≤ tt, (lit≤ tt, (lit≤ tt, (lit≤ tt, (lit≤ tt, (lit≤ tt, (lit≤ tt, (lit≤ tt, (lit≤ tt, (lit≤ tt, (lit≤ tt, (lit≤ tt, (lit≤ tt, (lit≤ tt, (lit≤ tt, (lit≤ tt, lit≤ tt)))))))))))))))))))))))
