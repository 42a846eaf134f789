-- MEANING: the part that is generated from a number, its seed (this project's own).
use Rattle.std.specs.Prelude.{ℕ, zero, suc, ◌+◌, ◌*◌, ◌/◌, ◌%◌, ◌^◌, ◌==◌, List, [], ◌∷◌, ◌++◌, codes, decimal, map, replicate, if◌then◌else◌}
use Prim.Native.String.{String}
use Rattle.sn_p21.specs.Content.{Content}
use Rattle.sn_p21.specs.OneSection.{in_one_section}
use Rattle.sn_p21.specs.declared.file.Entity.{Entity}
use Rattle.sn_p21.specs.declared.file.Instance.{Instance}
use Rattle.sn_p21.specs.declared.file.Param.{Param}
use Rattle.sn_p21.specs.declared.file.Param.TheVariants as param
use Rattle.sn_report.specs.declared.feature.Feature.{Feature}
use Rattle.sn_report.specs.declared.feature.Feature.TheVariants.{Hole, Pocket, Slot}

-- Draws: numbers of 32 bits by a linear generator, of which the upper half is used.

abbrev pub next : ℕ → ℕ
next x = (x * 1664525 + 1013904223) % (2 ^ 32)

-- what a state gives, below n
abbrev pub drawn : ℕ → ℕ → ℕ
drawn x n = (x / 65536) % n

-- Features: a through hole of 10 mm; a pocket with its width, its length and its depth; a slot of 8 mm with its length
-- and its depth.

-- the feature that is drawn from a state on, and the state after it: its kind first
abbrev pub draw_feature : ℕ → Feature × ℕ
draw_feature x =
    let kind = next x in
    let first = next kind in
    let second = next first in
    let third = next second in
    (if drawn kind 3 == 0 then (Hole, kind)
    else (if drawn kind 3 == 1 then (Pocket (12 + drawn first 9) (12 + drawn second 9) (4 + drawn third 5), third)
    else (Slot (4 + drawn first 12) (3 + drawn second 4), second)))

-- so many features, from a state on
unfoldable pub draw_features : ℕ → ℕ → List Feature
draw_features zero x = []
draw_features (suc n) x = (draw_feature x).0 ∷ draw_features n (draw_feature x).1

abbrev pub feature_count : ℕ
feature_count = 16

-- Instances.

abbrev pub text : String → Param
text s = param.Text (codes s)

abbrev pub real : String → Param
real s = param.Real (codes s)

-- a whole number as a real
abbrev pub whole : ℕ → Param
whole n = param.Real (decimal n ++ codes ".")

abbrev pub below_zero : ℕ → Param
below_zero n = param.Real (codes "-" ++ decimal n ++ codes ".")

abbrev pub to : ℕ → Param
to n = param.Ref n

abbrev pub none : Param
none = param.Absent

abbrev pub entity : String → List Param → Entity
entity keyword params = record { keyword = codes keyword; params = params }

-- an instance of one part
abbrev pub simple : ℕ → List ℕ → List Param → Instance
simple n keyword params = record { number = n; parts = (record { keyword = keyword; params = params }) ∷ [] }

abbrev pub instance : ℕ → String → List Param → Instance
instance n keyword params = simple n (codes keyword) params

abbrev pub point : ℕ → List Param → Instance
point n coordinates = instance n "CARTESIAN_POINT" (text "" ∷ param.List coordinates ∷ [])

-- a placement at a point, along the axes
abbrev pub placement : ℕ → ℕ → Instance
placement n at = instance n "AXIS2_PLACEMENT_3D" (text "" ∷ to at ∷ none ∷ none ∷ [])

-- so many parameters without a value
abbrev pub nones : ℕ → List Param
nones n = replicate n none

-- the parameters of an operation: two before its tool, its tool, its technology, and these behind it
abbrev pub operation_params : ℕ → List Param → List Param
operation_params tool behind = none ∷ none ∷ text "" ∷ none ∷ none ∷ to tool ∷ to 18 ∷ behind

-- those of a feature: its name, its workpiece, its operations (none are named), its placement, its depth, and these behind it
abbrev pub feature_params : ℕ → List Param → List Param
feature_params n behind = text "" ∷ to 3 ∷ param.List [] ∷ to (n + 1) ∷ to (n + 3) ∷ behind

abbrev pub workingstep : ℕ → ℕ → ℕ → Instance
workingstep n feature operation = instance n "MACHINING_WORKINGSTEP" (text "" ∷ to 6 ∷ to feature ∷ to operation ∷ none ∷ [])

abbrev pub size : ℕ → Param → Instance
size n value = instance n "TOLERANCED_LENGTH_MEASURE" (value ∷ none ∷ [])

-- Each feature has twenty numbers of its own, from this one on, and stands in a square of 40 mm.

abbrev pub first_number : ℕ → ℕ
first_number place = 100 + 20 * place

abbrev pub x_of : ℕ → ℕ
x_of place = 20 + 40 * (place % 4)

abbrev pub y_of : ℕ → ℕ
y_of place = 20 + 40 * (place / 4)

abbrev pub depth_of : Feature → ℕ
depth_of Hole = 20
depth_of (Pocket width length depth) = depth
depth_of (Slot length depth) = depth

-- where a feature stands, and the height of its floor below that
abbrev pub corner_of : ℕ → ℕ → Instance
corner_of number place = point number (whole (x_of place) ∷ whole (y_of place) ∷ real "20." ∷ [])

abbrev pub bottom_of : ℕ → Feature → Instance
bottom_of number feature = point number (real "0." ∷ real "0." ∷ below_zero (depth_of feature) ∷ [])

-- the placement of a feature and the plane of its depth
abbrev pub places_of : ℕ → ℕ → Feature → List Instance
places_of place n feature =
    placement (n + 1) (n + 2)
    ∷ corner_of (n + 2) place
    ∷ instance (n + 3) "PLANE" (text "" ∷ to (n + 4) ∷ [])
    ∷ placement (n + 4) (n + 5)
    ∷ bottom_of (n + 5) feature
    ∷ []

abbrev pub head_of : ℕ → Feature → Instance
head_of n Hole = instance n "ROUND_HOLE" (feature_params n (to 22 ∷ none ∷ to 20 ∷ []))
head_of n (Pocket width length depth) = instance n "CLOSED_POCKET" (feature_params n (param.List [] ∷ none ∷ to 21 ∷ none ∷ none ∷ to (n + 6) ∷ []))
head_of n (Slot length depth) = instance n "SLOT" (feature_params n (to (n + 6) ∷ to (n + 7) ∷ param.List [] ∷ []))

-- the operation and the workingstep of a hole
abbrev pub hole_rest : ℕ → List Instance
hole_rest n =
    instance (n + 6) "DRILLING" (operation_params 15 (nones 7))
    ∷ workingstep (n + 7) n (n + 6)
    ∷ []

-- the parameters of the roughing and of the finishing of a pocket: axial and radial depth, side and bottom allowance
abbrev pub roughing_params : List Param
roughing_params = operation_params 12 (nones 5 ++ real "3." ∷ real "4." ∷ real "0.5" ∷ real "0.5" ∷ [])

abbrev pub finishing_params : List Param
finishing_params = operation_params 12 (nones 5 ++ real "5." ∷ real "4." ∷ none ∷ none ∷ [])

-- those of the milling of a slot
abbrev pub slot_params : List Param
slot_params = operation_params 12 (nones 5 ++ real "2." ∷ none ∷ none ∷ none ∷ [])

-- the outline of a pocket, its operations and its workingsteps
abbrev pub pocket_rest : ℕ → ℕ → ℕ → List Instance
pocket_rest n width length =
    instance (n + 6) "RECTANGULAR_CLOSED_PROFILE" (none ∷ to (n + 7) ∷ to (n + 8) ∷ [])
    ∷ size (n + 7) (whole width)
    ∷ size (n + 8) (whole length)
    ∷ instance (n + 9) "BOTTOM_AND_SIDE_ROUGH_MILLING" roughing_params
    ∷ instance (n + 10) "BOTTOM_AND_SIDE_FINISH_MILLING" finishing_params
    ∷ workingstep (n + 11) n (n + 9)
    ∷ workingstep (n + 12) n (n + 10)
    ∷ []

-- the course and the profile of a slot, its operation and its workingstep
abbrev pub slot_rest : ℕ → ℕ → List Instance
slot_rest n length =
    instance (n + 6) "LINEAR_PATH" (none ∷ to (n + 8) ∷ to 19 ∷ [])
    ∷ instance (n + 7) "SQUARE_U_PROFILE" (none ∷ to 23 ∷ none ∷ none ∷ none ∷ none ∷ [])
    ∷ size (n + 8) (whole length)
    ∷ instance (n + 9) "BOTTOM_AND_SIDE_FINISH_MILLING" slot_params
    ∷ workingstep (n + 10) n (n + 9)
    ∷ []

abbrev pub rest_of : ℕ → Feature → List Instance
rest_of n Hole = hole_rest n
rest_of n (Pocket width length depth) = pocket_rest n width length
rest_of n (Slot length depth) = slot_rest n length

abbrev pub instances_of : ℕ → Feature → List Instance
instances_of place feature =
    head_of (first_number place) feature ∷ places_of place (first_number place) feature ++ rest_of (first_number place) feature

-- the numbers of the workingsteps of a feature
abbrev pub steps_of : ℕ → Feature → List ℕ
steps_of n Hole = (n + 7) ∷ []
steps_of n (Pocket width length depth) = (n + 11) ∷ (n + 12) ∷ []
steps_of n (Slot length depth) = (n + 10) ∷ []

-- the instances of features that stand at places from this one on, and the numbers of their workingsteps
abbrev pub instances_from : ℕ → List Feature → List Instance
instances_from place [] = []
instances_from place (feature ∷ features) = instances_of place feature ++ instances_from (place + 1) features

abbrev pub steps_from : ℕ → List Feature → List ℕ
steps_from place [] = []
steps_from place (feature ∷ features) = steps_of (first_number place) feature ++ steps_from (place + 1) features

-- Common instances.

abbrev pub project : Instance
project = instance 1 "PROJECT" (text "TRIAL" ∷ to 2 ∷ param.List (to 3 ∷ []) ∷ none ∷ none ∷ none ∷ [])

abbrev pub workplan : List ℕ → Instance
workplan steps = instance 2 "WORKPLAN" (text "MAIN" ∷ param.List (map to steps) ∷ none ∷ to 4 ∷ none ∷ [])

abbrev pub workpiece : Instance
workpiece = instance 3 "WORKPIECE" (text "BLOCK" ∷ none ∷ none ∷ none ∷ none ∷ to 5 ∷ param.List [] ∷ [])

abbrev pub setup : Instance
setup = instance 4 "SETUP" (text "SETUP" ∷ none ∷ to 6 ∷ param.List (to 7 ∷ []) ∷ [])

-- 160 by 160 by 20 mm
abbrev pub block : Instance
block = instance 5 "BLOCK" (text "RAW" ∷ to 8 ∷ real "160." ∷ real "160." ∷ real "20." ∷ [])

abbrev pub security : Instance
security = instance 6 "PLANE" (text "SECURITY" ∷ to 9 ∷ [])

abbrev pub workpiece_setup : Instance
workpiece_setup = instance 7 "WORKPIECE_SETUP" (to 3 ∷ to 8 ∷ none ∷ none ∷ param.List [] ∷ [])

abbrev pub project_instances : List ℕ → List Instance
project_instances steps = project ∷ workplan steps ∷ workpiece ∷ setup ∷ block ∷ security ∷ workpiece_setup ∷ []

-- the point at this height above the origin
abbrev pub above_origin : ℕ → List ℕ → Instance
above_origin n height = point n (real "0." ∷ real "0." ∷ param.Real height ∷ [])

-- the origin, and the place of the security plane
abbrev pub origin_instances : List Instance
origin_instances = placement 8 10 ∷ placement 9 11 ∷ above_origin 10 (codes "0.") ∷ above_origin 11 (codes "30.") ∷ []

-- a tool with its name and its body
abbrev pub tool : ℕ → List ℕ → ℕ → Instance
tool n name body = instance n "CUTTING_TOOL" (param.Text name ∷ to body ∷ param.List [] ∷ real "80." ∷ none ∷ none ∷ [])

-- a body with its keyword, its dimension and its teeth
abbrev pub tool_body : ℕ → List ℕ → ℕ → List ℕ → Instance
tool_body n keyword dimension teeth =
    simple n keyword (to dimension ∷ param.Int teeth ∷ param.Enum (codes "RIGHT") ∷ param.Enum (codes "F") ∷ none ∷ none ∷ [])

abbrev pub mill_dimension : Instance
mill_dimension = instance 14 "MILLING_TOOL_DIMENSION" (real "8." ∷ none ∷ none ∷ real "30." ∷ real "0." ∷ none ∷ none ∷ [])

abbrev pub drill_dimension : Instance
drill_dimension = instance 17 "MILLING_TOOL_DIMENSION" (real "10." ∷ none ∷ none ∷ real "60." ∷ none ∷ none ∷ none ∷ [])

-- the technology of all operations
abbrev pub technology : Instance
technology =
    instance 18 "MILLING_TECHNOLOGY"
    (real "0.02" ∷ param.Enum (codes "TCP") ∷ none ∷ real "-50." ∷ none ∷ param.Enum (codes "F") ∷ param.Enum (codes "F") ∷ param.Enum (codes "F") ∷ none ∷ [])

abbrev pub tool_instances : List Instance
tool_instances =
    tool 12 (codes "MILL") 13
    ∷ tool_body 13 (codes "ENDMILL") 14 (codes "4")
    ∷ mill_dimension
    ∷ tool 15 (codes "DRILL") 16
    ∷ tool_body 16 (codes "TWIST_DRILL") 17 (codes "2")
    ∷ drill_dimension
    ∷ technology
    ∷ []

-- the direction of the slots
abbrev pub course : Instance
course = instance 19 "DIRECTION" (text "" ∷ param.List (real "1." ∷ real "0." ∷ real "0." ∷ []) ∷ [])

-- what the features share: the direction, the bottoms, the diameter of the holes and the width of the slots
abbrev pub shared_instances : List Instance
shared_instances =
    course
    ∷ instance 20 "THROUGH_BOTTOM_CONDITION" []
    ∷ instance 21 "PLANAR_POCKET_BOTTOM_CONDITION" []
    ∷ size 22 (real "10.")
    ∷ size 23 (real "8.")
    ∷ []

abbrev pub common_instances : List ℕ → List Instance
common_instances steps = project_instances steps ++ origin_instances ++ tool_instances ++ shared_instances

-- The file.

-- a list of one string
abbrev pub texts : List ℕ → Param
texts value = param.List (param.Text value ∷ [])

abbrev pub description : Entity
description = entity "FILE_DESCRIPTION" (texts (codes "one hole") ∷ text "1" ∷ [])

abbrev pub file_name : Entity
file_name = entity "FILE_NAME" (text "one.stp" ∷ text "2024-01-01" ∷ texts (codes "a") ∷ texts (codes "b") ∷ text "" ∷ text "" ∷ text "" ∷ [])

abbrev pub schema_names : Param
schema_names = param.List (text "MACHINING_SCHEMA" ∷ text "MILLING_SCHEMA" ∷ [])

abbrev pub schema : Entity
schema = entity "FILE_SCHEMA" (schema_names ∷ [])

abbrev pub header : List Entity
header = description ∷ file_name ∷ schema ∷ []

-- the instances of the part of these features
abbrev pub rows_of : List Feature → List Instance
rows_of features = common_instances (steps_from 0 features) ++ instances_from 0 features

-- that part
abbrev pub part_of : List Feature → Content
part_of features = in_one_section header (rows_of features)

-- the part of a seed
unfoldable pub generated : ℕ → Content
generated seed = part_of (draw_features feature_count seed)
