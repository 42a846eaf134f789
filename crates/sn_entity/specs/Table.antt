-- MEANING (keywords after ISO 14649-10, ISO 14649-11 and the standards that they use; places, kinds and limits are this
-- project's own): the table of entities, with the keyword of each row and the parameters that it reads by their places,
-- which count from 1.
use Rattle.std.specs.Prelude.{◌≡◌, ◌⊎◌, ℕ, true, false, List, [], ◌∷◌, codes}
use Rattle.sn_entity.specs.declared.row.RowId.{RowId}
use Rattle.sn_entity.specs.declared.row.RowId.TheVariants.{Project, Workplan, IfStatement, NonSequential, MachiningWorkingstep, Setup, WorkpieceSetup, Workpiece, Block, PlanarFace, ClosedPocket, Slot, RoundHole, Boss, PlaneRoughMilling, PlaneFinishMilling, BottomAndSideRoughMilling, BottomAndSideFinishMilling, Drilling, CuttingTool, MillingCuttingTool, Endmill, TwistDrill, MillingToolDimension, MillingTechnology, Axis2Placement3d, CartesianPoint, Direction, Plane, ElementarySurface, TolerancedLengthMeasure, NumericParameter, LinearPath, GeneralPath, Polyline, LinearProfile, SquareUProfile, GeneralClosedProfile, RectangularClosedProfile, CircularClosedProfile, RadiusedSlotEndType, ThroughBottomCondition, FlatHoleBottom, ConicalHoleBottom, PlanarPocketBottomCondition, ThroughPocketBottomCondition, AndExpression, OrExpression, XorExpression, NotExpression, ComparisonEqual, ComparisonNotEqual, ComparisonLess, ComparisonLessEqual, ComparisonGreater, ComparisonGreaterEqual, NcVariable, NcConstant}
use Rattle.sn_entity.specs.declared.row.Group.{Group}
use Rattle.sn_entity.specs.declared.row.Group.TheVariants.{One, Exec, Feat, Op, Tool, Body, Surf, Len, Path, Prof, Hbot, Pbot, Cond, Val, Island}
use Rattle.sn_entity.specs.declared.row.Kind.{Kind}
use Rattle.sn_entity.specs.declared.row.Kind.TheVariants.{L0, L1, Dia, Edge, Feed, Speed, N, P, V, T, Z, Z0, R, RL, B}
use Rattle.sn_entity.specs.declared.row.Read.{Read}

pub record Line : Type 0 where
  pub name : List ℕ
  pub reads : List Read

abbrev pub line : List ℕ → List Read → Line
line name reads = record { name = name; reads = reads }

-- the parameter at this place
abbrev pub at : ℕ → Kind → Read
at place kind = record { place = place; kind = kind; may_lack = false }

-- the same, where $ or * may stand too
abbrev pub may : ℕ → Kind → Read
may place kind = record { place = place; kind = kind; may_lack = true }

abbrev pub plane_milling : List Read
plane_milling = at 6 (R Tool) ∷ at 7 (R (One MillingTechnology)) ∷ may 13 L1 ∷ may 14 L0 ∷ []

abbrev pub side_milling : List Read
side_milling = at 6 (R Tool) ∷ at 7 (R (One MillingTechnology)) ∷ may 13 L1 ∷ may 14 L1 ∷ may 15 L0 ∷ may 16 L0 ∷ []

abbrev pub cutting_tool : List Read
cutting_tool = at 2 (R Body) ∷ may 4 L1 ∷ []

abbrev pub comparison : List Read
comparison = at 1 (R Val) ∷ at 2 (R Val) ∷ []

abbrev pub line_of : RowId → Line
line_of Project = line (codes "PROJECT") (at 2 (R (One Workplan)) ∷ at 3 (RL (One Workpiece)) ∷ [])
line_of Workplan = line (codes "WORKPLAN") (at 2 (RL Exec) ∷ may 4 (R (One Setup)) ∷ [])
line_of IfStatement = line (codes "IF_STATEMENT") (at 2 (R Cond) ∷ at 3 (R Exec) ∷ may 4 (R Exec) ∷ [])
line_of NonSequential = line (codes "NON_SEQUENTIAL") (at 2 (RL Exec) ∷ [])
line_of MachiningWorkingstep = line (codes "MACHINING_WORKINGSTEP") (at 2 (R Surf) ∷ at 3 (R Feat) ∷ at 4 (R Op) ∷ [])
line_of Setup = line (codes "SETUP") (may 3 (R Surf) ∷ at 4 (RL (One WorkpieceSetup)) ∷ [])
line_of WorkpieceSetup = line (codes "WORKPIECE_SETUP") (at 1 (R (One Workpiece)) ∷ at 2 (R (One Axis2Placement3d)) ∷ [])
line_of Workpiece = line (codes "WORKPIECE") (may 4 (R (One Workpiece)) ∷ at 6 B ∷ [])
line_of Block = line (codes "BLOCK") (at 2 (R (One Axis2Placement3d)) ∷ at 3 L1 ∷ at 4 L1 ∷ at 5 L1 ∷ [])
line_of PlanarFace = line (codes "PLANAR_FACE") (at 4 (R (One Axis2Placement3d)) ∷ at 5 (R Surf) ∷ at 6 (R (One LinearPath)) ∷ at 7 (R (One LinearProfile)) ∷ at 8 Z ∷ at 9 (RL Island) ∷ [])
line_of ClosedPocket = line (codes "CLOSED_POCKET") (at 4 (R (One Axis2Placement3d)) ∷ at 5 (R Surf) ∷ at 6 (RL Island) ∷ at 7 Z0 ∷ at 8 (R Pbot) ∷ may 9 (R (One TolerancedLengthMeasure)) ∷ may 10 (R (One TolerancedLengthMeasure)) ∷ at 11 (R Prof) ∷ [])
line_of Slot = line (codes "SLOT") (at 4 (R (One Axis2Placement3d)) ∷ at 5 (R Surf) ∷ at 6 (R Path) ∷ at 7 (R (One SquareUProfile)) ∷ at 8 (RL (One RadiusedSlotEndType)) ∷ [])
line_of RoundHole = line (codes "ROUND_HOLE") (at 4 (R (One Axis2Placement3d)) ∷ at 5 (R Surf) ∷ at 6 (R Len) ∷ at 7 Z ∷ at 8 (R Hbot) ∷ [])
line_of Boss = line (codes "BOSS") (at 4 (R (One Axis2Placement3d)) ∷ at 5 (R Surf) ∷ at 6 (R Prof) ∷ at 7 Z0 ∷ [])
line_of PlaneRoughMilling = line (codes "PLANE_ROUGH_MILLING") plane_milling
line_of PlaneFinishMilling = line (codes "PLANE_FINISH_MILLING") plane_milling
line_of BottomAndSideRoughMilling = line (codes "BOTTOM_AND_SIDE_ROUGH_MILLING") side_milling
line_of BottomAndSideFinishMilling = line (codes "BOTTOM_AND_SIDE_FINISH_MILLING") side_milling
line_of Drilling = line (codes "DRILLING") (at 6 (R Tool) ∷ at 7 (R (One MillingTechnology)) ∷ [])
line_of CuttingTool = line (codes "CUTTING_TOOL") cutting_tool
line_of MillingCuttingTool = line (codes "MILLING_CUTTING_TOOL") cutting_tool
line_of Endmill = line (codes "ENDMILL") (at 1 (R (One MillingToolDimension)) ∷ [])
line_of TwistDrill = line (codes "TWIST_DRILL") (at 1 (R (One MillingToolDimension)) ∷ [])
line_of MillingToolDimension = line (codes "MILLING_TOOL_DIMENSION") (at 1 Dia ∷ may 5 Edge ∷ [])
line_of MillingTechnology = line (codes "MILLING_TECHNOLOGY") (at 1 Feed ∷ at 4 Speed ∷ [])
line_of Axis2Placement3d = line (codes "AXIS2_PLACEMENT_3D") (at 2 (R (One CartesianPoint)) ∷ may 3 (R (One Direction)) ∷ may 4 (R (One Direction)) ∷ [])
line_of CartesianPoint = line (codes "CARTESIAN_POINT") (at 2 P ∷ [])
line_of Direction = line (codes "DIRECTION") (at 2 V ∷ [])
line_of Plane = line (codes "PLANE") (at 2 (R (One Axis2Placement3d)) ∷ [])
line_of ElementarySurface = line (codes "ELEMENTARY_SURFACE") (at 2 (R (One Axis2Placement3d)) ∷ [])
line_of TolerancedLengthMeasure = line (codes "TOLERANCED_LENGTH_MEASURE") (at 1 L0 ∷ [])
line_of NumericParameter = line (codes "NUMERIC_PARAMETER") (at 2 L0 ∷ [])
line_of LinearPath = line (codes "LINEAR_PATH") (at 1 Z ∷ at 2 (R Len) ∷ at 3 (R (One Direction)) ∷ [])
line_of GeneralPath = line (codes "GENERAL_PATH") (at 1 Z ∷ at 2 (R (One Polyline)) ∷ [])
line_of Polyline = line (codes "POLYLINE") (at 2 (RL (One CartesianPoint)) ∷ [])
line_of LinearProfile = line (codes "LINEAR_PROFILE") (at 1 Z ∷ at 2 (R Len) ∷ [])
line_of SquareUProfile = line (codes "SQUARE_U_PROFILE") (at 1 Z ∷ at 2 (R Len) ∷ at 4 Z0 ∷ at 6 Z0 ∷ [])
line_of GeneralClosedProfile = line (codes "GENERAL_CLOSED_PROFILE") (may 1 (R (One Axis2Placement3d)) ∷ at 2 (R (One Polyline)) ∷ [])
line_of RectangularClosedProfile = line (codes "RECTANGULAR_CLOSED_PROFILE") (may 1 (R (One Axis2Placement3d)) ∷ at 2 (R Len) ∷ at 3 (R Len) ∷ [])
line_of CircularClosedProfile = line (codes "CIRCULAR_CLOSED_PROFILE") (may 1 (R (One Axis2Placement3d)) ∷ at 2 (R Len) ∷ [])
line_of RadiusedSlotEndType = line (codes "RADIUSED_SLOT_END_TYPE") []
line_of ThroughBottomCondition = line (codes "THROUGH_BOTTOM_CONDITION") []
line_of FlatHoleBottom = line (codes "FLAT_HOLE_BOTTOM") []
line_of ConicalHoleBottom = line (codes "CONICAL_HOLE_BOTTOM") []
line_of PlanarPocketBottomCondition = line (codes "PLANAR_POCKET_BOTTOM_CONDITION") []
line_of ThroughPocketBottomCondition = line (codes "THROUGH_POCKET_BOTTOM_CONDITION") []
line_of AndExpression = line (codes "AND_EXPRESSION") (at 1 (RL Cond) ∷ [])
line_of OrExpression = line (codes "OR_EXPRESSION") (at 1 (RL Cond) ∷ [])
line_of XorExpression = line (codes "XOR_EXPRESSION") (at 1 (R Cond) ∷ at 2 (R Cond) ∷ [])
line_of NotExpression = line (codes "NOT_EXPRESSION") (at 1 (R Cond) ∷ [])
line_of ComparisonEqual = line (codes "COMPARISON_EQUAL") comparison
line_of ComparisonNotEqual = line (codes "COMPARISON_NOT_EQUAL") comparison
line_of ComparisonLess = line (codes "COMPARISON_LESS") comparison
line_of ComparisonLessEqual = line (codes "COMPARISON_LESS_EQUAL") comparison
line_of ComparisonGreater = line (codes "COMPARISON_GREATER") comparison
line_of ComparisonGreaterEqual = line (codes "COMPARISON_GREATER_EQUAL") comparison
line_of NcVariable = line (codes "NC_VARIABLE") (at 1 T ∷ may 2 N ∷ [])
line_of NcConstant = line (codes "NC_CONSTANT") (at 2 N ∷ [])

abbrev pub name_of : RowId → List ℕ
name_of id = (line_of id).name

abbrev pub reads_of : RowId → List Read
reads_of id = (line_of id).reads

-- how many parameters the row wants: as many as the place of the last one that it reads
abbrev pub last_place : ℕ → List Read → ℕ
last_place place [] = place
last_place place (r ∷ rs) = last_place r.place rs

abbrev pub wanted : RowId → ℕ
wanted id = last_place 0 (reads_of id)

abbrev pub IsAmong : RowId → List RowId → Type 0
IsAmong row [] = ⊥
IsAmong row (id ∷ ids) = (row ≡ id) ⊎ IsAmong row ids

-- the rows of a group
abbrev pub rows_of : Group → List RowId
rows_of (One id) = id ∷ []
rows_of Exec = Workplan ∷ IfStatement ∷ MachiningWorkingstep ∷ []
rows_of Feat = PlanarFace ∷ ClosedPocket ∷ Slot ∷ RoundHole ∷ []
rows_of Op = PlaneRoughMilling ∷ PlaneFinishMilling ∷ BottomAndSideRoughMilling ∷ BottomAndSideFinishMilling ∷ Drilling ∷ []
rows_of Tool = CuttingTool ∷ MillingCuttingTool ∷ []
rows_of Body = Endmill ∷ TwistDrill ∷ []
rows_of Surf = Plane ∷ ElementarySurface ∷ []
rows_of Len = TolerancedLengthMeasure ∷ NumericParameter ∷ []
rows_of Path = LinearPath ∷ GeneralPath ∷ []
rows_of Prof = GeneralClosedProfile ∷ RectangularClosedProfile ∷ CircularClosedProfile ∷ []
rows_of Hbot = ThroughBottomCondition ∷ FlatHoleBottom ∷ ConicalHoleBottom ∷ []
rows_of Pbot = PlanarPocketBottomCondition ∷ ThroughPocketBottomCondition ∷ []
rows_of Cond = AndExpression ∷ OrExpression ∷ XorExpression ∷ NotExpression ∷ ComparisonEqual ∷ ComparisonNotEqual ∷ ComparisonLess ∷ ComparisonLessEqual ∷ ComparisonGreater ∷ ComparisonGreaterEqual ∷ []
rows_of Val = NcVariable ∷ NcConstant ∷ []
rows_of Island = []

abbrev pub IsInGroup : Group → RowId → Type 0
IsInGroup group row = IsAmong row (rows_of group)
