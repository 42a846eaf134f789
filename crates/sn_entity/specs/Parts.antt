-- Private (only the functions of this crate cite these words): the rows in three parts, in the order of the table.
use Rattle.std.specs.Prelude.{◌≡◌, ℕ, List, [], ◌∷◌}
use Rattle.sn_entity.specs.declared.row.RowId.{RowId}
use Rattle.sn_entity.specs.declared.row.RowId.TheVariants.{Project, Workplan, IfStatement, NonSequential, MachiningWorkingstep, Setup, WorkpieceSetup, Workpiece, Block, PlanarFace, ClosedPocket, Slot, RoundHole, Boss, PlaneRoughMilling, PlaneFinishMilling, BottomAndSideRoughMilling, BottomAndSideFinishMilling, Drilling, CuttingTool, MillingCuttingTool, Endmill, TwistDrill, MillingToolDimension, MillingTechnology, Axis2Placement3d, CartesianPoint, Direction, Plane, ElementarySurface, TolerancedLengthMeasure, NumericParameter, LinearPath, GeneralPath, Polyline, LinearProfile, SquareUProfile, GeneralClosedProfile, RectangularClosedProfile, CircularClosedProfile, RadiusedSlotEndType, ThroughBottomCondition, FlatHoleBottom, ConicalHoleBottom, PlanarPocketBottomCondition, ThroughPocketBottomCondition, AndExpression, OrExpression, XorExpression, NotExpression, ComparisonEqual, ComparisonNotEqual, ComparisonLess, ComparisonLessEqual, ComparisonGreater, ComparisonGreaterEqual, NcVariable, NcConstant}
use Rattle.sn_entity.specs.Table.{name_of}

abbrev pub first_rows : List RowId
first_rows = Project ∷ Workplan ∷ IfStatement ∷ NonSequential ∷ MachiningWorkingstep ∷ Setup ∷ WorkpieceSetup ∷ Workpiece ∷ Block ∷ PlanarFace ∷ ClosedPocket ∷ Slot ∷ RoundHole ∷ Boss ∷ PlaneRoughMilling ∷ PlaneFinishMilling ∷ BottomAndSideRoughMilling ∷ BottomAndSideFinishMilling ∷ Drilling ∷ CuttingTool ∷ []

abbrev pub second_rows : List RowId
second_rows = MillingCuttingTool ∷ Endmill ∷ TwistDrill ∷ MillingToolDimension ∷ MillingTechnology ∷ Axis2Placement3d ∷ CartesianPoint ∷ Direction ∷ Plane ∷ ElementarySurface ∷ TolerancedLengthMeasure ∷ NumericParameter ∷ LinearPath ∷ GeneralPath ∷ Polyline ∷ LinearProfile ∷ SquareUProfile ∷ GeneralClosedProfile ∷ RectangularClosedProfile ∷ CircularClosedProfile ∷ []

abbrev pub third_rows : List RowId
third_rows = RadiusedSlotEndType ∷ ThroughBottomCondition ∷ FlatHoleBottom ∷ ConicalHoleBottom ∷ PlanarPocketBottomCondition ∷ ThroughPocketBottomCondition ∷ AndExpression ∷ OrExpression ∷ XorExpression ∷ NotExpression ∷ ComparisonEqual ∷ ComparisonNotEqual ∷ ComparisonLess ∷ ComparisonLessEqual ∷ ComparisonGreater ∷ ComparisonGreaterEqual ∷ NcVariable ∷ NcConstant ∷ []

-- no row of the list has this keyword
abbrev pub IsNoneOf : List ℕ → List RowId → Type 0
IsNoneOf name [] = Unit {0}
IsNoneOf name (id ∷ ids) = (¬ (name_of id ≡ name)) × IsNoneOf name ids
