-- The places of the reads of each row rise.
use Rattle.std.proofs.Common.{◌≡◌, ℕ, ◌<◌, ◌≤◌, Bool, true, ◌&&◌, nat_lt, List, [], ◌∷◌, refl, arith, rules, tests}
use Rattle.std.proofs.lemmas.Bool.{and_parts}
use Rattle.sn_entity.specs.declared.row.Read.{Read}
use Rattle.sn_entity.specs.declared.row.RowId.{RowId}
use Rattle.sn_entity.specs.declared.row.RowId.TheVariants.{Project, Workplan, IfStatement, NonSequential, MachiningWorkingstep, Setup, WorkpieceSetup, Workpiece, Block, PlanarFace, ClosedPocket, Slot, RoundHole, Boss, PlaneRoughMilling, PlaneFinishMilling, BottomAndSideRoughMilling, BottomAndSideFinishMilling, Drilling, CuttingTool, MillingCuttingTool, Endmill, TwistDrill, MillingToolDimension, MillingTechnology, Axis2Placement3d, CartesianPoint, Direction, Plane, ElementarySurface, TolerancedLengthMeasure, NumericParameter, LinearPath, GeneralPath, Polyline, LinearProfile, SquareUProfile, GeneralClosedProfile, RectangularClosedProfile, CircularClosedProfile, RadiusedSlotEndType, ThroughBottomCondition, FlatHoleBottom, ConicalHoleBottom, PlanarPocketBottomCondition, ThroughPocketBottomCondition, AndExpression, OrExpression, XorExpression, NotExpression, ComparisonEqual, ComparisonNotEqual, ComparisonLess, ComparisonLessEqual, ComparisonGreater, ComparisonGreaterEqual, NcVariable, NcConstant}
use Rattle.sn_entity.specs.Reads.{IsRising}
use Rattle.sn_entity.specs.Table.{reads_of, last_place, wanted}

abbrev rising : ℕ → List Read → Bool
rising above [] = true
rising above (r ∷ rs) = nat_lt above r.place && rising r.place rs

rows_rise : (id : RowId) → rising 0 (reads_of id) ≡ true
rows_rise Project = refl
rows_rise Workplan = refl
rows_rise IfStatement = refl
rows_rise NonSequential = refl
rows_rise MachiningWorkingstep = refl
rows_rise Setup = refl
rows_rise WorkpieceSetup = refl
rows_rise Workpiece = refl
rows_rise Block = refl
rows_rise PlanarFace = refl
rows_rise ClosedPocket = refl
rows_rise Slot = refl
rows_rise RoundHole = refl
rows_rise Boss = refl
rows_rise PlaneRoughMilling = refl
rows_rise PlaneFinishMilling = refl
rows_rise BottomAndSideRoughMilling = refl
rows_rise BottomAndSideFinishMilling = refl
rows_rise Drilling = refl
rows_rise CuttingTool = refl
rows_rise MillingCuttingTool = refl
rows_rise Endmill = refl
rows_rise TwistDrill = refl
rows_rise MillingToolDimension = refl
rows_rise MillingTechnology = refl
rows_rise Axis2Placement3d = refl
rows_rise CartesianPoint = refl
rows_rise Direction = refl
rows_rise Plane = refl
rows_rise ElementarySurface = refl
rows_rise TolerancedLengthMeasure = refl
rows_rise NumericParameter = refl
rows_rise LinearPath = refl
rows_rise GeneralPath = refl
rows_rise Polyline = refl
rows_rise LinearProfile = refl
rows_rise SquareUProfile = refl
rows_rise GeneralClosedProfile = refl
rows_rise RectangularClosedProfile = refl
rows_rise CircularClosedProfile = refl
rows_rise RadiusedSlotEndType = refl
rows_rise ThroughBottomCondition = refl
rows_rise FlatHoleBottom = refl
rows_rise ConicalHoleBottom = refl
rows_rise PlanarPocketBottomCondition = refl
rows_rise ThroughPocketBottomCondition = refl
rows_rise AndExpression = refl
rows_rise OrExpression = refl
rows_rise XorExpression = refl
rows_rise NotExpression = refl
rows_rise ComparisonEqual = refl
rows_rise ComparisonNotEqual = refl
rows_rise ComparisonLess = refl
rows_rise ComparisonLessEqual = refl
rows_rise ComparisonGreater = refl
rows_rise ComparisonGreaterEqual = refl
rows_rise NcVariable = refl
rows_rise NcConstant = refl

less : (a b : ℕ) → nat_lt a b ≡ true → a < b
less a b h = search (rules, tests)

last_above : (above : ℕ) (rs : List Read) → rising above rs ≡ true → above ≤ last_place above rs
last_above above [] h = omega arith
last_above above (r ∷ rs) h =
    let s = and_parts (nat_lt above r.place) (rising r.place rs) h in
    let rest = last_above r.place rs s.1 in
    let lt = less above r.place s.0 in
    omega arith

rises : (above most : ℕ) (rs : List Read) → rising above rs ≡ true → last_place above rs ≤ most → IsRising above most rs
rises above most [] h enough = tt
rises above most (r ∷ rs) h enough =
    let s = and_parts (nat_lt above r.place) (rising r.place rs) h in
    let last = last_above r.place rs s.1 in
    (less above r.place s.0, omega arith, rises r.place most rs s.1 enough)

-- where there are as many parameters as the row wants
pub row_rises : (id : RowId) (most : ℕ) → wanted id ≤ most → IsRising 0 most (reads_of id)
row_rises id most enough = rises 0 most (reads_of id) (rows_rise id) enough
