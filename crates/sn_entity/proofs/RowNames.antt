-- Each keyword is that of one row.
use Rattle.std.proofs.Common.{◌≡◌, ℕ, List, [], ◌∷◌, ◌++◌, true, false, cond, Option, Some, None, Decides, refl, sym, ap, ◌∙◌}
use Rattle.std.specs.Prelude.{IfSome}
use Rattle.std.specs.Str.{bytes_eq}
use Rattle.std.proofs.lemmas.Slice.Eq.{bytes_eq-Decides}
use Rattle.sn_entity.specs.declared.row.RowId.{RowId}
use Rattle.sn_entity.specs.declared.row.RowId.TheVariants.{Project, Workplan, IfStatement, NonSequential, MachiningWorkingstep, Setup, WorkpieceSetup, Workpiece, Block, PlanarFace, ClosedPocket, Slot, RoundHole, Boss, PlaneRoughMilling, PlaneFinishMilling, BottomAndSideRoughMilling, BottomAndSideFinishMilling, Drilling, CuttingTool, MillingCuttingTool, Endmill, TwistDrill, MillingToolDimension, MillingTechnology, Axis2Placement3d, CartesianPoint, Direction, Plane, ElementarySurface, TolerancedLengthMeasure, NumericParameter, LinearPath, GeneralPath, Polyline, LinearProfile, SquareUProfile, GeneralClosedProfile, RectangularClosedProfile, CircularClosedProfile, RadiusedSlotEndType, ThroughBottomCondition, FlatHoleBottom, ConicalHoleBottom, PlanarPocketBottomCondition, ThroughPocketBottomCondition, AndExpression, OrExpression, XorExpression, NotExpression, ComparisonEqual, ComparisonNotEqual, ComparisonLess, ComparisonLessEqual, ComparisonGreater, ComparisonGreaterEqual, NcVariable, NcConstant}
use Rattle.sn_entity.specs.Table.{name_of}
use Rattle.sn_entity.specs.Parts.{IsNoneOf, first_rows, second_rows, third_rows}

-- the first row of the list that has this keyword
abbrev found : List ℕ → List RowId → Option RowId
found name [] = None
found name (id ∷ ids) = cond (bytes_eq (name_of id) name) (Some id) (found name ids)

abbrev all_rows : List RowId
all_rows = first_rows ++ (second_rows ++ third_rows)

found_at : (id : RowId) → found (name_of id) all_rows ≡ Some id
found_at Project = refl
found_at Workplan = refl
found_at IfStatement = refl
found_at NonSequential = refl
found_at MachiningWorkingstep = refl
found_at Setup = refl
found_at WorkpieceSetup = refl
found_at Workpiece = refl
found_at Block = refl
found_at PlanarFace = refl
found_at ClosedPocket = refl
found_at Slot = refl
found_at RoundHole = refl
found_at Boss = refl
found_at PlaneRoughMilling = refl
found_at PlaneFinishMilling = refl
found_at BottomAndSideRoughMilling = refl
found_at BottomAndSideFinishMilling = refl
found_at Drilling = refl
found_at CuttingTool = refl
found_at MillingCuttingTool = refl
found_at Endmill = refl
found_at TwistDrill = refl
found_at MillingToolDimension = refl
found_at MillingTechnology = refl
found_at Axis2Placement3d = refl
found_at CartesianPoint = refl
found_at Direction = refl
found_at Plane = refl
found_at ElementarySurface = refl
found_at TolerancedLengthMeasure = refl
found_at NumericParameter = refl
found_at LinearPath = refl
found_at GeneralPath = refl
found_at Polyline = refl
found_at LinearProfile = refl
found_at SquareUProfile = refl
found_at GeneralClosedProfile = refl
found_at RectangularClosedProfile = refl
found_at CircularClosedProfile = refl
found_at RadiusedSlotEndType = refl
found_at ThroughBottomCondition = refl
found_at FlatHoleBottom = refl
found_at ConicalHoleBottom = refl
found_at PlanarPocketBottomCondition = refl
found_at ThroughPocketBottomCondition = refl
found_at AndExpression = refl
found_at OrExpression = refl
found_at XorExpression = refl
found_at NotExpression = refl
found_at ComparisonEqual = refl
found_at ComparisonNotEqual = refl
found_at ComparisonLess = refl
found_at ComparisonLessEqual = refl
found_at ComparisonGreater = refl
found_at ComparisonGreaterEqual = refl
found_at NcVariable = refl
found_at NcConstant = refl

pub id-from_name : (a b : RowId) → name_of a ≡ name_of b → a ≡ b
id-from_name a b h =
    let e = sym (found_at a) ∙ ap (λ n. found n all_rows) h ∙ found_at b in
    cc

not_found_step : (name : List ℕ) (id : RowId) (rest : Option RowId) (x : RowId) → ¬ (name_of id ≡ name) → cond (bytes_eq (name_of id) name) (Some id) rest ≡ Some x → rest ≡ Some x
not_found_step name id rest x other e =
    let d = bytes_eq-Decides (name_of id) name in
    elim (bytes_eq (name_of id) name) as (λ b. Decides b (name_of id ≡ name) → cond b (Some id) rest ≡ Some x → rest ≡ Some x) [
      | true ↦ λ d' _. absurd (other (d'.0 refl))
      | false ↦ λ _ e'. e'
    ] d e

not_found : (name : List ℕ) (ids : List RowId) (x : RowId) → IsNoneOf name ids → found name ids ≡ Some x → ⊥
not_found name [] x none e = cc
not_found name (id ∷ ids) x none e = not_found name ids x none.1 (not_found_step name id _ x none.0 e)

join_none : (name : List ℕ) (xs ys : List RowId) → IsNoneOf name xs → IsNoneOf name ys → IsNoneOf name (xs ++ ys)
join_none name [] ys a b = b
join_none name (x ∷ xs) ys a b = (a.0, join_none name xs ys a.1 b)

-- a keyword that no row of the three parts has is no row's
pub no_row : (name : List ℕ) (id : RowId) → IsNoneOf name first_rows → IsNoneOf name second_rows → IsNoneOf name third_rows → ¬ (name_of id ≡ name)
no_row name id one two three h =
    not_found name all_rows id
    (join_none name first_rows (second_rows ++ third_rows) one (join_none name second_rows third_rows two three))
    (ap (λ n. found n all_rows) (sym h) ∙ found_at id)

-- a row that is found is the one of the keyword
pub only_row : (name : List ℕ) (r : Option RowId) → IfSome r (λ id. name_of id ≡ name) → (r ≡ None → (id : RowId) → ¬ (name_of id ≡ name)) → (id : RowId) → name_of id ≡ name → r ≡ Some id
only_row name None found none id h = absurd (none refl id h)
only_row name (Some x) found none id h = ap Some (id-from_name x id (found ∙ sym h))
