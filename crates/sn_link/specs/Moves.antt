-- MEANING: the moves of a tip, and how a tool comes down to a layer and up again (this project's own).
use Rattle.std.specs.Prelude.{ℕ, ◌≡◌, ◌≢◌, ◌==◌, Bool, false, ◌&&◌, ℤ, pos, ◌+ℤ◌, List, [], ◌∷◌, ◌++◌, Option, Some, None, if◌then◌else◌}
use Rattle.std.specs.Int.{int_min}
use Rattle.std.specs.Ordering.{int_eq}
use Rattle.sn_geom.specs.declared.units.Pt.{Pt}
use Rattle.sn_geom.specs.declared.units.Pt3.{Pt3}
use Rattle.sn_geom.specs.declared.limits.TheConstants.{GAP, REACH}
use Rattle.sn_geom.specs.declared.tip.Tip.{Tip}
use Rattle.sn_geom.specs.declared.tip.Tip.TheVariants.{Unknown, Height, At}
use Rattle.sn_geom.specs.Tip.{tip_after}
use Rattle.sn_geom.specs.Sweep.{IsHorizontalOrVertical}
use Rattle.sn_outline.specs.Job.{Job, tip_floor}
use Rattle.sn_outline.specs.declared.job.StepJob.{StepJob}
use Rattle.sn_link.specs.declared.moves.Move.{Move}
use Rattle.sn_link.specs.declared.moves.Move.TheVariants.{Rapid, Feed}

abbrev pub end_of : Move → Pt3
end_of (Rapid p) = p
end_of (Feed p) = p

abbrev pub same_place : Pt3 → Pt3 → Bool
same_place a b = int_eq a.x b.x && int_eq a.y b.y && int_eq a.z b.z

-- the tip is known to stand at a point
abbrev pub stands_at : Tip → Pt3 → Bool
stands_at Unknown p = false
stands_at (Height z) p = false
stands_at (At tip) p = same_place tip p

-- the tip after moves
abbrev pub tip_after_moves : Tip → List Move → Tip
tip_after_moves tip [] = tip
tip_after_moves tip (move ∷ moves) = tip_after_moves (tip_after tip (end_of move)) moves

-- the moves that are made from a tip: all but those that end where they start
abbrev pub made : Tip → List Move → List Move
made tip [] = []
made tip (move ∷ moves) = if stands_at tip (end_of move) then made tip moves else move ∷ made (tip_after tip (end_of move)) moves

-- a move that is not slanted, and ends at another point than it starts from
pub record IsStraight (from to : Pt3) : Type 0 where
  pub moves : from ≢ to
  pub straight : IsHorizontalOrVertical from to

-- where a move may go from a tip: in rapid to a place at the height that is known, and then straight
abbrev pub MayMove : Tip → Move → Type 0
MayMove Unknown move = ⊥
MayMove (Height z) (Rapid p) = z ≡ p.z
MayMove (Height z) (Feed p) = ⊥
MayMove (At from) move = IsStraight from (end_of move)

abbrev pub AreStraight : Tip → List Move → Type 0
AreStraight tip [] = Unit {0}
AreStraight tip (move ∷ moves) = MayMove tip move × AreStraight (tip_after tip (end_of move)) moves

-- a point over a place in the plane
abbrev pub over : Pt → ℤ → Pt3
over p z = record { x = p.x; y = p.y; z = z }

-- at the security height over a place, then down to where the feed begins, and at feed to the tip height of a layer;
-- above is the height over which no material is left there
abbrev pub approach : ℤ → Pt → ℤ → ℤ → List Move
approach sec p above tip = Rapid (over p sec) ∷ Rapid (over p (int_min sec (above +ℤ pos GAP))) ∷ Feed (over p tip) ∷ []

-- at feed up by the point length of the tool, and in rapid to the security height
abbrev pub lift : ℤ → Pt → ℤ → ℕ → List Move
lift sec p tip e = Feed (over p (int_min (tip +ℤ pos e) (pos REACH))) ∷ Rapid (over p sec) ∷ []

-- a plunge at a place down to the tip floor of the step
abbrev pub plunge : Job → StepJob → Pt → ℤ → List Move
plunge job step centre above =
    approach job.sec centre above (tip_floor step) ++ lift job.sec centre (tip_floor step) step.body.e

-- the tool is in the spindle
abbrev pub is_in_spindle : Option ℕ → ℕ → Bool
is_in_spindle None k = false
is_in_spindle (Some tool) k = tool == k

-- the tip before the moves of a step: where it was where the step's tool is in the spindle already, and else, after the
-- tool change, at the security height
abbrev pub tip_for : Job → Option ℕ → Tip → StepJob → Tip
tip_for job tool tip step = if is_in_spindle tool step.tool then tip else Height job.sec

-- the tip at a point where one is given, and else at the security height
abbrev pub tip_at : Job → Option Pt3 → Tip
tip_at job None = Height job.sec
tip_at job (Some p) = At p

-- the tool in the spindle, and the tip, after a step with its moves: a step without moves leaves them as they are
abbrev pub tool_after : Option ℕ → StepJob → List Move → Option ℕ
tool_after tool step [] = tool
tool_after tool step (move ∷ moves) = Some step.tool

abbrev pub tip_after_step : Job → Option ℕ → Tip → StepJob → List Move → Tip
tip_after_step job tool tip step [] = tip
tip_after_step job tool tip step (move ∷ moves) = tip_after_moves (tip_for job tool tip step) (move ∷ moves)
