-- MEANING: moves that are safe for a step, over the material that earlier moves leave (this project's own).
use Rattle.std.specs.Prelude.{◌≡◌, ◌⊎◌, ◌≤ℤ◌, List, [], ◌∷◌, ◌++◌}
use Rattle.sn_geom.specs.declared.units.Pt3.{Pt3}
use Rattle.sn_geom.specs.declared.units.Cell.{Cell}
use Rattle.sn_geom.specs.declared.tip.Tip.{Tip}
use Rattle.sn_geom.specs.declared.tip.Tip.TheVariants.{Unknown, Height, At}
use Rattle.sn_geom.specs.Sweep.{Touch, IsVertical}
use Rattle.sn_geom.specs.Length.{IsLength}
use Rattle.sn_outline.specs.Job.{Job}
use Rattle.sn_outline.specs.declared.job.StepJob.{StepJob}
use Rattle.sn_raster.specs.Heights.{low_end, node_of, Pass, IsMaterial}
use Rattle.sn_open.specs.Region.{InAllowed, IsAllowed}
use Rattle.sn_open.specs.Good.{IsShallow}
use Rattle.sn_link.specs.declared.moves.Move.{Move}
use Rattle.sn_link.specs.declared.moves.Move.TheVariants.{Rapid, Feed}
use Rattle.sn_link.specs.Moves.{end_of}

-- the tool of the step touches no material that the passes left
abbrev pub IsClearWay : Job → StepJob → List Pass → Pt3 → Pt3 → Type 0
IsClearWay job step passes from to = (c : Cell) → IsMaterial job passes c → ¬ Touch step.body.d from to (low_end job.pitch c)

-- the tool of the step touches cells over allowed nodes alone, whether material is left there or not; of the material that
-- the passes left allowed cells alone, and sideways none that is too deep
pub record IsSafeWay (job : Job) (step : StepJob) (passes : List Pass) (from to : Pt3) : Type 0 where
  pub over : (c : Cell) → Touch step.body.d from to (low_end job.pitch c) → InAllowed job step (node_of c)
  pub allowed : (c : Cell) → IsMaterial job passes c → Touch step.body.d from to (low_end job.pitch c) → IsAllowed job step c
  pub shallow : IsVertical from to ⊎ ((c : Cell) → IsMaterial job passes c → Touch step.body.d from to (low_end job.pitch c) → IsShallow step from to c)

-- The moves from a tip are safe, each over the material that those before it leave: at the security height or above to the
-- first place after a tool change, in rapid where no material is touched, and at feed in safe ways.
abbrev pub AreSafe : Job → StepJob → List Pass → Tip → List Move → Type 0
AreSafe job step passes tip [] = Unit {0}
AreSafe job step passes Unknown (move ∷ moves) = ⊥
AreSafe job step passes (Height z) (Rapid p ∷ moves) = (job.sec ≤ℤ p.z) × AreSafe job step passes (At p) moves
AreSafe job step passes (Height z) (Feed p ∷ moves) = ⊥
AreSafe job step passes (At from) (Rapid p ∷ moves) = IsClearWay job step passes from p × AreSafe job step passes (At p) moves
AreSafe job step passes (At from) (Feed p ∷ moves) =
    IsSafeWay job step passes from p × AreSafe job step (passes ++ record { body = step.body; from = from; to = p } ∷ []) (At p) moves

-- the tip is at the security height
abbrev pub IsAtSecurity : Job → Tip → Type 0
IsAtSecurity job Unknown = ⊥
IsAtSecurity job (Height z) = z ≡ job.sec
IsAtSecurity job (At p) = p.z ≡ job.sec

-- the ends of the moves are in the range
abbrev pub AreWithin : List Move → Type 0
AreWithin [] = Unit {0}
AreWithin (move ∷ moves) = (IsLength (end_of move).x × IsLength (end_of move).y × IsLength (end_of move).z) × AreWithin moves
