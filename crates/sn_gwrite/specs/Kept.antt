-- MEANING: what an emitter keeps of the program that it writes, and what a call may follow (this project's own).
use Rattle.std.specs.Prelude.{ℕ, ◌≡◌, ◌≢◌, ◌≤◌, ◌⊎◌, Option, None, Some, IsSome, IfSome}
use Rattle.sn_geom.specs.declared.limits.TheConstants.{MOST_RATE, MOST_TOOL}
use Rattle.sn_geom.specs.declared.units.Pt3.{Pt3}
use Rattle.sn_geom.specs.Length.{IsLength}
use Rattle.sn_geom.specs.Tip.{tip_after}
use Rattle.sn_gwrite.specs.declared.kept.Stage.{Stage}
use Rattle.sn_gwrite.specs.declared.kept.Stage.TheVariants.{Unused, Begun, Ended, Failed}
use Rattle.sn_gwrite.specs.declared.kept.Spindle.{Spindle}
use Rattle.sn_gwrite.specs.declared.kept.Spindle.TheVariants.{Stopped, Turning}
use Rattle.sn_geom.specs.declared.tip.Tip.{Tip}
use Rattle.sn_geom.specs.declared.tip.Tip.TheVariants.{Unknown, Height, At}

-- stage: which calls came; tool: the number of the tool in the spindle, in rev/min its speed and in mm/min its feed, each
-- where one was written; spindle: whether it turns, as it does where rates came since the last tool change; tip: how much
-- of the tip's place the machine knows
pub record Kept : Type 0 where
  pub stage : Stage
  pub tool : Option ℕ
  pub speed : Option ℕ
  pub feed : Option ℕ
  pub spindle : Spindle
  pub tip : Tip

-- before the first call
abbrev pub unused : Kept
unused = record { stage = Unused; tool = None; speed = None; feed = None; spindle = Stopped; tip = Unknown }

-- after the head
abbrev pub begun : Kept → Kept
begun kept = record kept { stage = Begun }

-- after the change to a tool: the spindle stands still, and the tip's place is lost
abbrev pub with_tool : Kept → ℕ → Kept
with_tool kept tool = record kept { tool = Some tool; spindle = Stopped; tip = Unknown }

-- after the rates, which start the spindle
abbrev pub with_rates : Kept → ℕ → ℕ → Kept
with_rates kept speed feed = record kept { speed = Some speed; feed = Some feed; spindle = Turning }

-- after a motion to the point
abbrev pub moved : Kept → Pt3 → Kept
moved kept point = record kept { tip = tip_after kept.tip point }

-- after the end of the program
abbrev pub ended : Kept → Kept
ended kept = record kept { stage = Ended }

-- after a write that failed
abbrev pub failed : Kept → Kept
failed kept = record kept { stage = Failed }

-- the head was written, the end was not, and no write failed
abbrev pub IsBegun : Kept → Type 0
IsBegun kept = kept.stage ≡ Begun

-- a tool is in the spindle
abbrev pub HasTool : Kept → Type 0
HasTool kept = IsSome kept.tool

-- rates came since the last tool change
abbrev pub IsTurning : Kept → Type 0
IsTurning kept = kept.spindle ≡ Turning

abbrev pub IsToolNumber : ℕ → Type 0
IsToolNumber k = (1 ≤ k) × (k ≤ MOST_TOOL)

-- a speed in rev/min or a feed in mm/min
abbrev pub IsRate : ℕ → Type 0
IsRate rate = (1 ≤ rate) × (rate ≤ MOST_RATE)

-- what every emitter keeps: the number of a tool, rates, and both rates where the spindle turns
pub record IsKept (kept : Kept) : Type 0 where
  pub tool : IfSome kept.tool IsToolNumber
  pub speed : IfSome kept.speed IsRate
  pub feed : IfSome kept.feed IsRate
  pub turning : IsTurning kept → IsSome kept.speed × IsSome kept.feed

-- a point in the range
pub record IsPoint (point : Pt3) : Type 0 where
  pub x : IsLength point.x
  pub y : IsLength point.y
  pub z : IsLength point.z

-- a motion that is not slanted, and ends at another point than it starts from
pub record IsStraight (from to : Pt3) : Type 0 where
  pub moves : from ≢ to
  pub straight : (from.z ≡ to.z) ⊎ ((from.x ≡ to.x) × (from.y ≡ to.y))

-- where a rapid may go: anywhere in height right after a tool change, then to any place at that height, then straight
abbrev pub MayRapid : Tip → Pt3 → Type 0
MayRapid Unknown to = Unit {0}
MayRapid (Height z) to = z ≡ to.z
MayRapid (At from) to = IsStraight from to

-- where a feed may go: straight, once the tip's whole place is known
abbrev pub MayFeed : Tip → Pt3 → Type 0
MayFeed Unknown to = ⊥
MayFeed (Height z) to = ⊥
MayFeed (At from) to = IsStraight from to
