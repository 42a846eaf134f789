-- MEANING: what each part of a program that is written does in the machine that runs it, and when that machine agrees with what the
-- emitter keeps (this project's own).
use Rattle.std.specs.Prelude.{◌≡◌, ℕ, true, false, List, IsSome, unwrap_or}
use Rattle.sn_geom.specs.Acts.{Act, Enter, Locate, Rapid, Feed}
use Rattle.sn_geom.specs.Machine.{Modes, State, start}
use Rattle.sn_geom.specs.Meaning.{MeansFrom, IsWholeLines}
use Rattle.sn_geom.specs.declared.units.Pt3.{Pt3}
use Rattle.sn_geom.specs.declared.tip.MotionMode.{MotionMode}
use Rattle.sn_geom.specs.declared.tip.MotionMode.TheVariants as mode
use Rattle.sn_geom.specs.declared.tip.Tip.{Tip}
use Rattle.sn_geom.specs.declared.tip.Tip.TheVariants.{Unknown, Height, At}
use Rattle.sn_gwrite.specs.Kept.{Kept, IsTurning}
use Rattle.sn_gwrite.specs.declared.kept.Stage.{Stage}
use Rattle.sn_gwrite.specs.declared.kept.Stage.TheVariants.{Unused, Begun, Ended, Failed}

-- Agreement.

-- G21 G17 G90 G94 G40 and G61 or G61.1 are set
abbrev pub all_modes : Modes
all_modes = record { g21 = true; g17 = true; g90 = true; g94 = true; g40 = true; g61 = true }

-- between the head and the end: the first line was a percent line and no later line was, the end is not reached, the modes are
-- set, F and S are the kept ones and unset where none is kept, the tool is the kept one with its length offset applied and none
-- where none is kept, of the tip just that is known that is kept, and the spindle turns by M3 where rates came since the last
-- tool change
pub record AgreesBetween (kept : Kept) (state : State) : Type 0 where
  pub began : state.began ≡ true
  pub within_percent : state.within_percent ≡ true
  pub not_closed : state.closed ≡ false
  pub not_ended : state.ended ≡ false
  pub modes : state.modes ≡ all_modes
  pub feed : state.feed ≡ kept.feed
  pub speed : state.speed ≡ kept.speed
  pub tool : state.tool ≡ kept.tool
  pub offset : IsSome kept.tool → state.offset ≡ true
  pub tip : state.tip ≡ kept.tip
  pub turning : IsTurning kept → state.turning ≡ true

-- before the head the state is that at the start of a program, after the end one in which the end is reached; after a write that
-- failed none agrees
abbrev pub AgreesAt : Stage → Kept → State → Type 0
AgreesAt Unused kept state = state ≡ start
AgreesAt Begun kept state = AgreesBetween kept state
AgreesAt Ended kept state = state.ended ≡ true
AgreesAt Failed kept state = ⊥

-- the machine's state agrees with what the emitter keeps
abbrev pub Agrees : Kept → State → Type 0
Agrees kept state = AgreesAt kept.stage kept state

-- The calls as acts. The head and the rates do none; a mark, a tool change and the end do the act of their name.

-- a motion to the point: the first after a tool change enters its height, the second locates the tip at that height, each later
-- one goes there from where the tip is, in rapid with the tool, at feed also with the feed and the speed
abbrev pub motion_from : MotionMode → (feed speed tool : ℕ) → Tip → Pt3 → Act
motion_from mode feed speed tool Unknown to = Enter to.z
motion_from mode feed speed tool (Height z) to = Locate to
motion_from mode.Rapid feed speed tool (At from) to = Rapid from to tool
motion_from mode.Feed feed speed tool (At from) to = Feed from to feed speed tool

-- from the kept tip, with the kept numbers
abbrev pub motion_act : MotionMode → Kept → Pt3 → Act
motion_act mode kept to = motion_from mode (unwrap_or kept.feed 0) (unwrap_or kept.speed 0) (unwrap_or kept.tool 0) kept.tip to

-- The meaning of a part.

-- from the state the text means the acts, and the state after it agrees with what is kept
pub record LeadsTo (state : State) (text : List ℕ) (acts : List Act) (kept : Kept) : Type 0 where
  pub after : State
  pub means : MeansFrom state text acts after
  pub agrees : Agrees kept after

-- Whole lines, so that another part may follow: from every state that agrees with what was kept before, they mean the acts, and
-- the state after them agrees with what is kept then.
pub record PartMeans (old new : Kept) (text : List ℕ) (acts : List Act) : Type 0 where
  pub lines : IsWholeLines text
  pub means : (state : State) → Agrees old state → LeadsTo state text acts new
