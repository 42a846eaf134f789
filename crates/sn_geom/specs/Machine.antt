-- MEANING: the machine that runs a program. A line of words changes its state and gives acts, or is faulty (after
-- RS274/NGC version 3, NISTIR 6556, in this project's profile).
use Rattle.std.specs.Prelude.{◌≡◌, ℕ, Bool, true, false, not, ◌&&◌, ◌||◌, ◌==◌, ℤ, pos, List, [], ◌∷◌, Option, Some, None, is_some, is_none, unwrap_or, if◌then◌else◌}
use Rattle.std.specs.Option.{option_or}
use Rattle.std.specs.Ordering.{int_eq}
use Rattle.sn_geom.specs.declared.units.Pt3.{Pt3}
use Rattle.sn_geom.specs.declared.machine.Word.{Word}
use Rattle.sn_geom.specs.declared.machine.Acts.{Acts}
use Rattle.sn_geom.specs.declared.machine.Motion.{Motion}
use Rattle.sn_geom.specs.declared.machine.Motion.TheVariants.{Enter, Locate, Rapid, Feed}
use Rattle.sn_geom.specs.declared.machine.MachFault.{MachFault}
use Rattle.sn_geom.specs.declared.machine.MachFault.TheVariants.{Percent, AfterEnd, NoMotion, NoTool, WrongOffset, ModeUnset, NoOffset, LostAxis, Slanted, NoFeed, SpindleOff}
use Rattle.sn_geom.specs.declared.tip.MotionMode.{MotionMode}
use Rattle.sn_geom.specs.declared.tip.MotionMode.TheVariants as mode
use Rattle.sn_geom.specs.declared.tip.Tip.{Tip}
use Rattle.sn_geom.specs.declared.tip.Tip.TheVariants.{Unknown, Height, At}
use Rattle.sn_geom.specs.Block.{Block, is_empty, has_g, has_m, f_of, h_of, s_of, t_of, x_of, y_of, z_of, has_axis, has_z_alone, has_x_and_y}

-- The state.

-- Which modes were set: millimetres, the XY plane, absolute distances, feed in mm/min, no cutter compensation, exact
-- path.
pub record Modes : Type 0 where
  pub g21 : Bool
  pub g17 : Bool
  pub g90 : Bool
  pub g94 : Bool
  pub g40 : Bool
  pub g61 : Bool

-- began: a line was read; within_percent: the first line was a percent sign; closed: a second one was read; ended: the
-- program ended; chosen: the last T word; tool: the tool in the spindle; offset: its length offset is applied;
-- turning: the spindle turns clockwise
pub record State : Type 0 where
  pub began : Bool
  pub within_percent : Bool
  pub closed : Bool
  pub ended : Bool
  pub modes : Modes
  pub motion : Option MotionMode
  pub feed : Option ℕ
  pub speed : Option ℕ
  pub chosen : Option ℕ
  pub tool : Option ℕ
  pub offset : Bool
  pub turning : Bool
  pub tip : Tip

abbrev pub no_modes : Modes
no_modes = record { g21 = false; g17 = false; g90 = false; g94 = false; g40 = false; g61 = false }

-- the state before the first line
abbrev pub start : State
start = record {
  began = false;
  within_percent = false;
  closed = false;
  ended = false;
  modes = no_modes;
  motion = None;
  feed = None;
  speed = None;
  chosen = None;
  tool = None;
  offset = false;
  turning = false;
  tip = Unknown;
}

-- the modes that were set, with those that the line sets
abbrev pub modes_after : Modes → List Word → Modes
modes_after m words = record {
  g21 = m.g21 || has_g words 210;
  g17 = m.g17 || has_g words 170;
  g90 = m.g90 || has_g words 900;
  g94 = m.g94 || has_g words 940;
  g40 = m.g40 || has_g words 400;
  g61 = m.g61 || has_g words 610 || has_g words 611;
}

abbrev pub are_set : Modes → Bool
are_set m = m.g21 && m.g17 && m.g90 && m.g94 && m.g40 && m.g61

-- the motion that is active with the line's words
abbrev pub motion_after : Option MotionMode → List Word → Option MotionMode
motion_after motion words =
    if has_g words 0 then Some mode.Rapid
    else if has_g words 10 then Some mode.Feed
    else if has_g words 800 then None
    else motion

-- the state with all words of a line but its motion and its stop: a tool change stops the spindle, drops the length
-- offset and loses the place, before the line's own words on the spindle and the offset act
abbrev pub prepared : State → List Word → State
prepared s words =
    let changes = has_m words 6 in
    let chosen = option_or (t_of words) s.chosen in
    record s {
      began = true;
      modes = modes_after s.modes words;
      motion = motion_after s.motion words;
      feed = option_or (f_of words) s.feed;
      speed = option_or (s_of words) s.speed;
      chosen = chosen;
      tool = if changes then chosen else s.tool;
      offset = if has_g words 430 then true else if has_g words 490 then false else if changes then false else s.offset;
      turning = if has_m words 3 then true else if has_m words 5 then false else if changes then false else s.turning;
      tip = if changes then Unknown else s.tip;
    }

-- a number that is set and not 0
abbrev pub is_positive : Option ℕ → Bool
is_positive n = not (unwrap_or n 0 == 0)

-- H is the tool in the spindle
abbrev pub is_tool : Option ℕ → Option ℕ → Bool
is_tool tool h = is_positive tool && is_some h && unwrap_or h 0 == unwrap_or tool 0

-- the length offset that the words ask for is none or another tool's
abbrev pub has_wrong_offset : State → List Word → Bool
has_wrong_offset s words = if has_g words 430 then not (is_tool s.tool (h_of words)) else is_some (h_of words)

abbrev pub is_rapid : Option MotionMode → Bool
is_rapid None = false
is_rapid (Some mode.Rapid) = true
is_rapid (Some mode.Feed) = false

abbrev pub is_feed : Option MotionMode → Bool
is_feed None = false
is_feed (Some mode.Rapid) = false
is_feed (Some mode.Feed) = true

-- the axis keeps its value: it has no word, or a word of the same value
abbrev pub keeps : ℤ → Option ℤ → Bool
keeps old word = int_eq (unwrap_or word old) old

-- the motion needs a coordinate that is not known: while Z is unknown only a rapid of Z alone is none such, while X and
-- Y are unknown only a rapid of Z alone, or of both X and Y at the same height
abbrev pub needs_lost : Tip → Option MotionMode → List Word → Bool
needs_lost Unknown motion words = not (is_rapid motion && has_z_alone words)
needs_lost (Height z) motion words = not (is_rapid motion && (has_z_alone words || (has_x_and_y words && keeps z (z_of words))))
needs_lost (At p) motion words = false

-- the motion changes Z together with X or Y
abbrev pub is_slanted : Tip → List Word → Bool
is_slanted Unknown words = false
is_slanted (Height z) words = false
is_slanted (At p) words = not (keeps p.z (z_of words)) && not (keeps p.x (x_of words) && keeps p.y (y_of words))

-- the fault of a motion, the state being that of all other words of its line
abbrev pub motion_fault : State → List Word → Option MachFault
motion_fault s words =
    if not (is_positive s.tool) then Some NoTool
    else if has_wrong_offset s words then Some WrongOffset
    else if not (are_set s.modes) then Some ModeUnset
    else if not s.offset then Some NoOffset
    else if needs_lost s.tip s.motion words then Some LostAxis
    else if is_slanted s.tip words then Some Slanted
    else if is_feed s.motion && not (is_positive s.feed) then Some NoFeed
    else if is_feed s.motion && not (s.turning && is_positive s.speed) then Some SpindleOff
    else None

-- the fault of a line's words, the state being that of all its words but its motion and its stop
abbrev pub words_fault : State → List Word → Option MachFault
words_fault s words =
    if has_axis words && is_none s.motion then Some NoMotion
    else if (has_g words 0 || has_g words 10) && not (has_axis words) then Some NoMotion
    else if has_m words 6 && is_none s.chosen then Some NoTool
    else if has_axis words then motion_fault s words
    else if has_wrong_offset s words then Some WrongOffset
    else None

-- the line has a word, a line number or a mark
abbrev pub says_something : Block → Bool
says_something b = not (is_empty b.words) || is_some b.number || is_some b.mark

-- the first fault of a line
abbrev pub fault_of : State → Block → Option MachFault
fault_of s b =
    if s.closed then None
    else if b.percent then (if s.began && not s.within_percent then Some Percent else None)
    else if s.ended && says_something b then Some AfterEnd
    else words_fault (prepared s b.words) b.words

-- What a line does.

-- where a motion from a known place ends: an axis without a word keeps its place
abbrev pub target : Pt3 → List Word → Pt3
target p words = record {
  x = unwrap_or (x_of words) p.x;
  y = unwrap_or (y_of words) p.y;
  z = unwrap_or (z_of words) p.z;
}

-- where the tip is after a motion that is not faulty
abbrev pub tip_after_words : Tip → List Word → Tip
tip_after_words Unknown words = Height (unwrap_or (z_of words) (pos 0))
tip_after_words (Height z) words =
    if has_z_alone words then Height (unwrap_or (z_of words) z)
    else At (target (record { x = pos 0; y = pos 0; z = z }) words)
tip_after_words (At p) words = At (target p words)

-- the motion of a line that is not faulty, the state being that of all other words of its line
abbrev pub motion_of : State → Tip → List Word → Motion
motion_of s Unknown words = Enter (unwrap_or (z_of words) (pos 0))
motion_of s (Height z) words =
    if has_z_alone words then Enter (unwrap_or (z_of words) z)
    else Locate (target (record { x = pos 0; y = pos 0; z = z }) words)
motion_of s (At p) words =
    if is_feed s.motion then Feed p (target p words) (unwrap_or s.feed 0) (unwrap_or s.speed 0) (unwrap_or s.tool 0)
    else Rapid p (target p words) (unwrap_or s.tool 0)

abbrev pub stops : List Word → Bool
stops words = has_m words 2 || has_m words 30

abbrev pub no_acts : Acts
no_acts = record { mark = None; tool = None; motion = None; end = false }

-- the acts of a line that is not faulty
abbrev pub acts_of : State → Block → Acts
acts_of s b =
    if s.closed || b.percent then no_acts
    else (let after = prepared s b.words in
    record {
      mark = b.mark;
      tool = if has_m b.words 6 then after.tool else None;
      motion = if has_axis b.words then Some (motion_of after after.tip b.words) else None;
      end = stops b.words;
    })

-- the state after a line that is not faulty
abbrev pub state_after : State → Block → State
state_after s b =
    if s.closed then s
    else if b.percent then record s { began = true; within_percent = true; closed = s.began }
    else (let after = prepared s b.words in
    record after {
      ended = s.ended || stops b.words;
      tip = if has_axis b.words then tip_after_words after.tip b.words else after.tip;
    })

-- the state after lines that are not faulty
abbrev pub state_after_all : State → List Block → State
state_after_all s [] = s
state_after_all s (b ∷ bs) = state_after_all (state_after s b) bs

-- From a state on, the lines are not faulty and give these acts, line by line.
abbrev pub Runs : State → List Block → List Acts → Type 0
Runs s [] acts = acts ≡ []
Runs s (b ∷ bs) acts = (fault_of s b ≡ None) × ((later : List Acts) × (acts ≡ acts_of s b ∷ later) × Runs (state_after s b) bs later)
