-- Private: only the functions of this crate cite these words. What the parts of the machine's state stand for.
use Rattle.std.specs.Prelude.{Bool, true, false, List, if◌then◌else◌}
use Rattle.sn_geom.specs.declared.machine.Word.{Word}
use Rattle.sn_geom.specs.Block.{has_g, has_m}
use Rattle.sn_machine.specs.declared.state.Demarcation.{Demarcation}
use Rattle.sn_machine.specs.declared.state.Demarcation.TheVariants.{Unread, Absent, Opened, Closed}
use Rattle.sn_machine.specs.declared.state.Stage.{Stage}
use Rattle.sn_machine.specs.declared.state.Stage.TheVariants.{Running, Ended}
use Rattle.sn_machine.specs.declared.state.Spindle.{Spindle}
use Rattle.sn_machine.specs.declared.state.Spindle.TheVariants.{Stopped, Turning}
use Rattle.sn_machine.specs.declared.state.LengthOffset.{LengthOffset}
use Rattle.sn_machine.specs.declared.state.LengthOffset.TheVariants.{Dropped, Applied}

-- a line was read
abbrev pub is_begun : Demarcation → Bool
is_begun Unread = false
is_begun Absent = true
is_begun Opened = true
is_begun Closed = true

-- the first line was a percent line
abbrev pub is_within : Demarcation → Bool
is_within Unread = false
is_within Absent = false
is_within Opened = true
is_within Closed = true

-- a second percent line was read
abbrev pub is_closed : Demarcation → Bool
is_closed Unread = false
is_closed Absent = false
is_closed Opened = false
is_closed Closed = true

abbrev pub is_ended : Stage → Bool
is_ended Running = false
is_ended Ended = true

abbrev pub is_turning : Spindle → Bool
is_turning Stopped = false
is_turning Turning = true

abbrev pub is_applied : LengthOffset → Bool
is_applied Dropped = false
is_applied Applied = true

-- the spindle turns with the words: a tool change stops it, unless they start it
abbrev pub turns_after : Bool → List Word → Bool
turns_after turning words = if has_m words 3 then true else if has_m words 5 then false else if has_m words 6 then false else turning

-- the length offset is applied with the words: a tool change drops it, unless they apply one
abbrev pub applies_after : Bool → List Word → Bool
applies_after offset words = if has_g words 430 then true else if has_g words 490 then false else if has_m words 6 then false else offset
