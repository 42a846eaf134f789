-- Private: only the functions of this crate cite these words. What a line does, part by part.
use Rattle.std.specs.Prelude.{ℕ, List, Bool, true, not, ◌&&◌, Option, Some, None, ℤ, pos, ◌||◌, unwrap_or, if◌then◌else◌}
use Rattle.sn_geom.specs.declared.machine.Word.{Word}
use Rattle.sn_geom.specs.declared.machine.Acts.{Acts}
use Rattle.sn_geom.specs.declared.machine.Motion.{Motion}
use Rattle.sn_geom.specs.declared.machine.Motion.TheVariants.{Enter, Locate, Rapid, Feed}
use Rattle.sn_geom.specs.declared.units.Pt3.{Pt3}
use Rattle.sn_geom.specs.Block.{z_of, has_axis, has_m, has_z_alone}
use Rattle.sn_geom.specs.Machine.{State, motion_of, target, is_feed, stops, tip_after_words}

-- where a motion ends that keeps or names the height, and names X and Y
abbrev pub target_at_height : ℤ → List Word → Pt3
target_at_height z words = target (record { x = pos 0; y = pos 0; z = z }) words

-- the motion from a height
abbrev pub motion_at_height : ℤ → List Word → Motion
motion_at_height z words = if has_z_alone words then Enter (unwrap_or (z_of words) z) else Locate (target_at_height z words)

-- the straight motion from a point to a point
abbrev pub motion_between : State → Pt3 → Pt3 → Motion
motion_between s from to =
    if is_feed s.motion then Feed from to (unwrap_or s.feed 0) (unwrap_or s.speed 0) (unwrap_or s.tool 0)
    else Rapid from to (unwrap_or s.tool 0)

-- the state after the motion and the stop of a line, the state before being that of all its other words
abbrev pub moved : State → List Word → State
moved s words = record s {
  ended = s.ended || stops words;
  tip = if has_axis words then tip_after_words s.tip words else s.tip;
}

-- a percent line may not stand here
abbrev pub refuses_percent : State → Bool
refuses_percent s = s.began && not s.within_percent

-- the state after a percent line
abbrev pub after_percent : State → State
after_percent s = record s { began = true; within_percent = true; closed = s.began }

-- the acts of a line's mark and words, the state being that of all words but the motion and the stop
abbrev pub acts_of_words : State → Option ℕ → List Word → Acts
acts_of_words s mark words = record {
  mark = mark;
  tool = if has_m words 6 then s.tool else None;
  motion = if has_axis words then Some (motion_of s s.tip words) else None;
  end = stops words;
}
