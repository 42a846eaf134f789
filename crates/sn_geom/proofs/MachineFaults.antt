-- The first fault of a line among those that it has.
use Rattle.std.proofs.Common.{◌≡◌, Bool, true, false, not, ◌&&◌, ◌||◌, Option, Some, None, refl}
use Rattle.std.specs.Prelude.{if◌then◌else◌, is_none}
use Rattle.sn_geom.specs.declared.machine.MachFault.{MachFault}
use Rattle.sn_geom.specs.declared.machine.MachFault.TheVariants.{Percent, AfterEnd, NoMotion, NoTool, WrongOffset, ModeUnset, NoOffset, LostAxis, Slanted, NoFeed, SpindleOff}
use Rattle.sn_geom.specs.Block.{has_g, has_m, has_axis}
use Rattle.sn_geom.specs.Machine.{prepared, says_something, is_positive, is_feed, are_set, has_wrong_offset, needs_lost, is_slanted}
use Rattle.sn_geom.specs.MachineLaws.{FirstFaultIsTold}

-- the fault of words as it is told: axes: the line has axis words; still: no motion is active; moving: it has a motion
-- word; change: it changes the tool; unchosen: no tool was chosen; the others are what a motion needs or must not have
abbrev told : (axes still moving change unchosen tool wrong set offset lost slanted feed fed turning : Bool) → Option MachFault
told axes still moving change unchosen tool wrong set offset lost slanted feed fed turning =
    if axes && still then Some NoMotion
    else if moving && not axes then Some NoMotion
    else if change && unchosen then Some NoTool
    else if axes then (if not tool then Some NoTool
    else if wrong then Some WrongOffset
    else if not set then Some ModeUnset
    else if not offset then Some NoOffset
    else if lost then Some LostAxis
    else if slanted then Some Slanted
    else if feed && not fed then Some NoFeed
    else if feed && not turning then Some SpindleOff
    else None)
    else if wrong then Some WrongOffset
    else None

-- the first of the faults that the words have
abbrev first : (axes still moving change unchosen tool wrong set offset lost slanted feed fed turning : Bool) → Option MachFault
first axes still moving change unchosen tool wrong set offset lost slanted feed fed turning =
    if (axes && still) || (moving && not axes) then Some NoMotion
    else if (change && unchosen) || (axes && not tool) then Some NoTool
    else if wrong then Some WrongOffset
    else if axes && not set then Some ModeUnset
    else if axes && not offset then Some NoOffset
    else if axes && lost then Some LostAxis
    else if axes && slanted then Some Slanted
    else if axes && feed && not fed then Some NoFeed
    else if axes && feed && not turning then Some SpindleOff
    else None

told_first : (axes still moving change unchosen tool wrong set offset lost slanted feed fed turning : Bool)
    → told axes still moving change unchosen tool wrong set offset lost slanted feed fed turning ≡ first axes still moving change unchosen tool wrong set offset lost slanted feed fed turning
told_first true true moving change unchosen tool wrong set offset lost slanted feed fed turning = refl
told_first true false true true true tool wrong set offset lost slanted feed fed turning = refl
told_first true false true true false true wrong set offset lost slanted feed fed turning = refl
told_first true false true true false false wrong set offset lost slanted feed fed turning = refl
told_first true false true false unchosen true wrong set offset lost slanted feed fed turning = refl
told_first true false true false unchosen false wrong set offset lost slanted feed fed turning = refl
told_first true false false true true tool wrong set offset lost slanted feed fed turning = refl
told_first true false false true false true wrong set offset lost slanted feed fed turning = refl
told_first true false false true false false wrong set offset lost slanted feed fed turning = refl
told_first true false false false unchosen true wrong set offset lost slanted feed fed turning = refl
told_first true false false false unchosen false wrong set offset lost slanted feed fed turning = refl
told_first false still true change unchosen tool wrong set offset lost slanted feed fed turning = refl
told_first false still false true true tool wrong set offset lost slanted feed fed turning = refl
told_first false still false true false tool wrong set offset lost slanted feed fed turning = refl
told_first false still false false unchosen tool wrong set offset lost slanted feed fed turning = refl

-- the same of a whole line; counting: no closing percent line came before, and the line is none itself
abbrev told_line : (closed percent began within ended says axes still moving change unchosen tool wrong set offset lost slanted feed fed turning : Bool) → Option MachFault
told_line closed percent began within ended says axes still moving change unchosen tool wrong set offset lost slanted feed fed turning =
    if closed then None
    else if percent then (if began && not within then Some Percent else None)
    else if ended && says then Some AfterEnd
    else told axes still moving change unchosen tool wrong set offset lost slanted feed fed turning

abbrev first_of_line : (closed percent began within ended says axes still moving change unchosen tool wrong set offset lost slanted feed fed turning : Bool) → Option MachFault
first_of_line closed percent began within ended says axes still moving change unchosen tool wrong set offset lost slanted feed fed turning =
    let counting = not closed && not percent in
    if not closed && percent && began && not within then Some Percent
    else if counting && ended && says then Some AfterEnd
    else if counting && ((axes && still) || (moving && not axes)) then Some NoMotion
    else if (counting && change && unchosen) || (counting && axes && not tool) then Some NoTool
    else if counting && wrong then Some WrongOffset
    else if counting && axes && not set then Some ModeUnset
    else if counting && axes && not offset then Some NoOffset
    else if counting && axes && lost then Some LostAxis
    else if counting && axes && slanted then Some Slanted
    else if counting && axes && feed && not fed then Some NoFeed
    else if counting && axes && feed && not turning then Some SpindleOff
    else None

line_first : (closed percent began within ended says axes still moving change unchosen tool wrong set offset lost slanted feed fed turning : Bool)
    → told_line closed percent began within ended says axes still moving change unchosen tool wrong set offset lost slanted feed fed turning
    ≡ first_of_line closed percent began within ended says axes still moving change unchosen tool wrong set offset lost slanted feed fed turning
line_first true percent began within ended says axes still moving change unchosen tool wrong set offset lost slanted feed fed turning = refl
line_first false true began within ended says axes still moving change unchosen tool wrong set offset lost slanted feed fed turning = refl
line_first false false began within true true axes still moving change unchosen tool wrong set offset lost slanted feed fed turning = refl
line_first false false began within true false axes still moving change unchosen tool wrong set offset lost slanted feed fed turning =
    told_first axes still moving change unchosen tool wrong set offset lost slanted feed fed turning
line_first false false began within false says axes still moving change unchosen tool wrong set offset lost slanted feed fed turning =
    told_first axes still moving change unchosen tool wrong set offset lost slanted feed fed turning

pub first_fault_is_told : FirstFaultIsTold
first_fault_is_told s b =
    let p = prepared s b.words in
    line_first s.closed b.percent s.began s.within_percent s.ended (says_something b) (has_axis b.words) (is_none p.motion)
    (has_g b.words 0 || has_g b.words 10) (has_m b.words 6) (is_none p.chosen) (is_positive p.tool) (has_wrong_offset p b.words)
    (are_set p.modes) p.offset (needs_lost p.tip p.motion b.words) (is_slanted p.tip b.words) (is_feed p.motion) (is_positive p.feed)
    (p.turning && is_positive p.speed)
