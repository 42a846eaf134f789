-- Lines worked by hand: what the machine does on them, and which fault comes first (after RS274/NGC version 3, NISTIR
-- 6556, in this project's profile). Lengths are tenths of a micrometre.
use Rattle.std.specs.Prelude.{◌≡◌, ℕ, ℤ, pos, true, false, List, [], ◌∷◌, Some, None}
use Rattle.sn_geom.specs.declared.units.Pt3.{Pt3}
use Rattle.sn_geom.specs.declared.machine.Word.{Word}
use Rattle.sn_geom.specs.declared.machine.Acts.{Acts}
use Rattle.sn_geom.specs.declared.machine.Motion.{Motion}
use Rattle.sn_geom.specs.declared.machine.Motion.TheVariants.{Enter, Locate, Rapid, Feed}
use Rattle.sn_geom.specs.declared.machine.MachFault.{MachFault}
use Rattle.sn_geom.specs.declared.machine.MachFault.TheVariants.{Percent, AfterEnd, NoMotion, NoTool, WrongOffset, ModeUnset, NoOffset, LostAxis, Slanted, NoFeed, SpindleOff}
use Rattle.sn_geom.specs.declared.tip.Tip.TheVariants.{Unknown, Height, At}
use Rattle.sn_geom.specs.Block.{Block}
use Rattle.sn_geom.specs.Machine.{Modes, State, start, no_acts, fault_of, acts_of, state_after, state_after_all}

-- The words.

abbrev pub word : ℕ → ℤ → Word
word letter value = record { letter = letter; value = value }

-- a G word, its value in tenths
abbrev pub g : ℕ → Word
g tenths = word 71 (pos tenths)

abbrev pub m : ℕ → Word
m value = word 77 (pos value)

abbrev pub x : ℕ → Word
x value = word 88 (pos value)

abbrev pub y : ℕ → Word
y value = word 89 (pos value)

abbrev pub z : ℕ → Word
z value = word 90 (pos value)

abbrev pub f : ℕ → Word
f value = word 70 (pos value)

abbrev pub h : ℕ → Word
h value = word 72 (pos value)

abbrev pub s : ℕ → Word
s value = word 83 (pos value)

abbrev pub t : ℕ → Word
t value = word 84 (pos value)

abbrev pub point : ℕ → ℕ → ℕ → Pt3
point x y z = record { x = pos x; y = pos y; z = pos z }

-- The lines.

abbrev pub line : List Word → Block
line words = record { percent = false; number = None; mark = None; words = words }

abbrev pub numbered : Block
numbered = record { percent = false; number = Some 1; mark = None; words = [] }

abbrev pub marked : ℕ → List Word → Block
marked step words = record { percent = false; number = None; mark = Some step; words = words }

abbrev pub percent_line : Block
percent_line = record { percent = true; number = None; mark = None; words = [] }

abbrev pub all_modes : Block
all_modes = line (g 210 ∷ g 900 ∷ g 170 ∷ g 940 ∷ g 400 ∷ g 610 ∷ [])

abbrev pub change_to : ℕ → Block
change_to tool = line (t tool ∷ m 6 ∷ [])

abbrev pub offset_of : ℕ → Block
offset_of tool = line (g 430 ∷ h tool ∷ [])

-- The acts.

abbrev pub marks : ℕ → Acts
marks step = record no_acts { mark = Some step }

abbrev pub puts : ℕ → Acts
puts tool = record no_acts { tool = Some tool }

abbrev pub moves : Motion → Acts
moves motion = record no_acts { motion = Some motion }

abbrev pub ends : Acts
ends = record no_acts { end = true }

-- The states.

abbrev pub after_words : State → List Word → State
after_words state words = state_after state (line words)

abbrev pub reached : List Block → State
reached blocks = state_after_all start blocks

-- tool 1 is in the spindle, all modes are set
abbrev pub with_tool : State
with_tool = reached (all_modes ∷ change_to 1 ∷ [])

-- its length offset is applied
abbrev pub with_offset : State
with_offset = state_after_all with_tool (offset_of 1 ∷ [])

-- the tip is at the height 20
abbrev pub raised : State
raised = after_words with_offset (g 0 ∷ z 20 ∷ [])

-- the tip is at (0, 0, 20); no feed was given, and the spindle stands still
abbrev pub located : State
located = after_words raised (x 0 ∷ y 0 ∷ [])

-- the spindle turns with 2000 rev/min, the feed is 300 mm/min
abbrev pub ready : State
ready = after_words located (s 2000 ∷ m 3 ∷ f 300 ∷ [])

abbrev pub ended : State
ended = reached (line (m 2 ∷ []) ∷ [])

abbrev pub closed : State
closed = reached (percent_line ∷ all_modes ∷ percent_line ∷ [])

abbrev pub with_modes : State → Modes → State
with_modes state modes = record state { modes = modes }

abbrev pub Fails : State → List Word → MachFault → Type 0
Fails state words fault = fault_of state (line words) ≡ Some fault

abbrev pub Does : State → List Word → Acts → Type 0
Does state words acts = (fault_of state (line words) ≡ None) × (acts_of state (line words) ≡ acts)

-- The examples.

-- of two faults of a line the one that stands first in their order is told
abbrev pub FaultsHaveAnOrder : Type 0
FaultsHaveAnOrder =
    (fault_of ended percent_line ≡ Some Percent)
    × Fails ended (x 10 ∷ []) AfterEnd
    × Fails start (x 10 ∷ []) NoMotion
    × Fails start (g 430 ∷ h 1 ∷ g 0 ∷ z 20 ∷ []) NoTool
    × Fails (reached (change_to 1 ∷ [])) (g 430 ∷ h 2 ∷ g 0 ∷ z 20 ∷ []) WrongOffset
    × Fails (reached (change_to 1 ∷ [])) (g 0 ∷ z 20 ∷ []) ModeUnset
    × Fails with_tool (g 0 ∷ x 0 ∷ y 0 ∷ []) NoOffset
    × Fails with_offset (g 10 ∷ z 20 ∷ []) LostAxis
    × Fails located (g 10 ∷ x 10 ∷ z 10 ∷ []) Slanted
    × Fails located (g 10 ∷ x 10 ∷ []) NoFeed
    × Fails (after_words located (f 300 ∷ [])) (g 10 ∷ x 10 ∷ []) SpindleOff

-- a percent sign opens or closes a program that began with one; after that nothing counts, and after the end only lines
-- that say nothing
abbrev pub ProgramsEndOnce : Type 0
ProgramsEndOnce =
    (fault_of start percent_line ≡ None)
    × (fault_of (reached (percent_line ∷ all_modes ∷ [])) percent_line ≡ None)
    × (fault_of (reached (all_modes ∷ [])) percent_line ≡ Some Percent)
    × (fault_of (reached (line [] ∷ [])) percent_line ≡ Some Percent)
    × Does closed (x 10 ∷ m 2 ∷ []) no_acts
    × (fault_of closed percent_line ≡ None)
    × (after_words closed (g 0 ∷ f 300 ∷ []) ≡ closed)
    × Does ended [] no_acts
    × (fault_of ended numbered ≡ Some AfterEnd)
    × (fault_of ended (marked 4 []) ≡ Some AfterEnd)
    × Does start (m 2 ∷ []) ends
    × Does start (m 30 ∷ []) ends
    × Fails (after_words start (m 30 ∷ [])) (m 0 ∷ []) AfterEnd

-- a tool has to be chosen and put in, and its own length offset applied; a tool with the number 0 is none
abbrev pub ToolsArePutIn : Type 0
ToolsArePutIn =
    Fails start (m 6 ∷ []) NoTool
    × Does start (t 2 ∷ []) no_acts
    × Does (after_words start (t 2 ∷ [])) (m 6 ∷ []) (puts 2)
    × ((after_words ready (t 2 ∷ [])).tool ≡ Some 1)
    × Does (after_words ready (t 2 ∷ [])) (m 6 ∷ []) (puts 2)
    × Does start (t 0 ∷ m 6 ∷ []) (puts 0)
    × Fails (after_words with_tool (t 0 ∷ m 6 ∷ [])) (g 430 ∷ h 0 ∷ []) WrongOffset
    × Fails (after_words with_tool (t 0 ∷ m 6 ∷ [])) (g 0 ∷ z 20 ∷ []) NoTool
    × Fails with_tool (g 430 ∷ []) WrongOffset
    × Fails with_tool (g 430 ∷ h 2 ∷ []) WrongOffset
    × Fails with_tool (h 1 ∷ []) WrongOffset
    × Does with_tool (g 430 ∷ h 1 ∷ []) no_acts
    × Fails (after_words ready (g 490 ∷ [])) (g 0 ∷ x 10 ∷ []) NoOffset

-- a tool change, of the same tool too, loses the place and the length offset and stops the spindle, and its line's own
-- words come after it
abbrev pub ToolChangesLosePlace : Type 0
ToolChangesLosePlace =
    let changed = after_words ready (t 1 ∷ m 6 ∷ []) in
    let begun = after_words ready (t 1 ∷ m 6 ∷ g 430 ∷ h 1 ∷ m 3 ∷ []) in
    (changed.tip ≡ Unknown)
    × (changed.offset ≡ false)
    × (changed.turning ≡ false)
    × (changed.feed ≡ Some 300)
    × (changed.speed ≡ Some 2000)
    × (changed.modes ≡ ready.modes)
    × (begun.offset ≡ true)
    × (begun.turning ≡ true)

-- a motion has an axis, and axes have a motion
abbrev pub MotionsHaveAxes : Type 0
MotionsHaveAxes =
    Fails ready (g 0 ∷ []) NoMotion
    × Fails ready (g 10 ∷ []) NoMotion
    × Fails ready (g 800 ∷ x 10 ∷ []) NoMotion
    × Does ready (g 800 ∷ []) no_acts
    × Fails (after_words ready (g 800 ∷ [])) (x 10 ∷ []) NoMotion

-- each of the six modes has to be set before the first motion
abbrev pub MotionsNeedModes : Type 0
MotionsNeedModes =
    let all = ready.modes in
    Fails (with_modes ready (record all { g21 = false })) (x 10 ∷ []) ModeUnset
    × Fails (with_modes ready (record all { g17 = false })) (x 10 ∷ []) ModeUnset
    × Fails (with_modes ready (record all { g90 = false })) (x 10 ∷ []) ModeUnset
    × Fails (with_modes ready (record all { g94 = false })) (x 10 ∷ []) ModeUnset
    × Fails (with_modes ready (record all { g40 = false })) (x 10 ∷ []) ModeUnset
    × Fails (with_modes ready (record all { g61 = false })) (x 10 ∷ []) ModeUnset
    × Does (with_modes ready (record all { g61 = false })) (g 611 ∷ g 0 ∷ x 10 ∷ []) (moves (Rapid (point 0 0 20) (point 10 0 20) 1))

-- while the place is unknown the tip goes up or down in rapid, then to a place at that height
abbrev pub PlacesAreFound : Type 0
PlacesAreFound =
    Does with_offset (g 0 ∷ z 20 ∷ []) (moves (Enter (pos 20)))
    × Fails with_offset (g 0 ∷ x 0 ∷ y 0 ∷ z 20 ∷ []) LostAxis
    × Fails with_offset (g 0 ∷ x 0 ∷ y 0 ∷ []) LostAxis
    × Does raised (z 30 ∷ []) (moves (Enter (pos 30)))
    × ((after_words raised (z 30 ∷ [])).tip ≡ Height (pos 30))
    × Fails raised (x 5 ∷ []) LostAxis
    × Fails raised (y 5 ∷ []) LostAxis
    × Fails raised (x 5 ∷ y 5 ∷ z 30 ∷ []) LostAxis
    × Fails raised (g 10 ∷ z 10 ∷ []) LostAxis
    × Fails raised (g 10 ∷ x 5 ∷ y 5 ∷ []) LostAxis
    × Does raised (x 5 ∷ y 5 ∷ []) (moves (Locate (point 5 5 20)))
    × Does raised (x 5 ∷ y 5 ∷ z 20 ∷ []) (moves (Locate (point 5 5 20)))
    × ((after_words raised (x 5 ∷ y 5 ∷ [])).tip ≡ At (point 5 5 20))

-- a motion keeps the axes that have no word, and the next line goes on with it; an axis may be named with its own value
abbrev pub MotionsGoOn : Type 0
MotionsGoOn =
    let fed = after_words ready (g 10 ∷ x 10 ∷ []) in
    Does ready (x 10 ∷ []) (moves (Rapid (point 0 0 20) (point 10 0 20) 1))
    × Does ready (g 10 ∷ x 10 ∷ []) (moves (Feed (point 0 0 20) (point 10 0 20) 300 2000 1))
    × Does fed (y 5 ∷ []) (moves (Feed (point 10 0 20) (point 10 5 20) 300 2000 1))
    × Does fed (x 10 ∷ z 5 ∷ []) (moves (Feed (point 10 0 20) (point 10 0 5) 300 2000 1))
    × Does fed (x 0 ∷ y 5 ∷ f 100 ∷ s 500 ∷ []) (moves (Feed (point 10 0 20) (point 0 5 20) 100 500 1))
    × Does fed (g 0 ∷ x 10 ∷ y 0 ∷ z 20 ∷ []) (moves (Rapid (point 10 0 20) (point 10 0 20) 1))
    × Fails fed (y 5 ∷ z 5 ∷ []) Slanted
    × Fails fed (g 0 ∷ x 5 ∷ z 5 ∷ []) Slanted

-- a feed needs a feed and a turning spindle that are not 0, and a speed alone turns nothing
abbrev pub FeedsNeedSpindle : Type 0
FeedsNeedSpindle =
    let speed_alone = after_words located (s 2000 ∷ f 300 ∷ []) in
    let turned_alone = after_words located (m 3 ∷ f 300 ∷ []) in
    Fails speed_alone (g 10 ∷ x 10 ∷ []) SpindleOff
    × Fails turned_alone (g 10 ∷ x 10 ∷ []) SpindleOff
    × Fails ready (m 5 ∷ g 10 ∷ x 10 ∷ []) SpindleOff
    × Fails ready (s 0 ∷ g 10 ∷ x 10 ∷ []) SpindleOff
    × Fails ready (f 0 ∷ g 10 ∷ x 10 ∷ []) NoFeed
    × Does speed_alone (x 10 ∷ []) (moves (Rapid (point 0 0 20) (point 10 0 20) 1))

-- a line's mark comes before its tool change, that before its motion, and the end last; the words' order does not matter
abbrev pub WordsHaveNoOrder : Type 0
WordsHaveNoOrder =
    let b = marked 9 (m 2 ∷ z 20 ∷ g 0 ∷ h 2 ∷ g 430 ∷ m 6 ∷ t 2 ∷ []) in
    (fault_of ready b ≡ None)
    × (acts_of ready b ≡ record { mark = Some 9; tool = Some 2; motion = Some (Enter (pos 20)); end = true })
    × (acts_of ready (marked 9 []) ≡ marks 9)

-- stops that are no end, coolant and the first work coordinate system change nothing
abbrev pub IdleWordsDoNothing : Type 0
IdleWordsDoNothing =
    let words = m 0 ∷ m 1 ∷ m 60 ∷ m 7 ∷ m 8 ∷ m 9 ∷ g 540 ∷ [] in
    Does ready words no_acts × (after_words ready words ≡ ready)
