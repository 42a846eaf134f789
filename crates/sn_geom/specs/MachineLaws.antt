-- Laws of the machine that runs a program (this project's own).
use Rattle.std.specs.Prelude.{◌≡◌, Bool, true, false, not, ◌&&◌, ◌||◌, List, [], ◌∷◌, ◌++◌, length, find, Some, None, is_none, IsTrue}
use Rattle.std.specs.Option.{option_or}
use Rattle.sn_geom.specs.declared.machine.Word.{Word}
use Rattle.sn_geom.specs.declared.machine.Acts.{Acts}
use Rattle.sn_geom.specs.declared.machine.MachFault.{MachFault}
use Rattle.sn_geom.specs.declared.machine.MachFault.TheVariants.{Percent, AfterEnd, NoMotion, NoTool, WrongOffset, ModeUnset, NoOffset, LostAxis, Slanted, NoFeed, SpindleOff}
use Rattle.sn_geom.specs.declared.tip.Tip.TheVariants.{Unknown}
use Rattle.sn_geom.specs.Block.{Block, has_g, has_m, has_axis, t_of}
use Rattle.sn_geom.specs.Machine.{State, prepared, fault_of, acts_of, no_acts, state_after, state_after_all, says_something, Runs, is_positive, is_feed, are_set, has_wrong_offset, needs_lost, is_slanted}

-- Lists of lines.

-- lines give one list of acts, one entry for each line
abbrev pub LinesHaveOneMeaning : Type 0
LinesHaveOneMeaning =
    (state : State) (blocks : List Block) (some others : List Acts)
    → (Runs state blocks some → Runs state blocks others → some ≡ others) × (Runs state blocks some → length some ≡ length blocks)

-- lines of which one is faulty give no acts
abbrev pub FaultyLinesDoNothing : Type 0
FaultyLinesDoNothing =
    (state : State) (before behind : List Block) (b : Block) (fault : MachFault) (acts : List Acts)
    → fault_of (state_after_all state before) b ≡ Some fault → ¬ Runs state (before ++ b ∷ behind) acts

-- lines go on where the lines before them ended
abbrev pub LinesGoOn : Type 0
LinesGoOn =
    (state : State) (front back : List Block) (some others : List Acts)
    → Runs state front some → Runs (state_after_all state front) back others → Runs state (front ++ back) (some ++ others)

-- Faults.

-- the line counts: no closing percent line came before it, and it is none itself
abbrev pub counts : State → Block → Bool
counts s b = not s.closed && not b.percent

-- the line moves the tip
abbrev pub moves : State → Block → Bool
moves s b = counts s b && has_axis b.words

-- the line has the fault, whatever others it has
abbrev pub has_fault : State → Block → MachFault → Bool
has_fault s b Percent = not s.closed && b.percent && s.began && not s.within_percent
has_fault s b AfterEnd = counts s b && s.ended && says_something b
has_fault s b NoMotion =
    counts s b && ((has_axis b.words && is_none (prepared s b.words).motion)
    || ((has_g b.words 0 || has_g b.words 10) && not (has_axis b.words)))
has_fault s b NoTool = (counts s b && has_m b.words 6 && is_none (prepared s b.words).chosen) || (moves s b && not (is_positive (prepared s b.words).tool))
has_fault s b WrongOffset = counts s b && has_wrong_offset (prepared s b.words) b.words
has_fault s b ModeUnset = moves s b && not (are_set (prepared s b.words).modes)
has_fault s b NoOffset = moves s b && not (prepared s b.words).offset
has_fault s b LostAxis = moves s b && needs_lost (prepared s b.words).tip (prepared s b.words).motion b.words
has_fault s b Slanted = moves s b && is_slanted (prepared s b.words).tip b.words
has_fault s b NoFeed = moves s b && is_feed (prepared s b.words).motion && not (is_positive (prepared s b.words).feed)
has_fault s b SpindleOff =
    moves s b && is_feed (prepared s b.words).motion && not ((prepared s b.words).turning && is_positive (prepared s b.words).speed)

-- the faults in their order
abbrev pub faults : List MachFault
faults =
    Percent ∷ AfterEnd ∷ NoMotion ∷ NoTool ∷ WrongOffset ∷ ModeUnset ∷ NoOffset ∷ LostAxis ∷ Slanted ∷ NoFeed ∷ SpindleOff ∷ []

-- of the faults that a line has, the first in their order is told
abbrev pub FirstFaultIsTold : Type 0
FirstFaultIsTold = (s : State) (b : Block) → fault_of s b ≡ find (λ fault. has_fault s b fault) faults

-- The end.

-- M2 and M30 end the program, and no other word does
abbrev pub StopsEnd : Type 0
StopsEnd =
    (s : State) (b : Block) → IsTrue (counts s b) →
    (IsTrue (has_m b.words 2) → ((acts_of s b).end ≡ true) × ((state_after s b).ended ≡ true))
    × (IsTrue (has_m b.words 30) → ((acts_of s b).end ≡ true) × ((state_after s b).ended ≡ true))
    × (has_m b.words 2 ≡ false → has_m b.words 30 ≡ false → ((acts_of s b).end ≡ false) × ((state_after s b).ended ≡ s.ended))

-- after the end a line that has a word, a number or a mark is faulty
abbrev pub NothingComesAfterTheEnd : Type 0
NothingComesAfterTheEnd =
    (s : State) (b : Block) → IsTrue (counts s b) → IsTrue s.ended → IsTrue (says_something b) → fault_of s b ≡ Some AfterEnd

-- a percent line closes what began with one, and after it nothing counts
abbrev pub NothingCountsOnceClosed : Type 0
NothingCountsOnceClosed =
    (s : State) (b : Block)
    → (s.closed ≡ false → IsTrue s.began → IsTrue s.within_percent → IsTrue b.percent → IsTrue (state_after s b).closed)
    × (IsTrue s.closed → (fault_of s b ≡ None) × (acts_of s b ≡ no_acts) × (state_after s b ≡ s))

-- Tools.

-- a tool change puts the last tool that was chosen into the spindle, loses the place, drops the length offset unless its
-- line applies one, and stops the spindle unless its line starts it
abbrev pub ChangesLoseAll : Type 0
ChangesLoseAll =
    (s : State) (words : List Word) → IsTrue (has_m words 6) →
    let new = prepared s words in
    (new.tool ≡ option_or (t_of words) s.chosen)
    × (new.tip ≡ Unknown)
    × (has_g words 430 ≡ false → new.offset ≡ false)
    × (has_m words 3 ≡ false → new.turning ≡ false)

-- without a tool change the place stays until a motion, whatever the offset, and a T word alone waits
abbrev pub PlacesStay : Type 0
PlacesStay =
    (s : State) (b : Block) → IsTrue (counts s b) → has_m b.words 6 ≡ false → has_axis b.words ≡ false →
    let new = state_after s b in
    (new.tip ≡ s.tip)
    × (new.tool ≡ s.tool)
    × (new.chosen ≡ option_or (t_of b.words) s.chosen)
    × (IsTrue (has_g b.words 490) → has_g b.words 430 ≡ false → new.offset ≡ false)
