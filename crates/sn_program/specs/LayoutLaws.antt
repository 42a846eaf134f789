-- MEANING: laws of the layout of programs (this project's own).
use Rattle.std.specs.Prelude.{◌≡◌, ◌≢◌, ◌↔◌, ◌||◌, ◌==◌, ℕ, true, false, List, [], ◌∷◌, ◌++◌, Some, None, All}
use Rattle.sn_geom.specs.declared.machine.Word.{Word}
use Rattle.sn_geom.specs.declared.tip.MotionMode.{MotionMode}
use Rattle.sn_geom.specs.Acts.{Act, RunsTo}
use Rattle.sn_geom.specs.Block.{Block, has_g, has_axis, value_of, lines_of}
use Rattle.sn_geom.specs.LineTable.{is_modal, is_rate}
use Rattle.sn_geom.specs.Machine.{State}
use Rattle.sn_geom.specs.MachineExamples.{line}
use Rattle.sn_geom.specs.Meaning.{Means, IsWholeLines}
use Rattle.sn_gwrite.specs.Program.{mode_word}
use Rattle.sn_outline.specs.Job.{Job}
use Rattle.sn_open.specs.Good.{Good}
use Rattle.sn_program.specs.Layout.{AreEquivalent, HaveSameWords, AreSameLines, IsSilent, DoTheSame, DoTheWhole}

-- Programs.

-- of programs that mean the same acts one is good where the other is
abbrev pub GoodGoesByTheActs : Type 0
GoodGoesByTheActs = (job : Job) (text other : List ℕ) (acts : List Act) → Means text acts → Means other acts → Good job text → Good job other

-- programs are equivalent whose lines say the same, one by one
abbrev pub LinesOfOneBlock : Type 0
LinesOfOneBlock = (text other : List ℕ) → AreSameLines (lines_of text) (lines_of other) → AreEquivalent text other

-- behind the first line, lines that say nothing may stand anywhere
abbrev pub SilentLinesDoNothing : Type 0
SilentLinesDoNothing =
    (front silent back : List ℕ) → front ≢ [] → IsWholeLines front → IsWholeLines silent → All IsSilent (lines_of silent)
    → AreEquivalent (front ++ (silent ++ back)) (front ++ back)

-- Words.

-- two words may stand in either order where their letters differ, and so may two G words or two M words
abbrev pub WordsMaySwap : Type 0
WordsMaySwap =
    (before after : List Word) (some other : Word) → (some.letter ≡ other.letter → is_modal some.letter ≡ true)
    → HaveSameWords (before ++ some ∷ other ∷ after) (before ++ other ∷ some ∷ after)

-- where its motion is active already, a line with axis words needs no word for it
abbrev pub ModalMotionsMayBeLeftOut : Type 0
ModalMotionsMayBeLeftOut =
    (s : State) (mode : MotionMode) (block : Block) → s.motion ≡ Some mode → has_axis block.words ≡ true
    → (has_g block.words 0 || has_g block.words 10 || has_g block.words 800) ≡ false
    → DoTheSame s block s (record block { words = mode_word mode ∷ block.words })

-- before the end of a program a feed, a speed or the choice of a tool may stand on a line of its own, before that of the
-- other words
abbrev pub RatesMayStandAlone : Type 0
RatesMayStandAlone =
    (s : State) (w : Word) (words : List Word) → s.closed ≡ false → s.ended ≡ false → (is_rate w.letter || w.letter == 84) ≡ true
    → value_of words w.letter ≡ None → DoTheWhole s (line (w ∷ words)) (line (w ∷ [])) (line words)

-- a line that does the same as another, or two lines that do the same as one, may stand in its place
abbrev pub LinesMayBeReplaced : Type 0
LinesMayBeReplaced =
    (s : State) (block : Block) (behind : List Block) (acts : List Act)
    → ((other : Block) → DoTheSame s other s block → RunsTo s (block ∷ behind) acts ↔ RunsTo s (other ∷ behind) acts)
    × ((first second : Block) → DoTheWhole s block first second → RunsTo s (block ∷ behind) acts ↔ RunsTo s (first ∷ second ∷ behind) acts)
