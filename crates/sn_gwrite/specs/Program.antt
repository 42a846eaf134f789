-- MEANING: what is written: the text of a program, part by part, the lines of each part by their forms, and what a line of each
-- form says (after RS274/NGC version 3, NISTIR 6556, with marks of this project's own).
use Rattle.std.specs.Prelude.{ℕ, ◌≤◌, ◌<◌, ◌^◌, ◌+◌, ℤ, pos, List, [], ◌∷◌, ◌++◌, codes, decimal, Some, None, true, false, if◌then◌else◌}
use Rattle.std.specs.Ordering.{int_eq}
use Rattle.sn_geom.specs.declared.limits.TheConstants.{MOST_RATE, MOST_TOOL}
use Rattle.sn_geom.specs.declared.units.Pt3.{Pt3}
use Rattle.sn_geom.specs.declared.machine.Word.{Word}
use Rattle.sn_geom.specs.declared.tip.MotionMode.{MotionMode}
use Rattle.sn_geom.specs.declared.tip.MotionMode.TheVariants.{Rapid, Feed}
use Rattle.sn_geom.specs.declared.tip.Tip.{Tip}
use Rattle.sn_geom.specs.declared.tip.Tip.TheVariants.{Unknown, Height, At}
use Rattle.sn_geom.specs.Block.{Block}
use Rattle.sn_geom.specs.Length.{IsLength}
use Rattle.sn_gwrite.specs.Length.{length_text}

-- The text of each part.

-- a tool's number, and the number of its instance in the part
unfoldable pub tool_text : ℕ → ℕ → List ℕ
tool_text number instance = codes "(T" ++ decimal number ++ codes " #" ++ decimal instance ++ codes ")\n"

-- a line for each tool, numbered from this number on
unfoldable pub tools_text : ℕ → List ℕ → List ℕ
tools_text number [] = []
tools_text number (instance ∷ instances) = tool_text number instance ++ tools_text (number + 1) instances

-- the percent line, the modes and the tools
unfoldable pub head_text : List ℕ → List ℕ
head_text tools = codes "%\nG21 G90 G17 G94 G40 G61\n" ++ tools_text 1 tools

-- the mark of a workingstep
unfoldable pub mark_text : ℕ → List ℕ
mark_text ws = codes "(WS #" ++ decimal ws ++ codes ")\n"

-- the change to a tool, and its length offset
unfoldable pub change_text : ℕ → List ℕ
change_text k = codes "T" ++ decimal k ++ codes " M6\nG43 H" ++ decimal k ++ codes "\n"

-- the spindle's speed, clockwise, and the feed
unfoldable pub rates_text : ℕ → ℕ → List ℕ
rates_text speed feed = codes "S" ++ decimal speed ++ codes " M3\nF" ++ decimal feed ++ codes "\n"

-- the word of a motion
abbrev pub mode_text : MotionMode → List ℕ
mode_text Rapid = codes "G0"
mode_text Feed = codes "G1"

-- the axis words of a motion in height, and in the plane
abbrev pub height_text : Pt3 → List ℕ
height_text to = codes " Z" ++ length_text to.z

abbrev pub plan_text : Pt3 → List ℕ
plan_text to = codes " X" ++ length_text to.x ++ codes " Y" ++ length_text to.y

-- the axis words of a motion from a tip: its height where that is not known yet or changes, else its place in the plane
abbrev pub axes_text : Tip → Pt3 → List ℕ
axes_text Unknown to = height_text to
axes_text (Height z) to = plan_text to
axes_text (At from) to = if int_eq from.z to.z then plan_text to else height_text to

-- a motion from a tip to a point
unfoldable pub motion_text : MotionMode → Tip → Pt3 → List ℕ
motion_text mode tip to = mode_text mode ++ axes_text tip to ++ codes "\n"

-- the end of the program
unfoldable pub end_text : List ℕ
end_text = codes "M2\n%\n"

-- The forms of line.

pub data Form : Type 0 where
  PercentSign : Form
  AllModes : Form
  ToolNote : (number instance : ℕ) → Form
  StepMark : ℕ → Form
  ToolChange : ℕ → Form
  LengthOffset : ℕ → Form
  SpindleSpeed : ℕ → Form
  FeedRate : ℕ → Form
  HeightMotion : MotionMode → ℤ → Form
  PlaneMotion : MotionMode → (x y : ℤ) → Form
  ProgramEnd : Form

-- the numbers of the line are within the limits of its words
abbrev pub IsProper : Form → Type 0
IsProper PercentSign = Unit {0}
IsProper AllModes = Unit {0}
IsProper (ToolNote number instance) = (number < 2 ^ 32) × (instance < 2 ^ 32)
IsProper (StepMark n) = (1 ≤ n) × (n < 2 ^ 32)
IsProper (ToolChange k) = k ≤ MOST_TOOL
IsProper (LengthOffset k) = k ≤ MOST_TOOL
IsProper (SpindleSpeed s) = s ≤ MOST_RATE
IsProper (FeedRate f) = f ≤ MOST_RATE
IsProper (HeightMotion mode z) = IsLength z
IsProper (PlaneMotion mode x y) = IsLength x × IsLength y
IsProper ProgramEnd = Unit {0}

abbrev pub form_text : Form → List ℕ
form_text PercentSign = codes "%"
form_text AllModes = codes "G21 G90 G17 G94 G40 G61"
form_text (ToolNote number instance) = codes "(T" ++ decimal number ++ codes " #" ++ decimal instance ++ codes ")"
form_text (StepMark n) = codes "(WS #" ++ decimal n ++ codes ")"
form_text (ToolChange k) = codes "T" ++ decimal k ++ codes " M6"
form_text (LengthOffset k) = codes "G43 H" ++ decimal k
form_text (SpindleSpeed s) = codes "S" ++ decimal s ++ codes " M3"
form_text (FeedRate f) = codes "F" ++ decimal f
form_text (HeightMotion mode z) = mode_text mode ++ (codes " Z" ++ length_text z)
form_text (PlaneMotion mode x y) = mode_text mode ++ (codes " X" ++ length_text x ++ codes " Y" ++ length_text y)
form_text ProgramEnd = codes "M2"

abbrev pub word : ℕ → ℤ → Word
word letter value = record { letter = letter; value = value }

-- a G word, its value in tenths
abbrev pub g : ℕ → Word
g tenths = word 71 (pos tenths)

abbrev pub m : ℕ → Word
m n = word 77 (pos n)

abbrev pub mode_word : MotionMode → Word
mode_word Rapid = g 0
mode_word Feed = g 10

abbrev pub form_words : Form → List Word
form_words PercentSign = []
form_words AllModes = g 210 ∷ g 900 ∷ g 170 ∷ g 940 ∷ g 400 ∷ g 610 ∷ []
form_words (ToolNote number instance) = []
form_words (StepMark n) = []
form_words (ToolChange k) = word 84 (pos k) ∷ m 6 ∷ []
form_words (LengthOffset k) = g 430 ∷ word 72 (pos k) ∷ []
form_words (SpindleSpeed s) = word 83 (pos s) ∷ m 3 ∷ []
form_words (FeedRate f) = word 70 (pos f) ∷ []
form_words (HeightMotion mode z) = mode_word mode ∷ word 90 z ∷ []
form_words (PlaneMotion mode x y) = mode_word mode ∷ word 88 x ∷ word 89 y ∷ []
form_words ProgramEnd = m 2 ∷ []

abbrev pub form_block : Form → Block
form_block PercentSign = record { percent = true; number = None; mark = None; words = [] }
form_block (StepMark n) = record { percent = false; number = None; mark = Some n; words = [] }
form_block form = record { percent = false; number = None; mark = None; words = form_words form }

-- The lines of each part.

-- the text of lines, each with its line feed
abbrev pub forms_text : List Form → List ℕ
forms_text [] = []
forms_text (form ∷ forms) = form_text form ++ 10 ∷ forms_text forms

abbrev pub AreProper : List Form → Type 0
AreProper [] = Unit {0}
AreProper (form ∷ forms) = IsProper form × AreProper forms

-- a note for each tool, numbered from this number on
abbrev pub tools_forms : ℕ → List ℕ → List Form
tools_forms number [] = []
tools_forms number (instance ∷ instances) = ToolNote number instance ∷ tools_forms (number + 1) instances

abbrev pub head_forms : List ℕ → List Form
head_forms tools = PercentSign ∷ AllModes ∷ tools_forms 1 tools

abbrev pub mark_forms : ℕ → List Form
mark_forms ws = StepMark ws ∷ []

abbrev pub change_forms : ℕ → List Form
change_forms k = ToolChange k ∷ LengthOffset k ∷ []

abbrev pub rates_forms : ℕ → ℕ → List Form
rates_forms speed feed = SpindleSpeed speed ∷ FeedRate feed ∷ []

-- the line of a motion from a tip to a point
abbrev pub motion_form : MotionMode → Tip → Pt3 → Form
motion_form mode Unknown to = HeightMotion mode to.z
motion_form mode (Height z) to = PlaneMotion mode to.x to.y
motion_form mode (At from) to = if int_eq from.z to.z then PlaneMotion mode to.x to.y else HeightMotion mode to.z

abbrev pub motion_forms : MotionMode → Tip → Pt3 → List Form
motion_forms mode tip to = motion_form mode tip to ∷ []

abbrev pub end_forms : List Form
end_forms = ProgramEnd ∷ PercentSign ∷ []
