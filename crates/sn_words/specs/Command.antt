-- MEANING: the command line: which lists of words are accepted, what they say, and where others depart (this project's own).
use Rattle.std.specs.Prelude.{◌≡◌, ◌≢◌, ◌⊎◌, ◌+◌, ◌-◌, ◌≤◌, ◌<◌, ℕ, List, [], ◌∷◌, ◌++◌, Option, Some, None, length, take, codes, unwrap_or, slice_get, filter_map, All}
use Rattle.std.specs.List.{AllPairs, flat_map}
use Rattle.sn_words.specs.Options.{Options}
use Rattle.sn_words.specs.WordForms.{IsFileWord, IsSeedWord, IsPitchWord, IsBoxWord, IsAssignmentWord}
use Rattle.sn_words.specs.declared.limits.TheConstants.{DEFAULT_PITCH}
use Rattle.sn_words.specs.declared.options.Assign.{Assign}
use Rattle.sn_words.specs.declared.options.Command.{Command}
use Rattle.sn_words.specs.declared.options.Command.TheVariants.{Compile, Verify, Report, Make, Trial}
use Rattle.sn_words.specs.declared.options.RawBox.{RawBox}

-- ---- options and assignments

-- an option or an assignment: the word that has its value, and the value
pub data Setting : Type 0 where
  cell : List ℕ → ℕ → Setting
  raw : List ℕ → RawBox → Setting
  assign : List ℕ → Assign → Setting

-- the words that a setting is written with
abbrev pub words_of : Setting → List (List ℕ)
words_of (cell word pitch) = codes "--cell" ∷ word ∷ []
words_of (raw word box) = codes "--raw" ∷ word ∷ []
words_of (assign word a) = word ∷ []

-- the word has this value
abbrev pub IsRead : Setting → Type 0
IsRead (cell word pitch) = IsPitchWord word pitch
IsRead (raw word box) = IsBoxWord word box
IsRead (assign word a) = IsAssignmentWord word a

-- two settings that may stand in one list: two kinds, or two names
abbrev pub AreTwo : Setting → Setting → Type 0
AreTwo (cell word pitch) (cell other p) = ⊥
AreTwo (raw word box) (raw other b) = ⊥
AreTwo (assign word a) (assign other b) = a.name ≢ b.name
AreTwo s t = Unit {0}

-- the words are these settings, in any order and none of them twice
pub record AreSettings (words : List (List ℕ)) (settings : List Setting) : Type 0 where
  pub order : words ≡ flat_map words_of settings
  pub read : All IsRead settings
  pub single : AllPairs AreTwo settings

abbrev pub pitch_in : Setting → Option ℕ
pitch_in (cell word pitch) = Some pitch
pitch_in s = None

abbrev pub box_in : Setting → Option RawBox
box_in (raw word box) = Some box
box_in s = None

abbrev pub assignment_in : Setting → Option Assign
assignment_in (assign word a) = Some a
assignment_in s = None

-- the pitch that is given
abbrev pub pitch_of : List Setting → Option ℕ
pitch_of settings = slice_get (filter_map pitch_in settings) 0

-- the raw box that is given
abbrev pub box_of : List Setting → Option RawBox
box_of settings = slice_get (filter_map box_in settings) 0

-- the assignments in order
abbrev pub assignments_of : List Setting → List Assign
assignments_of settings = filter_map assignment_in settings

-- ---- command lines

abbrev pub command_word : Command → List ℕ
command_word Compile = codes "compile"
command_word Verify = codes "verify"
command_word Report = codes "report"
command_word Make = codes "make"
command_word Trial = codes "trial"

-- so many file words follow the command's word
abbrev pub TakesFiles : Command → ℕ → Type 0
TakesFiles Compile n = n ≡ 1
TakesFiles Verify n = n ≡ 2
TakesFiles Report n = n ≡ 1
TakesFiles Make n = ⊥
TakesFiles Trial n = ⊥

-- a seed follows the command's word
abbrev pub TakesSeed : Command → Type 0
TakesSeed Compile = ⊥
TakesSeed Verify = ⊥
TakesSeed Report = ⊥
TakesSeed Make = Unit {0}
TakesSeed Trial = Unit {0}

-- what a command says with file words and settings
abbrev pub with_files : Command → List (List ℕ) → List Setting → Options
with_files command files settings = record {
  command = command;
  files = files;
  seed = 0;
  pitch = unwrap_or (pitch_of settings) DEFAULT_PITCH;
  raw = box_of settings;
  sets = assignments_of settings;
}

-- what a command says with a seed
abbrev pub with_seed : Command → ℕ → Options
with_seed command seed = record {
  command = command;
  files = [];
  seed = seed;
  pitch = DEFAULT_PITCH;
  raw = None;
  sets = [];
}

-- the words are a command's word, its file words, and settings
pub record IsFileCommand (words : List (List ℕ)) (o : Options) : Type 0 where
  pub command : Command
  pub files : List (List ℕ)
  pub rest : List (List ℕ)
  pub settings : List Setting
  pub order : words ≡ command_word command ∷ (files ++ rest)
  pub takes : TakesFiles command (length files)
  pub names : All IsFileWord files
  pub settings_are : AreSettings rest settings
  pub says : o ≡ with_files command files settings

-- the words are a command's word and a seed
pub record IsSeedCommand (words : List (List ℕ)) (o : Options) : Type 0 where
  pub command : Command
  pub word : List ℕ
  pub seed : ℕ
  pub order : words ≡ command_word command ∷ word ∷ []
  pub takes : TakesSeed command
  pub seed_is : IsSeedWord word seed
  pub says : o ≡ with_seed command seed

-- the words are accepted and say this
abbrev pub IsCommand : List (List ℕ) → Options → Type 0
IsCommand words o = IsFileCommand words o ⊎ IsSeedCommand words o

abbrev pub IsAccepted : List (List ℕ) → Type 0
IsAccepted words = (o : Options) × IsCommand words o

-- ---- where words depart

-- some list of those that are accepted begins with the words
abbrev pub Begins : (List (List ℕ) → Type 0) → List (List ℕ) → Type 0
Begins accepted words = (later : List (List ℕ)) × accepted (words ++ later)

-- the words are not accepted, and the word at the place, counted from 1, is the first after which none can follow: the
-- words before it begin an accepted list, those up to it begin none; a missing word has the place after the last
pub record Departs (accepted : List (List ℕ) → Type 0) (words : List (List ℕ)) (place : ℕ) : Type 0 where
  pub first : 1 ≤ place
  pub before : Begins accepted (take (place - 1) words)
  pub at : (place ≤ length words → ¬ Begins accepted (take place words)) × (length words < place → (place ≡ length words + 1) × ¬ accepted words)

abbrev pub DepartsAt : List (List ℕ) → ℕ → Type 0
DepartsAt words place = Departs IsAccepted words place
