-- Laws of command lines (this project's own).
use Rattle.std.specs.Prelude.{◌≡◌, ◌⊎◌, ◌∷◌, ◌++◌, ℕ, List}
use Rattle.std.specs.List.{flat_map}
use Rattle.sn_words.specs.Command.{Setting, cell, raw, assign, words_of, command_word, IsFileCommand, IsCommand, IsAccepted, DepartsAt}
use Rattle.sn_words.specs.Options.{Options, IsWithinLimits}

-- one list of words says one thing
abbrev pub SaysOneThing : Type 0
SaysOneThing = (words : List (List ℕ)) (o p : Options) → IsCommand words o → IsCommand words p → o ≡ p

-- a list departs at one place
abbrev pub DepartsOnce : Type 0
DepartsOnce = (words : List (List ℕ)) (j k : ℕ) → DepartsAt words j → DepartsAt words k → j ≡ k

-- a list that is accepted departs nowhere
abbrev pub AcceptedOrDeparts : Type 0
AcceptedOrDeparts = (words : List (List ℕ)) (k : ℕ) → IsAccepted words → DepartsAt words k → ⊥

-- an option, and no assignment
abbrev pub IsOption : Setting → Type 0
IsOption (cell word pitch) = Unit {0}
IsOption (raw word box) = Unit {0}
IsOption (assign word a) = ⊥

-- an option and its neighbour may change places: the words are accepted and say the same
abbrev pub OptionsChangePlaces : Type 0
OptionsChangePlaces =
    (words : List (List ℕ)) (o : Options) (h : IsFileCommand words o) (before after : List Setting) (s t : Setting) →
    h.settings ≡ before ++ s ∷ t ∷ after → IsOption s ⊎ IsOption t →
    IsCommand (command_word h.command ∷ (h.files ++ flat_map words_of (before ++ t ∷ s ∷ after))) o

-- what words say is within its limits
abbrev pub SaysWithinLimits : Type 0
SaysWithinLimits = (words : List (List ℕ)) (o : Options) → IsCommand words o → IsWithinLimits o
