-- MEANING: laws of what words ask for.
use Rattle.std.specs.Prelude.{◌≡◌, ◌⊎◌, ℕ, List, [], None}
use Rattle.sn_words.specs.Command.{IsCommand}
use Rattle.sn_words.specs.Options.{Options}
use Rattle.sn_words.specs.declared.limits.TheConstants.{DEFAULT_PITCH}
use Rattle.sn_words.specs.declared.options.Command.{Command}
use Rattle.sn_run.specs.Command.{AsksFor, IsMake, IsOfFile, IsOfSeed, IsVerify, NamesNoFile}

-- accepted words ask for one thing: the plan of the part of a file, the plan of a part that is generated, a verdict, or a part
abbrev pub AcceptedWordsAsk : Type 0
AcceptedWordsAsk =
    (words : List (List ℕ)) (o : Options) → IsCommand words o
    → ((part : List ℕ) × IsOfFile words part o) ⊎ (IsOfSeed words o ⊎ (((part : List ℕ) × (program : List ℕ) × IsVerify words part program o) ⊎ IsMake words o.seed))

-- words ask for what one command gives
abbrev pub OneCommand : Type 0
OneCommand = (words : List (List ℕ)) (some other : Command) → AsksFor words some → AsksFor words other → some ≡ other

-- a part that is generated is counted at a pitch of a quarter of a millimetre, with no raw box and no values that are given, and
-- no file is named for it
abbrev pub TrialsHaveNoOptions : Type 0
TrialsHaveNoOptions = (words : List (List ℕ)) (o : Options) → IsOfSeed words o → (o.pitch ≡ DEFAULT_PITCH) × (o.raw ≡ None) × (o.sets ≡ []) × NamesNoFile words
