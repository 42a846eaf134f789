-- MEANING: what words ask for (this project's own).
use Rattle.std.specs.Prelude.{◌≡◌, ◌⊎◌, ℕ, List, [], ◌∷◌}
use Rattle.sn_words.specs.Command.{IsCommand}
use Rattle.sn_words.specs.Options.{Options}
use Rattle.sn_words.specs.declared.options.Command.{Command}
use Rattle.sn_words.specs.declared.options.Command.TheVariants.{Compile, Verify, Report, Make, Trial}

-- the words are accepted, and ask for what this command gives
pub record AsksFor (words : List (List ℕ)) (command : Command) : Type 0 where
  pub options : Options
  pub accepted : IsCommand words options
  pub asks : options.command ≡ command

-- the words ask for the counts of a part: of that of a file, or of the one that is generated from a seed
abbrev pub AsksForCounts : List (List ℕ) → Type 0
AsksForCounts words = AsksFor words Report ⊎ AsksFor words Trial

-- the words ask for the program or for the counts of a part: a part is planned for them
abbrev pub AsksForPlan : List (List ℕ) → Type 0
AsksForPlan words = AsksFor words Compile ⊎ AsksForCounts words

-- the words ask for the program or for the counts of the part of a file, with these options
pub record IsOfFile (words : List (List ℕ)) (part : List ℕ) (o : Options) : Type 0 where
  pub accepted : IsCommand words o
  pub plans : (o.command ≡ Compile) ⊎ (o.command ≡ Report)
  pub file : o.files ≡ part ∷ []

-- the words ask for the counts of the part that is generated from the seed of these options
pub record IsOfSeed (words : List (List ℕ)) (o : Options) : Type 0 where
  pub accepted : IsCommand words o
  pub tries : o.command ≡ Trial

-- the words ask for the verdict on a program for a part, with these options
pub record IsVerify (words : List (List ℕ)) (part program : List ℕ) (o : Options) : Type 0 where
  pub accepted : IsCommand words o
  pub verifies : o.command ≡ Verify
  pub file : o.files ≡ part ∷ program ∷ []

-- the options give one pitch, one raw box and the same values: one job comes of a part with either
pub record HaveOneSetting (o p : Options) : Type 0 where
  pub pitch : p.pitch ≡ o.pitch
  pub raw : p.raw ≡ o.raw
  pub sets : p.sets ≡ o.sets

-- the words ask for the part that is generated from this seed
pub record IsMake (words : List (List ℕ)) (seed : ℕ) : Type 0 where
  pub options : Options
  pub accepted : IsCommand words options
  pub makes : options.command ≡ Make
  pub seed_is : options.seed ≡ seed

-- the words are accepted and name no file
pub record NamesNoFile (words : List (List ℕ)) : Type 0 where
  pub options : Options
  pub accepted : IsCommand words options
  pub none : options.files ≡ []
