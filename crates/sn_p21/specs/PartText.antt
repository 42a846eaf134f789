-- MEANING (ISO 10303-21, exchange structure, in this project's profile): part texts.
use Rattle.std.specs.Prelude.{◌≡◌, ℕ, List}
use Rattle.std.specs.List.{AllByRecursion}
use Rattle.sn_p21.specs.Canonical.{canonical_text}
use Rattle.sn_p21.specs.Content.{Content}
use Rattle.sn_p21.specs.Grammar.{AreFileWords, IsFile, rows_words}
use Rattle.sn_p21.specs.Word.{Word, AreWords, IsSpelled}

-- The bytes are words with separators between them, derived from the file by the grammar.
pub record IsPartText (bytes : List ℕ) (f : Content) : Type 0 where
  pub ws : List Word
  pub words : AreWords bytes ws
  pub derived : AreFileWords f ws
  pub rule : IsFile f

-- one text is one file
abbrev pub OneFile : Type 0
OneFile = (bytes : List ℕ) (f g : Content) → IsPartText bytes f → IsPartText bytes g → f ≡ g

-- the canonical text of a file is a part text of it
abbrev pub ReadsCanonical : Type 0
ReadsCanonical = (f : Content) → IsFile f → IsPartText (canonical_text f) f

-- the instances of a file have the forms of their tokens
abbrev pub InstancesAreSpelled : Type 0
InstancesAreSpelled = (f : Content) → IsFile f → AllByRecursion IsSpelled (rows_words f.instances)
