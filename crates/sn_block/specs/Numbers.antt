-- Private: only the functions of this crate cite these words. The number of a word, its size counted up to a limit.
use Rattle.std.specs.Prelude.{◌≡◌, ℕ, true, false, min, List, Option, Some, None}
use Rattle.sn_geom.specs.LineText.{is_number, is_negative, is_fine, size_of}
use Rattle.sn_block.specs.declared.number.TheConstants.{MOST_SIZE}
use Rattle.sn_block.specs.declared.number.Number.{Number}

pub record ShowsNumber (places : ℕ) (text : List ℕ) (n : Number) : Type 0 where
  pub is : is_number text ≡ true
  pub negative : n.negative ≡ is_negative text
  pub size : n.size ≡ min MOST_SIZE (size_of places text)
  pub fine : n.fine ≡ is_fine places text

abbrev pub IsNumberOf : ℕ → List ℕ → Option Number → Type 0
IsNumberOf places text None = is_number text ≡ false
IsNumberOf places text (Some n) = ShowsNumber places text n
