-- MEANING (this project's own): what a model holds.
use Rattle.std.specs.Prelude.{ℕ, nat_eq, List, Option, Some, None}
use Rattle.std.specs.Map.{lookup}
use Rattle.sn_entity.specs.declared.row.RowId.{RowId}
use Rattle.sn_model.specs.declared.model.Entry.{Entry}
use Rattle.sn_model.specs.declared.model.Kept.{Kept}

-- the numbers of the instances with what is kept of each, in file order, and the number of the project
pub record ModelContent : Type 0 where
  pub kept : List (ℕ × Kept)
  pub project : ℕ

-- what is kept under a number
abbrev pub kept_of : ℕ → List (ℕ × Kept) → Option Kept
kept_of n kept = lookup (nat_eq n) kept

abbrev pub entry_from : Option Kept → Option Entry
entry_from None = None
entry_from (Some k) = Some k.entry

abbrev pub row_from : Option Kept → Option RowId
row_from None = None
row_from (Some k) = k.row

-- what is kept of the instance of a number, if there is one
abbrev pub entry_of : ℕ → ModelContent → Option Entry
entry_of n m = entry_from (kept_of n m.kept)

-- its row by its keyword
abbrev pub row_of_number : ℕ → ModelContent → Option RowId
row_of_number n m = row_from (kept_of n m.kept)
