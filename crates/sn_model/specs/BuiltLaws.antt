-- MEANING (this project's own): what is kept of the instances of a model.
use Rattle.std.specs.Prelude.{◌≡◌, ◌≢◌, ℕ, ◌<◌, Option, Some, None}
use Rattle.sn_entity.specs.declared.fault.EntFault.TheVariants as fault
use Rattle.sn_entity.specs.declared.row.RowId.{RowId}
use Rattle.sn_entity.specs.declared.row.RowId.TheVariants.{Project}
use Rattle.sn_entity.specs.declared.value.Fields.{Fields}
use Rattle.sn_entity.specs.Limits.{KeepLimits}
use Rattle.sn_entity.specs.Shape.{HaveShape}
use Rattle.sn_entity.specs.Table.{reads_of}
use Rattle.sn_model.specs.declared.model.Entry.{Entry}
use Rattle.sn_model.specs.declared.model.Entry.TheVariants.{Typed, Bad, Stranger}
use Rattle.sn_model.specs.Built.{IsModel}
use Rattle.sn_model.specs.ModelContent.{ModelContent, entry_of, row_of_number}

-- of a live instance that has a row: what it shows by that row, in its shape, or a fault other than want of memory; of any
-- other live instance, that it is a stranger
abbrev pub IsKeptAs : Option RowId → Option Entry → Type 0
IsKeptAs (Some id) (Some (Typed f)) = (f.row ≡ id) × HaveShape (reads_of id) f.values
IsKeptAs (Some id) (Some (Bad why)) = why ≢ fault.Memory
IsKeptAs None (Some Stranger) = Unit {0}
IsKeptAs None None = Unit {0}
IsKeptAs _ _ = ⊥

-- each instance of a model is kept by its row
abbrev pub KeptByRow : Type 0
KeptByRow = (m : ModelContent) (n : ℕ) → IsModel m → IsKeptAs (row_of_number n m) (entry_of n m)

-- the project of a model is live, and has the row of projects
abbrev pub ProjectHasRow : Type 0
ProjectHasRow = (m : ModelContent) → IsModel m → row_of_number m.project m ≡ Some Project

-- what an instance of a model shows keeps the limits of its row
abbrev pub KeptWithinLimits : Type 0
KeptWithinLimits = (m : ModelContent) (n : ℕ) (f : Fields) → IsModel m → entry_of n m ≡ Some (Typed f) → KeepLimits (reads_of f.row) f.values

-- no instance that has a row has the number 0
abbrev pub RowsHaveNumbers : Type 0
RowsHaveNumbers = (m : ModelContent) (n : ℕ) (id : RowId) → IsModel m → row_of_number n m ≡ Some id → 0 < n
