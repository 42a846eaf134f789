-- Private (only the functions of this crate cite these words): the reads of a row, one after another.
use Rattle.std.specs.Prelude.{◌≡◌, ℕ, ◌<◌, ◌≤◌, List, [], ◌∷◌, ◌++◌, length}
use Rattle.sn_p21.specs.declared.file.Param.{Param}
use Rattle.sn_p21.specs.declared.file.Entity.{Entity}
use Rattle.sn_entity.specs.declared.fault.EntFault.{EntFault}
use Rattle.sn_entity.specs.declared.fault.EntFault.TheVariants as fault
use Rattle.sn_entity.specs.declared.refusal.Refusal.{Refusal}
use Rattle.sn_entity.specs.declared.refusal.Refusal.TheVariants.{Kind, Range, Memory}
use Rattle.sn_entity.specs.declared.row.Read.{Read}
use Rattle.sn_entity.specs.declared.row.RowId.{RowId}
use Rattle.sn_entity.specs.declared.value.Fields.{Fields}
use Rattle.sn_entity.specs.declared.value.Value.{Value}
use Rattle.sn_entity.specs.Form.{ReadGives, ReadHasForm}
use Rattle.sn_entity.specs.Refusal.{IsRefused}
use Rattle.sn_entity.specs.Shows.{AreGiven, IsRead}
use Rattle.sn_entity.specs.Table.{reads_of, wanted}

-- the places rise from above the first number on, and none is above the second
abbrev pub IsRising : ℕ → ℕ → List Read → Type 0
IsRising above most [] = Unit {0}
IsRising above most (r ∷ rs) = (above < r.place) × (r.place ≤ most) × IsRising r.place most rs

-- the fault of a read at a place
abbrev pub fault_at : ℕ → ℕ → Refusal → EntFault
fault_at number place Kind = fault.KindAt number place
fault_at number place Range = fault.Range number place
fault_at number place Memory = fault.Memory

-- one of the reads is refused, and each one before it gives a value
pub record StopsAt (number : ℕ) (e : Entity) (reads : List Read) (why : EntFault) : Type 0 where
  pub before : List Read
  pub values : List Value
  pub read : Read
  pub behind : List Read
  pub param : Param
  pub cause : Refusal
  pub parts : reads ≡ before ++ read ∷ behind
  pub given : AreGiven e before values
  pub read_is : IsRead e read param
  pub refused : IsRefused cause (ReadHasForm read param) (ReadGives read param)
  pub fault : why ≡ fault_at number read.place cause

-- the entity shows these fields by this row
pub record ShowsRow (e : Entity) (id : RowId) (f : Fields) : Type 0 where
  pub row : f.row ≡ id
  pub enough : wanted id ≤ length e.params
  pub values : AreGiven e (reads_of id) f.values
