-- MEANING (this project's own): what an instance shows by its row of the table, and why it does not.
use Rattle.std.specs.Prelude.{◌≡◌, ℕ, ◌-◌, ◌<◌, ◌≤◌, List, [], ◌∷◌, length, Some, slice_get}
use Rattle.std.specs.List.{Contains}
use Rattle.sn_p21.specs.declared.file.Param.{Param}
use Rattle.sn_p21.specs.declared.file.Entity.{Entity}
use Rattle.sn_p21.specs.declared.file.Instance.{Instance}
use Rattle.sn_entity.specs.declared.fault.EntFault.{EntFault}
use Rattle.sn_entity.specs.declared.fault.EntFault.TheVariants as fault
use Rattle.sn_entity.specs.declared.row.Read.{Read}
use Rattle.sn_entity.specs.declared.row.RowId.{RowId}
use Rattle.sn_entity.specs.declared.value.Fields.{Fields}
use Rattle.sn_entity.specs.declared.value.Value.{Value}
use Rattle.sn_entity.specs.Form.{ReadGives, ReadHasForm}
use Rattle.sn_entity.specs.Table.{name_of, reads_of, wanted}

-- the instance is simple and has the keyword of this row
pub record HasRow (i : Instance) (e : Entity) (id : RowId) : Type 0 where
  pub simple : i.parts ≡ e ∷ []
  pub named : name_of id ≡ e.keyword

abbrev pub IsKnown : Instance → Type 0
IsKnown i = (e : Entity) × (id : RowId) × HasRow i e id

-- the parameter that is read: places count from 1
abbrev pub IsRead : Entity → Read → Param → Type 0
IsRead e r p = slice_get e.params (r.place - 1) ≡ Some p

-- each read gives the value at its place
abbrev pub AreGiven : Entity → List Read → List Value → Type 0
AreGiven e [] vs = vs ≡ []
AreGiven e (r ∷ rs) vs = (p : Param) × (v : Value) × (rest : List Value) × IsRead e r p × ReadGives r p v × AreGiven e rs rest × (vs ≡ v ∷ rest)

-- the instance shows these fields
pub record Shows (i : Instance) (f : Fields) : Type 0 where
  pub entity : Entity
  pub row : HasRow i entity f.row
  pub enough : wanted f.row ≤ length entity.params
  pub values : AreGiven entity (reads_of f.row) f.values

-- a read is at fault, and each one before it gives a value
pub record IsFirstFaulty (e : Entity) (reads : List Read) (r : Read) (p : Param) : Type 0 where
  pub among : Contains reads r
  pub read : IsRead e r p
  pub none : (v : Value) → ¬ ReadGives r p v
  pub first : (q : Read) → Contains reads q → q.place < r.place → (o : Param) × (v : Value) × IsRead e q o × ReadGives q o v

-- Too few parameters go before all kinds; the least parameter at fault decides, and its form before its limits.
abbrev pub IsFault : ℕ → Entity → RowId → EntFault → Type 0
IsFault number e id (fault.Count n want got) = (n ≡ number) × (want ≡ wanted id) × (got ≡ length e.params) × (got < want)
IsFault number e id (fault.KindAt n k) = (n ≡ number) × (wanted id ≤ length e.params) × ((r : Read) × (p : Param) × IsFirstFaulty e (reads_of id) r p × (k ≡ r.place) × ¬ ReadHasForm r p)
IsFault number e id (fault.Range n k) = (n ≡ number) × (wanted id ≤ length e.params) × ((r : Read) × (p : Param) × IsFirstFaulty e (reads_of id) r p × (k ≡ r.place) × ReadHasForm r p)
IsFault number e id fault.Memory = ⊥

abbrev pub IsEntityFault : Instance → EntFault → Type 0
IsEntityFault i why = (e : Entity) × (id : RowId) × HasRow i e id × IsFault i.number e id why

-- an instance shows one thing at most, or has one fault at most, and not both; one of the table cannot lack both
abbrev pub OneShowing : Type 0
OneShowing =
    ((i : Instance) (f g : Fields) → Shows i f → Shows i g → f ≡ g)
    × ((i : Instance) (why other : EntFault) → IsEntityFault i why → IsEntityFault i other → why ≡ other)
    × ((i : Instance) (f : Fields) (why : EntFault) → Shows i f → ¬ IsEntityFault i why)
    × ((i : Instance) → IsKnown i → ((f : Fields) → ¬ Shows i f) → ((why : EntFault) → ¬ IsEntityFault i why) → ⊥)
