-- MEANING (this project's own): what an instance of a model names, and what the project leads to.
use Rattle.std.specs.Prelude.{◌≡◌, ℕ, Bool, true, false, cond, List, [], ◌∷◌, ◌++◌, map, Option, Some, None}
use Rattle.std.specs.List.{Contains}
use Rattle.sn_entity.specs.declared.fault.EntFault.{EntFault}
use Rattle.sn_entity.specs.declared.row.Group.{Group}
use Rattle.sn_entity.specs.declared.row.Group.TheVariants.{One as OneRow}
use Rattle.sn_entity.specs.declared.row.Kind.{Kind}
use Rattle.sn_entity.specs.declared.row.Kind.TheVariants.{R, RL, B}
use Rattle.sn_entity.specs.declared.row.Read.{Read}
use Rattle.sn_entity.specs.declared.row.RowId.{RowId}
use Rattle.sn_entity.specs.declared.row.RowId.TheVariants.{Block}
use Rattle.sn_entity.specs.declared.value.Fields.{Fields}
use Rattle.sn_entity.specs.declared.value.Value.{Value}
use Rattle.sn_entity.specs.declared.value.Value.TheVariants as value
use Rattle.sn_entity.specs.Table.{reads_of, IsInGroup}
use Rattle.sn_model.specs.declared.model.Entry.{Entry}
use Rattle.sn_model.specs.declared.model.Entry.TheVariants.{Typed, Bad}
use Rattle.sn_model.specs.ModelContent.{ModelContent, entry_of, row_of_number}
use Rattle.sn_refs.specs.declared.reference.Reference.{Reference}

-- a reference: the place of the parameter in which it stands, the rows that are wanted, and the number that it names
abbrev pub reference : ℕ → Group → ℕ → Reference
reference place group target = record { place = place; group = group; target = target }

abbrev pub is_block : Option RowId → Bool
is_block (Some Block) = true
is_block _ = false

-- a live block has this number
abbrev pub names_block : ℕ → ModelContent → Bool
names_block n m = is_block (row_of_number n m)

-- The references of a value. A parameter that may be anything is one only where it names a live block.
abbrev pub references_of_value : ModelContent → ℕ → Kind → Value → List Reference
references_of_value m place (R g) (value.One n) = reference place g n ∷ []
references_of_value m place (RL g) (value.Many ns) = map (reference place g) ns
references_of_value m place B (value.One n) = cond (names_block n m) (reference place (OneRow Block) n ∷ []) []
references_of_value m place _ _ = []

abbrev pub references_of_values : ModelContent → List Read → List Value → List Reference
references_of_values m [] vs = []
references_of_values m (r ∷ rs) [] = []
references_of_values m (r ∷ rs) (v ∷ vs) = references_of_value m r.place r.kind v ++ references_of_values m rs vs

-- what an instance shows, if it shows its row
abbrev pub fields_from : Option Entry → Option Fields
fields_from (Some (Typed f)) = Some f
fields_from _ = None

-- why an instance does not show its row
abbrev pub fault_from : Option Entry → Option EntFault
fault_from (Some (Bad why)) = Some why
fault_from _ = None

-- an instance that does not show its row names nothing
abbrev pub references_of_entry : ModelContent → Option Entry → List Reference
references_of_entry m (Some (Typed f)) = references_of_values m (reads_of f.row) f.values
references_of_entry m _ = []

-- the references of the instance of this number, by their places, and in a list in its order
abbrev pub references : ℕ → ModelContent → List Reference
references n m = references_of_entry m (entry_of n m)

-- what it names is live and of a wanted row: the kind of an instance goes by its keyword
abbrev pub IsOfKind : ModelContent → Reference → Type 0
IsOfKind m r = (id : RowId) × (row_of_number r.target m ≡ Some id) × IsInGroup r.group id

-- the instance a names the instance b, which is live and of the wanted kind
abbrev pub Names : ModelContent → ℕ → ℕ → Type 0
Names m a b = (r : Reference) × Contains (references a m) r × IsOfKind m r × (r.target ≡ b)

-- what these references name, each live and of the wanted kind
pub record AreTargets (m : ModelContent) (references : List Reference) (targets : List ℕ) : Type 0 where
  pub sound : (k : ℕ) → Contains targets k → (r : Reference) × Contains references r × IsOfKind m r × (r.target ≡ k)
  pub complete : (r : Reference) → Contains references r → IsOfKind m r → Contains targets r.target

-- from a, by way of these instances, each naming the next, to b
abbrev pub IsChain : ModelContent → ℕ → List ℕ → ℕ → Type 0
IsChain m a [] b = a ≡ b
IsChain m a (n ∷ ns) b = Names m a n × IsChain m n ns b

-- the project leads to the instance
abbrev pub IsReached : ModelContent → ℕ → Type 0
IsReached m n = (ns : List ℕ) × IsChain m m.project ns n

-- the instance leads back to itself
abbrev pub IsOnCycle : ModelContent → ℕ → Type 0
IsOnCycle m n = (k : ℕ) × (ns : List ℕ) × IsChain m n (k ∷ ns) n
