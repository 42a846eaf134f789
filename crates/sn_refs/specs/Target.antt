-- MEANING (this project's own): what the instances of a sound model name and give at the places of their rows. Places count
-- from 0 here.
use Rattle.std.specs.Prelude.{◌≡◌, ℕ, ◌<◌, Bool, true, false, not, ◌&&◌, IsTrue, List, [], length, Option, Some, None, slice_get}
use Rattle.std.specs.List.{Contains}
use Rattle.sn_entity.specs.declared.row.Group.{Group}
use Rattle.sn_entity.specs.declared.row.Group.TheVariants.{Island}
use Rattle.sn_entity.specs.declared.row.Group.TheVariants.{One as OneRow}
use Rattle.sn_entity.specs.declared.row.Kind.{Kind}
use Rattle.sn_entity.specs.declared.row.Kind.TheVariants.{L, L0, L1, Dia, Edge, Feed, Speed, N, P, V, R, RL, B}
use Rattle.sn_entity.specs.declared.row.Read.{Read}
use Rattle.sn_entity.specs.declared.row.RowId.{RowId}
use Rattle.sn_entity.specs.declared.row.RowId.TheVariants.{Block}
use Rattle.sn_entity.specs.declared.value.Fields.{Fields}
use Rattle.sn_entity.specs.declared.value.Value.{Value}
use Rattle.sn_entity.specs.Given.{one_at, many_at}
use Rattle.sn_entity.specs.Shape.{HaveShape}
use Rattle.sn_entity.specs.Table.{reads_of, IsInGroup}
use Rattle.sn_model.specs.declared.model.Entry.TheVariants.{Typed}
use Rattle.sn_model.specs.Built.{IsModel}
use Rattle.sn_model.specs.ModelContent.{ModelContent, entry_of, row_of_number}
use Rattle.sn_refs.specs.Reference.{fields_from, names_block, Names, IsChain, IsReached}
use Rattle.sn_refs.specs.Sound.{IsSound}

abbrev pub values_from : Option Fields → List Value
values_from (Some f) = f.values
values_from None = []

-- the values that the instance of this number shows, and none where it shows none
abbrev pub values_of : ℕ → ModelContent → List Value
values_of n m = values_from (fields_from (entry_of n m))

-- what a row reads at the place
abbrev pub read_at : Option RowId → ℕ → Option Read
read_at (Some id) k = slice_get (reads_of id) k
read_at None k = None

abbrev pub is_reference : Kind → Bool
is_reference (R group) = true
is_reference _ = false

abbrev pub is_list : Kind → Bool
is_list (RL group) = true
is_list _ = false

abbrev pub is_number : Kind → Bool
is_number L = true
is_number L0 = true
is_number L1 = true
is_number Dia = true
is_number Edge = true
is_number Feed = true
is_number Speed = true
is_number N = true
is_number _ = false

abbrev pub is_three : Kind → Bool
is_three P = true
is_three V = true
is_three _ = false

-- the read is of a kind that passes the test, and may lack its value or may not
abbrev pub may_be : (Kind → Bool) → Option Read → Bool
may_be test (Some r) = test r.kind
may_be test None = false

abbrev pub must_be : (Kind → Bool) → Option Read → Bool
must_be test (Some r) = not r.may_lack && test r.kind
must_be test None = false

abbrev pub group_of : Kind → Group
group_of (R group) = group
group_of (RL group) = group
group_of B = OneRow Block
group_of _ = Island

-- the rows that are wanted where the row names instances
abbrev pub group_at : Option Read → Group
group_at (Some r) = group_of r.kind
group_at None = Island

-- the project leads to the instance, which is of the group
pub record IsTarget (m : ModelContent) (group : Group) (n : ℕ) : Type 0 where
  pub reached : IsReached m n
  pub row : RowId
  pub has_row : row_of_number n m ≡ Some row
  pub kind : IsInGroup group row

-- so is each instance that values name at the place, by a read of this kind, and the group that is wanted there
abbrev pub AllNamed : (Group → ℕ → Type 0) → ModelContent → Kind → List Value → ℕ → Type 0
AllNamed So m (R group) values k = (n : ℕ) → one_at values k ≡ Some n → So group n
AllNamed So m (RL group) values k = (n : ℕ) → Contains (many_at values k) n → So group n
AllNamed So m B values k = (n : ℕ) → one_at values k ≡ Some n → IsTrue (names_block n m) → So (OneRow Block) n
AllNamed So m _ values k = Unit {0}

abbrev pub AreTargetsOf : ModelContent → Kind → List Value → ℕ → Type 0
AreTargetsOf m kind values k = AllNamed (IsTarget m) m kind values k

-- what a reached instance names is reached, and of the group that its row wants there
abbrev pub NamedAreTargets : Type 0
NamedAreTargets =
    (m : ModelContent) → IsSound m
    → (n : ℕ) (f : Fields) (k : ℕ) (r : Read) → IsReached m n → entry_of n m ≡ Some (Typed f) → slice_get (reads_of f.row) k ≡ Some r
    → AreTargetsOf m r.kind f.values k

-- what a reached instance names at a place of its row it names by a reference
abbrev pub NamesAtPlaces : Type 0
NamesAtPlaces =
    (m : ModelContent) → IsSound m
    → (n : ℕ) (f : Fields) (k : ℕ) (r : Read) → IsReached m n → entry_of n m ≡ Some (Typed f) → slice_get (reads_of f.row) k ≡ Some r
    → AllNamed (λ group t. Names m n t) m r.kind f.values k

-- the instance shows these fields, of its row and in the shape of that row
pub record IsShownAs (m : ModelContent) (n : ℕ) (f : Fields) : Type 0 where
  pub entry : entry_of n m ≡ Some (Typed f)
  pub row : row_of_number n m ≡ Some f.row
  pub shape : HaveShape (reads_of f.row) f.values

-- each reached instance of a sound model shows its fields
abbrev pub ReachedAreShown : Type 0
ReachedAreShown = (m : ModelContent) → IsModel m → IsSound m → (n : ℕ) → IsReached m n → (f : Fields) × IsShownAs m n f

-- a chain of references is shorter than the list of instances
abbrev pub ChainsAreShort : Type 0
ChainsAreShort = (m : ModelContent) → IsModel m → IsSound m → (a : ℕ) (ns : List ℕ) (b : ℕ) → IsReached m a → IsChain m a ns b → length ns < length m.kept
