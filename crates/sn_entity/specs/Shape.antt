-- MEANING (this project's own): the shape of the values that an instance shows, as the table of entities gives it.
use Rattle.std.specs.Prelude.{◌≡◌, ◌↔◌, ℕ, ℤ, Bool, true, false, ◌&&◌, ◌||◌, IsTrue, List, [], ◌∷◌}
use Rattle.sn_p21.specs.declared.file.Instance.{Instance}
use Rattle.sn_entity.specs.declared.fault.EntFault.TheVariants as fault
use Rattle.sn_entity.specs.declared.row.Kind.{Kind}
use Rattle.sn_entity.specs.declared.row.Kind.TheVariants.{P, V, T, Z, Z0, R, RL, B}
use Rattle.sn_entity.specs.declared.row.Read.{Read}
use Rattle.sn_entity.specs.declared.value.Fields.{Fields}
use Rattle.sn_entity.specs.declared.value.Value.{Value}
use Rattle.sn_entity.specs.declared.value.Value.TheVariants as value
use Rattle.sn_entity.specs.Shows.{Shows, IsEntityFault}
use Rattle.sn_entity.specs.Table.{reads_of}

abbrev pub is_num : Value → Bool
is_num (value.Num z) = true
is_num _ = false

abbrev pub is_triple : Value → Bool
is_triple (value.Triple x y z) = true
is_triple _ = false

abbrev pub is_text : Value → Bool
is_text (value.Text text) = true
is_text _ = false

abbrev pub is_one : Value → Bool
is_one (value.One n) = true
is_one _ = false

abbrev pub is_many : Value → Bool
is_many (value.Many ns) = true
is_many _ = false

abbrev pub is_nothing : Value → Bool
is_nothing value.Nothing = true
is_nothing _ = false

-- a number, a point or a direction, a string, the number of an instance, the numbers of instances, or nothing
abbrev pub has_kind_shape : Kind → Value → Bool
has_kind_shape P v = is_triple v
has_kind_shape V v = is_triple v
has_kind_shape T v = is_text v
has_kind_shape Z v = is_nothing v
has_kind_shape Z0 v = is_nothing v
has_kind_shape (R group) v = is_one v
has_kind_shape (RL group) v = is_many v
has_kind_shape B v = is_one v || is_nothing v
has_kind_shape _ v = is_num v

-- nothing may be given where the read may lack it
abbrev pub has_shape : Read → Value → Bool
has_shape r v = (r.may_lack && is_nothing v) || has_kind_shape r.kind v

-- a value for each read, of its shape
abbrev pub HaveShape : List Read → List Value → Type 0
HaveShape [] [] = Unit {0}
HaveShape (r ∷ rs) (v ∷ vs) = IsTrue (has_shape r v) × HaveShape rs vs
HaveShape _ _ = ⊥

-- what an instance shows has the shape of its row, and want of memory is no fault of it
abbrev pub ShowsShape : Type 0
ShowsShape =
    ((i : Instance) (f : Fields) → Shows i f → HaveShape (reads_of f.row) f.values)
    × ((i : Instance) → ¬ IsEntityFault i fault.Memory)

-- what each test of a value tells
pub record ShapesTell : Type 0 where
  pub num : (v : Value) → IsTrue (is_num v) ↔ ((z : ℤ) × (v ≡ value.Num z))
  pub triple : (v : Value) → IsTrue (is_triple v) ↔ ((x y z : ℤ) × (v ≡ value.Triple x y z))
  pub text : (v : Value) → IsTrue (is_text v) ↔ ((text : List ℕ) × (v ≡ value.Text text))
  pub one : (v : Value) → IsTrue (is_one v) ↔ ((n : ℕ) × (v ≡ value.One n))
  pub many : (v : Value) → IsTrue (is_many v) ↔ ((ns : List ℕ) × (v ≡ value.Many ns))
  pub nothing : (v : Value) → IsTrue (is_nothing v) ↔ (v ≡ value.Nothing)
