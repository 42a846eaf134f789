-- MEANING (this project's own): what an instance shows at a place in the reads of its row. Places count from 0 here.
use Rattle.std.specs.Prelude.{◌≡◌, ℕ, ℤ, List, [], Option, Some, None, false, slice_get}
use Rattle.sn_entity.specs.declared.row.Kind.{Kind}
use Rattle.sn_entity.specs.declared.row.Kind.TheVariants.{P, V, T, Z, Z0, R, RL, B}
use Rattle.sn_entity.specs.declared.row.Read.{Read}
use Rattle.sn_entity.specs.declared.value.Triple.{Triple}
use Rattle.sn_entity.specs.declared.value.Value.{Value}
use Rattle.sn_entity.specs.declared.value.Value.TheVariants as value
use Rattle.sn_entity.specs.Shape.{HaveShape}

abbrev pub num_from : Option Value → Option ℤ
num_from (Some (value.Num z)) = Some z
num_from _ = None

abbrev pub triple_from : Option Value → Option Triple
triple_from (Some (value.Triple x y z)) = Some (record { x = x; y = y; z = z })
triple_from _ = None

abbrev pub text_from : Option Value → List ℕ
text_from (Some (value.Text text)) = text
text_from _ = []

abbrev pub one_from : Option Value → Option ℕ
one_from (Some (value.One n)) = Some n
one_from _ = None

abbrev pub many_from : Option Value → List ℕ
many_from (Some (value.Many ns)) = ns
many_from _ = []

-- the number that is given at the place, if one is
abbrev pub num_at : List Value → ℕ → Option ℤ
num_at values k = num_from (slice_get values k)

-- the point or the direction that is given there
abbrev pub triple_at : List Value → ℕ → Option Triple
triple_at values k = triple_from (slice_get values k)

-- the bytes of the string that is given there, and none where none is
abbrev pub text_at : List Value → ℕ → List ℕ
text_at values k = text_from (slice_get values k)

-- the instance that is named there
abbrev pub one_at : List Value → ℕ → Option ℕ
one_at values k = one_from (slice_get values k)

-- the instances that are named there in a list, and none where no list is
abbrev pub many_at : List Value → ℕ → List ℕ
many_at values k = many_from (slice_get values k)

-- a value of this kind is given at the place; a string, a list and what may be anything tell nothing
abbrev pub IsGiven : Kind → List Value → ℕ → Type 0
IsGiven P values k = (t : Triple) × (triple_at values k ≡ Some t)
IsGiven V values k = (t : Triple) × (triple_at values k ≡ Some t)
IsGiven T values k = Unit {0}
IsGiven Z values k = Unit {0}
IsGiven Z0 values k = Unit {0}
IsGiven (R group) values k = (n : ℕ) × (one_at values k ≡ Some n)
IsGiven (RL group) values k = Unit {0}
IsGiven B values k = Unit {0}
IsGiven _ values k = (z : ℤ) × (num_at values k ≡ Some z)

-- where values have the shape of reads, what a read wants and may not lack is given at its place
abbrev pub GivenWhereWanted : Type 0
GivenWhereWanted = (reads : List Read) (values : List Value) (k : ℕ) (r : Read) → HaveShape reads values → slice_get reads k ≡ Some r → r.may_lack ≡ false → IsGiven r.kind values k
