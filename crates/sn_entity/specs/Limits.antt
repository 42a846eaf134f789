-- MEANING (this project's own): the limits of the numbers that an instance shows.
use Rattle.std.specs.Prelude.{◌≡◌, ℕ, ℤ, pos, List, Some, slice_get}
use Rattle.sn_p21.specs.declared.file.Instance.{Instance}
use Rattle.sn_entity.specs.declared.row.Kind.{Kind}
use Rattle.sn_entity.specs.declared.row.Kind.TheVariants.{L, L0, L1, Dia, Edge, Feed, Speed, N, P, V}
use Rattle.sn_entity.specs.declared.row.Read.{Read}
use Rattle.sn_entity.specs.declared.value.Fields.{Fields}
use Rattle.sn_entity.specs.declared.value.Triple.{Triple}
use Rattle.sn_entity.specs.declared.value.Value.{Value}
use Rattle.sn_entity.specs.Given.{num_at, triple_at}
use Rattle.sn_entity.specs.Measure.{IsWithin, length_from, coordinate, diameter, edge_radius, feed, speed, thousandths, ratio}
use Rattle.sn_entity.specs.Shows.{Shows}
use Rattle.sn_entity.specs.Table.{reads_of}

-- the number is within the limits of the kind; a kind without numbers has none
abbrev pub IsWithinKind : Kind → ℤ → Type 0
IsWithinKind L z = IsWithin coordinate z
IsWithinKind L0 z = IsWithin (length_from (pos 0)) z
IsWithinKind L1 z = IsWithin (length_from (pos 1)) z
IsWithinKind Dia z = IsWithin diameter z
IsWithinKind Edge z = IsWithin edge_radius z
IsWithinKind Feed z = IsWithin feed z
IsWithinKind Speed z = IsWithin speed z
IsWithinKind N z = IsWithin thousandths z
IsWithinKind P z = IsWithin coordinate z
IsWithinKind V z = IsWithin ratio z
IsWithinKind _ z = Unit {0}

abbrev pub AreWithinKind : Kind → Triple → Type 0
AreWithinKind kind t = IsWithinKind kind t.x × IsWithinKind kind t.y × IsWithinKind kind t.z

-- each number is within the limits of the kind of its read
pub record KeepLimits (reads : List Read) (values : List Value) : Type 0 where
  pub number : (k : ℕ) (r : Read) (z : ℤ) → slice_get reads k ≡ Some r → num_at values k ≡ Some z → IsWithinKind r.kind z
  pub triple : (k : ℕ) (r : Read) (t : Triple) → slice_get reads k ≡ Some r → triple_at values k ≡ Some t → AreWithinKind r.kind t

-- what an instance shows keeps the limits of its row
abbrev pub ShowsWithinLimits : Type 0
ShowsWithinLimits = (i : Instance) (f : Fields) → Shows i f → KeepLimits (reads_of f.row) f.values
