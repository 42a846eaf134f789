-- What is given at a place is within the limits of what the row reads there.
use Rattle.std.proofs.Common.{◌≡◌, ℕ, zero, suc, ℤ, Bool, true, false, ◌&&◌, ◌||◌, List, [], ◌∷◌, Option, Some, None, IfSome, refl, sym, ap, subst}
use Rattle.std.specs.List.{slice_get}
use Rattle.std.specs.Prelude.{IsTrue}
use Rattle.sn_entity.specs.declared.row.Kind.{Kind}
use Rattle.sn_entity.specs.declared.row.Kind.TheVariants.{L, L0, L1, Dia, Edge, Feed, Speed, N}
use Rattle.sn_entity.specs.declared.row.Read.{Read}
use Rattle.sn_entity.specs.declared.row.RowId.{RowId}
use Rattle.sn_entity.specs.declared.value.Fields.{Fields}
use Rattle.sn_entity.specs.declared.value.Triple.{Triple}
use Rattle.sn_entity.specs.declared.value.Value.{Value}
use Rattle.sn_entity.specs.declared.value.Value.TheVariants as value
use Rattle.sn_entity.specs.Given.{num_from, num_at, triple_at}
use Rattle.sn_entity.specs.Limits.{KeepLimits}
use Rattle.sn_entity.specs.Shape.{has_kind_shape, has_shape, HaveShape}
use Rattle.sn_entity.specs.Table.{reads_of}
use Rattle.sn_refs.specs.Target.{read_at, is_number, may_be}
use Rattle.sn_refs.specs.Within.{IsWithinRead, AreWithinRead}

module _ (f : Fields) (limits : KeepLimits (reads_of f.row) f.values) (k : ℕ) where
  number_by : (o : Option Read) (z : ℤ) → read_at (Some f.row) k ≡ o → num_at f.values k ≡ Some z → IsWithinRead o z
  number_by (Some r) z read at = limits.number k r z read at
  number_by None z read at = tt

  three_by : (o : Option Read) (t : Triple) → read_at (Some f.row) k ≡ o → triple_at f.values k ≡ Some t → AreWithinRead o t
  three_by (Some r) t read at = limits.triple k r t read at
  three_by None t read at = tt

  pub number_within : (row : Option RowId) (z : ℤ) → row ≡ Some f.row → num_at f.values k ≡ Some z → IsWithinRead (read_at row k) z
  number_within row z is at = number_by (read_at row k) z (sym (ap (λ (r : Option RowId). read_at r k) is)) at

  pub three_within : (row : Option RowId) (t : Triple) → row ≡ Some f.row → triple_at f.values k ≡ Some t → AreWithinRead (read_at row k) t
  three_within row t is at = three_by (read_at row k) t (sym (ap (λ (r : Option RowId). read_at r k) is)) at

  maybe_by : (row : Option RowId) (o : Option ℤ) → row ≡ Some f.row → num_at f.values k ≡ o → IfSome o (IsWithinRead (read_at row k))
  maybe_by row (Some z) is at = number_within row z is at
  maybe_by row None is at = tt

  pub maybe_within : (row : Option RowId) (o : Option ℤ) → row ≡ Some f.row → o ≡ num_at f.values k → IfSome o (IsWithinRead (read_at row k))
  maybe_within row o is at = maybe_by row o is (sym at)

-- A number is given only where the row reads one.

number_value : (o : Option Value) (z : ℤ) → num_from o ≡ Some z → o ≡ Some (value.Num z)
number_value (Some (value.Num y)) z h = ap (λ (x : ℤ). Some (value.Num x)) (let same : y ≡ z = cc in same)
number_value (Some _) z h = absurd (cc)
number_value None z h = absurd (cc)

number_kind : (kind : Kind) (z : ℤ) → has_kind_shape kind (value.Num z) ≡ true → is_number kind ≡ true
number_kind L z h = refl
number_kind L0 z h = refl
number_kind L1 z h = refl
number_kind Dia z h = refl
number_kind Edge z h = refl
number_kind Feed z h = refl
number_kind Speed z h = refl
number_kind N z h = refl
number_kind _ z h = absurd (cc)

not_nothing : (b c : Bool) → ((b && false) || c) ≡ true → c ≡ true
not_nothing true c h = h
not_nothing false c h = h

read_kind : (reads : List Read) (values : List Value) (k : ℕ) (z : ℤ) → HaveShape reads values → slice_get values k ≡ Some (value.Num z) → may_be is_number (slice_get reads k) ≡ true
read_kind [] [] k z h at = absurd (cc)
read_kind [] (v ∷ values) k z h at = absurd h
read_kind (r ∷ reads) [] k z h at = absurd h
read_kind (r ∷ reads) (v ∷ values) zero z h at =
    let same : v ≡ value.Num z = cc in
    number_kind r.kind z (not_nothing r.may_lack (has_kind_shape r.kind (value.Num z)) (subst (λ (x : Value). has_shape r x ≡ true) same h.0))
read_kind (r ∷ reads) (v ∷ values) (suc k) z h at = read_kind reads values k z h.1 at

module _ (f : Fields) (shape : HaveShape (reads_of f.row) f.values) (k : ℕ) (row : Option RowId) (is : row ≡ Some f.row) where
  read_by : (o : Option ℤ) → num_at f.values k ≡ o → IfSome o (λ z. IsTrue (may_be is_number (read_at row k)))
  read_by (Some z) at = subst (λ (r : Option RowId). may_be is_number (read_at r k) ≡ true) (sym is) (read_kind (reads_of f.row) f.values k z shape (number_value (slice_get f.values k) z at))
  read_by None at = tt

  pub maybe_read : (o : Option ℤ) → o ≡ num_at f.values k → IfSome o (λ z. IsTrue (may_be is_number (read_at row k)))
  maybe_read o at = read_by o (sym at)
