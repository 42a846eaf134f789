-- What is given at a place has the shape of its read.
use Rattle.std.proofs.Common.{◌≡◌, ℕ, zero, suc, ℤ, Bool, true, false, ◌&&◌, ◌||◌, List, [], ◌∷◌, Option, Some, ap, subst, sym, refl}
use Rattle.std.specs.List.{slice_get}
use Rattle.sn_entity.specs.declared.row.Kind.{Kind}
use Rattle.sn_entity.specs.declared.row.Kind.TheVariants.{L, L0, L1, Dia, Edge, Feed, Speed, N, P, V, T, Z, Z0, R, RL, B}
use Rattle.sn_entity.specs.declared.row.Read.{Read}
use Rattle.sn_entity.specs.declared.value.Triple.{Triple}
use Rattle.sn_entity.specs.declared.value.Value.{Value}
use Rattle.sn_entity.specs.declared.value.Value.TheVariants as value
use Rattle.sn_entity.specs.Given.{num_at, triple_at, one_at, num_from, triple_from, one_from, IsGiven, GivenWhereWanted}
use Rattle.sn_entity.specs.Shape.{is_num, is_triple, is_one, is_nothing, has_kind_shape, has_shape, HaveShape}
use Rattle.sn_entity.proofs.ShapeLemmas.{num_tells, triple_tells, one_tells}

module _ (values : List Value) (k : ℕ) (v : Value) (is : slice_get values k ≡ Some v) where
  number_at : is_num v ≡ true → (z : ℤ) × (num_at values k ≡ Some z)
  number_at h = let tells : (z : ℤ) × (v ≡ value.Num z) = num_tells v h in (tells.0, subst (λ (o : Option Value). num_from o ≡ Some tells.0) (sym is) (ap (λ (x : Value). num_from (Some x)) tells.1))

  three_at : is_triple v ≡ true → (t : Triple) × (triple_at values k ≡ Some t)
  three_at h = let tells : (x y z : ℤ) × (v ≡ value.Triple x y z) = triple_tells v h in (record { x = tells.0; y = tells.1; z = tells.2 }, subst (λ (o : Option Value). triple_from o ≡ Some (record { x = tells.0; y = tells.1; z = tells.2 })) (sym is) (ap (λ (x : Value). triple_from (Some x)) tells.3))

  name_at : is_one v ≡ true → (n : ℕ) × (one_at values k ≡ Some n)
  name_at h = let tells : (n : ℕ) × (v ≡ value.One n) = one_tells v h in (tells.0, subst (λ (o : Option Value). one_from o ≡ Some tells.0) (sym is) (ap (λ (x : Value). one_from (Some x)) tells.1))

  given_by_kind : (kind : Kind) → has_kind_shape kind v ≡ true → IsGiven kind values k
  given_by_kind L h = number_at h
  given_by_kind L0 h = number_at h
  given_by_kind L1 h = number_at h
  given_by_kind Dia h = number_at h
  given_by_kind Edge h = number_at h
  given_by_kind Feed h = number_at h
  given_by_kind Speed h = number_at h
  given_by_kind N h = number_at h
  given_by_kind P h = three_at h
  given_by_kind V h = three_at h
  given_by_kind T h = tt
  given_by_kind Z h = tt
  given_by_kind Z0 h = tt
  given_by_kind (R group) h = name_at h
  given_by_kind (RL group) h = tt
  given_by_kind B h = tt

of_kind : (r : Read) (v : Value) → r.may_lack ≡ false → has_shape r v ≡ true → has_kind_shape r.kind v ≡ true
of_kind r v strict h = subst (λ (b : Bool). ((b && is_nothing v) || has_kind_shape r.kind v) ≡ true) strict h

-- the value of a read, of its shape
shape_at : (reads : List Read) (values : List Value) (k : ℕ) (r : Read) → HaveShape reads values → slice_get reads k ≡ Some r → (v : Value) × (slice_get values k ≡ Some v) × (has_shape r v ≡ true)
shape_at [] values k r shape is = absurd (cc)
shape_at (q ∷ reads) [] k r shape is = absurd shape
shape_at (q ∷ reads) (v ∷ values) zero r shape is = (v, refl, subst (λ (x : Read). has_shape x v ≡ true) (let same : q ≡ r = cc in same) shape.0)
shape_at (q ∷ reads) (v ∷ values) (suc k) r shape is = shape_at reads values k r shape.1 is

pub given_where_wanted : GivenWhereWanted
given_where_wanted reads values k r shape is strict =
    let at : (v : Value) × (slice_get values k ≡ Some v) × (has_shape r v ≡ true) = shape_at reads values k r shape is in
    given_by_kind values k at.0 at.1 r.kind (of_kind r at.0 strict at.2)
