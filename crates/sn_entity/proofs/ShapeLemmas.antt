-- What is given has the shape of its read.
use Rattle.std.proofs.Common.{◌≡◌, ℕ, ℤ, true, false, refl, ◌&&◌, ◌||◌, List, [], ◌∷◌, sym, ap, subst, inl, inr, ⊎_elim}
use Rattle.std.proofs.lemmas.Bool.{and_from, or_left, or_right}
use Rattle.sn_p21.specs.declared.file.Param.{Param}
use Rattle.sn_p21.specs.declared.file.Entity.{Entity}
use Rattle.sn_entity.specs.declared.row.Kind.{Kind}
use Rattle.sn_entity.specs.declared.row.Kind.TheVariants.{L, L0, L1, Dia, Edge, Feed, Speed, N, P, V, T, Z, Z0, R, RL, B}
use Rattle.sn_entity.specs.declared.row.Read.{Read}
use Rattle.sn_entity.specs.declared.value.Value.{Value}
use Rattle.sn_entity.specs.declared.value.Value.TheVariants as value
use Rattle.sn_entity.specs.Measure.{Measure}
use Rattle.sn_entity.specs.Form.{Gives, ReadGives, GivesNumber, GivesPair, GivesTriple, GivesOwn}
use Rattle.sn_entity.specs.Shape.{is_num, is_triple, is_text, is_one, is_many, is_nothing, has_kind_shape, has_shape, HaveShape, ShowsShape, ShapesTell}
use Rattle.sn_entity.specs.Shows.{AreGiven}
use Rattle.sn_entity.specs.Table.{reads_of}

number : (m : Measure) (p : Param) (v : Value) → GivesNumber m p v → is_num v ≡ true
number m p v g = ap is_num g.2

triple : (m : Measure) (p : Param) (v : Value) → GivesTriple m p v → is_triple v ≡ true
triple m p v g = ap is_triple g.4.6

pair : (m : Measure) (p : Param) (v : Value) → GivesPair m p v → is_triple v ≡ true
pair m p v g = ap is_triple g.3.4

own : (p : Param) (v : Value) → GivesOwn p v → (is_one v || is_nothing v) ≡ true
own p v (inl g) = ap (λ x. is_one x || is_nothing x) g.2
own p v (inr g) = ap (λ x. is_one x || is_nothing x) g.1

kind_shape : (k : Kind) (p : Param) (v : Value) → Gives k p v → has_kind_shape k v ≡ true
kind_shape L p v g = number _ p v g
kind_shape L0 p v g = number _ p v g
kind_shape L1 p v g = number _ p v g
kind_shape Dia p v g = number _ p v g
kind_shape Edge p v g = number _ p v g
kind_shape Feed p v g = number _ p v g
kind_shape Speed p v g = number _ p v g
kind_shape N p v g = number _ p v g
kind_shape P p v g = ⊎_elim (λ x. pair _ p v x) (λ x. triple _ p v x) g
kind_shape V p v g = triple _ p v g
kind_shape T p v g = ap is_text g.2
kind_shape Z p v g = ap is_nothing g.1
kind_shape Z0 p v g = ap is_nothing g.1
kind_shape (R group) p v g = ap is_one g.2
kind_shape (RL group) p v g = ap is_many g.4
kind_shape B p v g = own p v g

read_shape : (r : Read) (p : Param) (v : Value) → ReadGives r p v → has_shape r v ≡ true
read_shape r p v (inl lack) = or_left (r.may_lack && is_nothing v) (has_kind_shape r.kind v) (and_from r.may_lack (is_nothing v) lack.0.0 (ap is_nothing lack.1))
read_shape r p v (inr g) = or_right (r.may_lack && is_nothing v) (has_kind_shape r.kind v) (kind_shape r.kind p v g)

given_shapes : (e : Entity) (rs : List Read) (vs : List Value) → AreGiven e rs vs → HaveShape rs vs
given_shapes e [] vs h = subst (HaveShape []) (sym h) tt
given_shapes e (r ∷ rs) vs h = subst (HaveShape (r ∷ rs)) (sym h.6) (read_shape r h.0 h.1 h.4, given_shapes e rs h.2 h.5)

pub shows_shape : ShowsShape
shows_shape = (λ i f h. given_shapes h.entity (reads_of f.row) f.values h.values, λ i h. h.3)

-- What each test of a value tells.

no : {A : Type 0} → false ≡ true → A
no e = absurd cc

pub num_tells : (v : Value) → is_num v ≡ true → (z : ℤ) × (v ≡ value.Num z)
num_tells (value.Num z) h = (z, refl)
num_tells _ h = no h

pub triple_tells : (v : Value) → is_triple v ≡ true → (x y z : ℤ) × (v ≡ value.Triple x y z)
triple_tells (value.Triple x y z) h = (x, y, z, refl)
triple_tells _ h = no h

text_tells : (v : Value) → is_text v ≡ true → (text : List ℕ) × (v ≡ value.Text text)
text_tells (value.Text text) h = (text, refl)
text_tells _ h = no h

pub one_tells : (v : Value) → is_one v ≡ true → (n : ℕ) × (v ≡ value.One n)
one_tells (value.One n) h = (n, refl)
one_tells _ h = no h

many_tells : (v : Value) → is_many v ≡ true → (ns : List ℕ) × (v ≡ value.Many ns)
many_tells (value.Many ns) h = (ns, refl)
many_tells _ h = no h

nothing_tells : (v : Value) → is_nothing v ≡ true → v ≡ value.Nothing
nothing_tells value.Nothing h = refl
nothing_tells _ h = no h

pub shapes_tell : ShapesTell
shapes_tell = record {
  num = λ v. (num_tells v, λ h. ap is_num h.1);
  triple = λ v. (triple_tells v, λ h. ap is_triple h.3);
  text = λ v. (text_tells v, λ h. ap is_text h.1);
  one = λ v. (one_tells v, λ h. ap is_one h.1);
  many = λ v. (many_tells v, λ h. ap is_many h.1);
  nothing = λ v. (nothing_tells v, λ h. ap is_nothing h);
}
