-- The numbers that are given are within the limits of their kinds.
use Rattle.std.proofs.Common.{◌≡◌, ℕ, zero, suc, ℤ, pos, List, [], ◌∷◌, Option, Some, None, sym, subst, ◌∙◌, refl, ⊎_elim, arith}
use Rattle.std.specs.List.{slice_get}
use Rattle.sn_p21.specs.declared.file.Param.{Param}
use Rattle.sn_p21.specs.declared.file.Entity.{Entity}
use Rattle.sn_entity.specs.declared.row.Kind.{Kind}
use Rattle.sn_entity.specs.declared.row.Kind.TheVariants.{L, L0, L1, Dia, Edge, Feed, Speed, N, P, V, T, Z, Z0, R, RL, B}
use Rattle.sn_entity.specs.declared.row.Read.{Read}
use Rattle.sn_entity.specs.declared.value.Triple.{Triple}
use Rattle.sn_entity.specs.declared.value.Value.{Value}
use Rattle.sn_entity.specs.declared.value.Value.TheVariants as value
use Rattle.sn_entity.specs.Form.{Gives, ReadGives, GivesNumber, GivesPair, GivesTriple, GivesOwn}
use Rattle.sn_entity.specs.Given.{num_from, triple_from}
use Rattle.sn_entity.specs.Limits.{IsWithinKind, AreWithinKind, ShowsWithinLimits}
use Rattle.sn_entity.specs.Measure.{Measure, IsWithin, coordinate}
use Rattle.sn_entity.specs.Shows.{AreGiven}
use Rattle.sn_entity.specs.Table.{reads_of}

-- the value's numbers are within the limits of the kind
abbrev HasLimits : Kind → Value → Type 0
HasLimits kind (value.Num z) = IsWithinKind kind z
HasLimits kind (value.Triple x y z) = AreWithinKind kind (record { x = x; y = y; z = z })
HasLimits kind _ = Unit {0}

number : (m : Measure) (p : Param) (v : Value) (Claim : Value → Type 0) → ((z : ℤ) → IsWithin m z → Claim (value.Num z)) → GivesNumber m p v → Claim v
number m p v Claim h g = subst Claim (sym g.2) (h g.0 g.1.2.within)

three : (m : Measure) (p : Param) (v : Value) (Claim : Value → Type 0) → ((x y z : ℤ) → IsWithin m x → IsWithin m y → IsWithin m z → Claim (value.Triple x y z)) → GivesTriple m p v → Claim v
three m p v Claim h g = let t = g.4 in subst Claim (sym t.6) (h t.0 t.1 t.2 t.3.2.within t.4.2.within t.5.2.within)

two : (m : Measure) (p : Param) (v : Value) (Claim : Value → Type 0) → ((x y : ℤ) → IsWithin m x → IsWithin m y → Claim (value.Triple x y (pos 0))) → GivesPair m p v → Claim v
two m p v Claim h g = let t = g.3 in subst Claim (sym t.4) (h t.0 t.1 t.2.2.within t.3.2.within)

own : (p : Param) (v : Value) → GivesOwn p v → HasLimits B v
own p v g = ⊎_elim (λ x. subst (HasLimits B) (sym x.2) tt) (λ x. subst (HasLimits B) (sym x.1) tt) g

zero_within : IsWithin coordinate (pos 0)
zero_within = record { low = omega arith; high = omega arith }

kind_limits : (k : Kind) (p : Param) (v : Value) → Gives k p v → HasLimits k v
kind_limits L p v g = number _ p v (HasLimits L) (λ z h. h) g
kind_limits L0 p v g = number _ p v (HasLimits L0) (λ z h. h) g
kind_limits L1 p v g = number _ p v (HasLimits L1) (λ z h. h) g
kind_limits Dia p v g = number _ p v (HasLimits Dia) (λ z h. h) g
kind_limits Edge p v g = number _ p v (HasLimits Edge) (λ z h. h) g
kind_limits Feed p v g = number _ p v (HasLimits Feed) (λ z h. h) g
kind_limits Speed p v g = number _ p v (HasLimits Speed) (λ z h. h) g
kind_limits N p v g = number _ p v (HasLimits N) (λ z h. h) g
kind_limits P p v g = ⊎_elim (λ x. two _ p v (HasLimits P) (λ a b h k. (h, k, zero_within)) x) (λ x. three _ p v (HasLimits P) (λ a b c h k l. (h, k, l)) x) g
kind_limits V p v g = three _ p v (HasLimits V) (λ a b c h k l. (h, k, l)) g
kind_limits T p v g = subst (HasLimits T) (sym g.2) tt
kind_limits Z p v g = subst (HasLimits Z) (sym g.1) tt
kind_limits Z0 p v g = subst (HasLimits Z0) (sym g.1) tt
kind_limits (R group) p v g = subst (HasLimits (R group)) (sym g.2) tt
kind_limits (RL group) p v g = subst (HasLimits (RL group)) (sym g.4) tt
kind_limits B p v g = own p v g

nothing_limits : (k : Kind) → HasLimits k value.Nothing
nothing_limits k = tt

read_limits : (r : Read) (p : Param) (v : Value) → ReadGives r p v → HasLimits r.kind v
read_limits r p v g = ⊎_elim (λ lack. subst (HasLimits r.kind) (sym lack.1) tt) (λ x. kind_limits r.kind p v x) g

limits_at : (e : Entity) (rs : List Read) (vs : List Value) (k : ℕ) (r : Read) (v : Value) → AreGiven e rs vs → slice_get rs k ≡ Some r → slice_get vs k ≡ Some v → HasLimits r.kind v
limits_at e [] vs k r v h is at = absurd (cc)
limits_at e (q ∷ rs) [] k r v h is at = absurd (let no : [] ≡ h.1 ∷ h.2 = h.6 in cc)
limits_at e (q ∷ rs) (w ∷ vs) zero r v h is at =
    let same_read : q ≡ r = cc in
    let same_value : w ≡ v = cc in
    let given : h.1 ≡ w = let e : w ∷ vs ≡ h.1 ∷ h.2 = h.6 in cc in
    let of_first : HasLimits q.kind h.1 = read_limits q h.0 h.1 h.4 in
    subst (λ (x : Read). HasLimits x.kind v) same_read (subst (HasLimits q.kind) (given ∙ same_value) of_first)
limits_at e (q ∷ rs) (w ∷ vs) (suc k) r v h is at =
    let rest : h.2 ≡ vs = let e : w ∷ vs ≡ h.1 ∷ h.2 = h.6 in cc in
    limits_at e rs vs k r v (subst (AreGiven e rs) rest h.5) is at

number_limits : (k : Kind) (o : Option Value) (z : ℤ) → ((v : Value) → o ≡ Some v → HasLimits k v) → num_from o ≡ Some z → IsWithinKind k z
number_limits k (Some (value.Num y)) z h is = subst (IsWithinKind k) (let same : y ≡ z = cc in same) (h (value.Num y) refl)
number_limits k (Some (value.Triple a b c)) z h is = absurd cc
number_limits k (Some (value.Text t)) z h is = absurd cc
number_limits k (Some (value.One n)) z h is = absurd cc
number_limits k (Some (value.Many ns)) z h is = absurd cc
number_limits k (Some value.Nothing) z h is = absurd cc
number_limits k None z h is = absurd cc

triple_limits : (k : Kind) (o : Option Value) (t : Triple) → ((v : Value) → o ≡ Some v → HasLimits k v) → triple_from o ≡ Some t → AreWithinKind k t
triple_limits k (Some (value.Triple a b c)) t h is =
    let same : record { x = a; y = b; z = c } ≡ t = cc in subst (AreWithinKind k) same (h (value.Triple a b c) refl)
triple_limits k (Some (value.Num y)) t h is = absurd cc
triple_limits k (Some (value.Text x)) t h is = absurd cc
triple_limits k (Some (value.One n)) t h is = absurd cc
triple_limits k (Some (value.Many ns)) t h is = absurd cc
triple_limits k (Some value.Nothing) t h is = absurd cc
triple_limits k None t h is = absurd cc

pub shows_within_limits : ShowsWithinLimits
shows_within_limits i f h = record {
  number = λ k r z is at. number_limits r.kind (slice_get f.values k) z (λ v e. limits_at h.entity (reads_of f.row) f.values k r v h.values is e) at;
  triple = λ k r t is at. triple_limits r.kind (slice_get f.values k) t (λ v e. limits_at h.entity (reads_of f.row) f.values k r v h.values is e) at;
}
