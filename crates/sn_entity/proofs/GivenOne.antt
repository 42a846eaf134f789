-- A parameter gives one value.
use Rattle.std.proofs.Common.{◌≡◌, ◌⊎◌, ℕ, ℤ, List, [], ◌∷◌, sym, ap, subst, ◌∙◌, inl, inr, ⊎_elim}
use Rattle.sn_p21.specs.declared.file.Param.{Param}
use Rattle.sn_p21.specs.declared.file.Param.TheVariants as param
use Rattle.sn_p21.specs.declared.file.Entity.{Entity}
use Rattle.sn_geom.specs.Decimal.{ScalesTo, HasOneNumber, ScalesToOne}
use Rattle.sn_entity.specs.declared.row.Kind.{Kind}
use Rattle.sn_entity.specs.declared.row.Kind.TheVariants.{L, L0, L1, Dia, Edge, Feed, Speed, N, P, V, T, Z, Z0, R, RL, B}
use Rattle.sn_entity.specs.declared.row.Read.{Read}
use Rattle.sn_entity.specs.declared.value.Value.{Value}
use Rattle.sn_entity.specs.declared.value.Value.TheVariants as value
use Rattle.sn_entity.specs.Measure.{Measure, Measures}
use Rattle.sn_entity.specs.Form.{Gives, ReadGives, IsThrough, IsSpelled, IsLack, HasValue, GivesNumber, GivesTwo, GivesThree, GivesPair, GivesTriple, GivesText, GivesOne, GivesMany, GivesOwn, AreRefs}
use Rattle.sn_entity.specs.Shows.{AreGiven}
use Rattle.sn_entity.proofs.ParamLemmas.{through_one, spelled_one, list_one, refs_one}

module _ (numbers : HasOneNumber) (roundings : ScalesToOne) where
  measure_one : (m : Measure) (t : List ℕ) (z w : ℤ) → Measures m t z → Measures m t w → z ≡ w
  measure_one m t z w a b =
      let d = numbers t a.decimal b.decimal a.number b.number in
      let one = roundings b.decimal m.factor in
      let x = one.2 a.rounded (subst (λ y. ScalesTo y m.factor a.rounded) d a.scales) in
      let y = one.2 b.rounded b.scales in
      let r : a.rounded ≡ b.rounded = x ∙ sym y in
      cc (a.value, b.value, r)

  value_one : (m : Measure) (p : Param) (z w : ℤ) → HasValue m p z → HasValue m p w → z ≡ w
  value_one m p z w a b =
      let t = spelled_one p a.0 b.0 a.1 b.1 in
      measure_one m b.0 z w (subst (λ x. Measures m x z) t a.2) b.2

  number_one : (m : Measure) (p : Param) (v w : Value) → GivesNumber m p v → GivesNumber m p w → v ≡ w
  number_one m p v w a b = let z = value_one m p a.0 b.0 a.1 b.1 in a.2 ∙ ap value.Num z ∙ sym b.2

  two_one : (m : Measure) (a b : Param) (v w : Value) → GivesTwo m a b v → GivesTwo m a b w → v ≡ w
  two_one m a b v w g h =
      let x = value_one m a g.0 h.0 g.2 h.2 in
      let y = value_one m b g.1 h.1 g.3 h.3 in
      cc (g.4, h.4, x, y)

  three_one : (m : Measure) (a b c : Param) (v w : Value) → GivesThree m a b c v → GivesThree m a b c w → v ≡ w
  three_one m a b c v w g h =
      let x = value_one m a g.0 h.0 g.3 h.3 in
      let y = value_one m b g.1 h.1 g.4 h.4 in
      let z = value_one m c g.2 h.2 g.5 h.5 in
      cc (g.6, h.6, x, y, z)

  pair_one : (m : Measure) (p : Param) (v w : Value) → GivesPair m p v → GivesPair m p w → v ≡ w
  pair_one m p v w g h =
      let s = list_one (g.0 ∷ g.1 ∷ []) (h.0 ∷ h.1 ∷ []) (sym g.2 ∙ h.2) in
      let x : g.0 ≡ h.0 = cc in let y : g.1 ≡ h.1 = cc in
      two_one m h.0 h.1 v w (subst (λ q. GivesTwo m q h.1 v) x (subst (λ q. GivesTwo m g.0 q v) y g.3)) h.3

  triple_one : (m : Measure) (p : Param) (v w : Value) → GivesTriple m p v → GivesTriple m p w → v ≡ w
  triple_one m p v w g h =
      let s = list_one (g.0 ∷ g.1 ∷ g.2 ∷ []) (h.0 ∷ h.1 ∷ h.2 ∷ []) (sym g.3 ∙ h.3) in
      let x : g.0 ≡ h.0 = cc in let y : g.1 ≡ h.1 = cc in let z : g.2 ≡ h.2 = cc in
      three_one m h.0 h.1 h.2 v w
      (subst (λ q. GivesThree m q h.1 h.2 v) x (subst (λ q. GivesThree m g.0 q h.2 v) y (subst (λ q. GivesThree m g.0 g.1 q v) z g.4))) h.4

  pair_no_triple : (m : Measure) (p : Param) (v w : Value) → GivesPair m p v → GivesTriple m p w → ⊥
  pair_no_triple m p v w g h =
      let s = list_one (g.0 ∷ g.1 ∷ []) (h.0 ∷ h.1 ∷ h.2 ∷ []) (sym g.2 ∙ h.3) in cc

  point_one : (m : Measure) (p : Param) (v w : Value) → GivesPair m p v ⊎ GivesTriple m p v → GivesPair m p w ⊎ GivesTriple m p w → v ≡ w
  point_one m p v w (inl g) (inl h) = pair_one m p v w g h
  point_one m p v w (inl g) (inr h) = absurd (pair_no_triple m p v w g h)
  point_one m p v w (inr g) (inl h) = absurd (pair_no_triple m p w v h g)
  point_one m p v w (inr g) (inr h) = triple_one m p v w g h

  text_one : (p : Param) (v w : Value) → GivesText p v → GivesText p w → v ≡ w
  text_one p v w g h = let e = through_one p _ _ g.1 h.1 in let t : g.0 ≡ h.0 = cc in cc (g.2, h.2, t)

  ref_one : (p : Param) (v w : Value) → GivesOne p v → GivesOne p w → v ≡ w
  ref_one p v w g h = let e = through_one p _ _ g.1 h.1 in let n : g.0 ≡ h.0 = cc in cc (g.2, h.2, n)

  many_one : (p : Param) (v w : Value) → GivesMany p v → GivesMany p w → v ≡ w
  many_one p v w g h =
      let s = list_one g.0 h.0 (sym g.2 ∙ h.2) in
      let n = refs_one h.0 g.1 h.1 (subst (λ ps. AreRefs ps g.1) s g.3) h.3 in
      cc (g.4, h.4, n)

  own_one : (p : Param) (v w : Value) → GivesOwn p v → GivesOwn p w → v ≡ w
  own_one p v w (inl g) (inl h) = let e = sym g.1 ∙ h.1 in let n : g.0 ≡ h.0 = cc in cc (g.2, h.2, n)
  own_one p v w (inl g) (inr h) = absurd (h.0 g.0 g.1)
  own_one p v w (inr g) (inl h) = absurd (g.0 h.0 h.1)
  own_one p v w (inr g) (inr h) = g.1 ∙ sym h.1

  one : (k : Kind) (p : Param) (v w : Value) → Gives k p v → Gives k p w → v ≡ w
  one L p v w g h = number_one _ p v w g h
  one L0 p v w g h = number_one _ p v w g h
  one L1 p v w g h = number_one _ p v w g h
  one Dia p v w g h = number_one _ p v w g h
  one Edge p v w g h = number_one _ p v w g h
  one Feed p v w g h = number_one _ p v w g h
  one Speed p v w g h = number_one _ p v w g h
  one N p v w g h = number_one _ p v w g h
  one P p v w g h = point_one _ p v w g h
  one V p v w g h = triple_one _ p v w g h
  one T p v w g h = text_one p v w g h
  one Z p v w g h = g.1 ∙ sym h.1
  one Z0 p v w g h = g.1 ∙ sym h.1
  one (R group) p v w g h = ref_one p v w g h
  one (RL group) p v w g h = many_one p v w g h
  one B p v w g h = own_one p v w g h

-- nothing stands within a typed parameter there
lack_through : (p q : Param) → IsLack p → IsThrough p q → q ≡ p
lack_through p q (inl a) (inl t) = let e = sym a ∙ t.1 in cc
lack_through p q (inr a) (inl t) = let e = sym a ∙ t.1 in cc
lack_through p q lack (inr t) = t.1

lack_spelled : (p : Param) (t : List ℕ) → IsLack p → IsSpelled p t → ⊥
lack_spelled p t lack (inl s) = let e = lack_through p (param.Int t) lack s in ⊎_elim (λ a. let f = e ∙ a in cc) (λ a. let f = e ∙ a in cc) lack
lack_spelled p t lack (inr s) = let e = lack_through p (param.Real t) lack s in ⊎_elim (λ a. let f = e ∙ a in cc) (λ a. let f = e ∙ a in cc) lack

lack_list : (p : Param) (ps : List Param) → IsLack p → p ≡ param.List ps → ⊥
lack_list p ps (inl a) e = let f = sym a ∙ e in cc
lack_list p ps (inr a) e = let f = sym a ∙ e in cc

lack_number : (m : Measure) (p : Param) (v : Value) → IsLack p → GivesNumber m p v → v ≡ value.Nothing
lack_number m p v lack g = absurd (lack_spelled p g.1.0 lack g.1.1)

-- where nothing stands, nothing is given
lack_gives : (k : Kind) (p : Param) (v : Value) → IsLack p → Gives k p v → v ≡ value.Nothing
lack_gives L p v lack g = lack_number _ p v lack g
lack_gives L0 p v lack g = lack_number _ p v lack g
lack_gives L1 p v lack g = lack_number _ p v lack g
lack_gives Dia p v lack g = lack_number _ p v lack g
lack_gives Edge p v lack g = lack_number _ p v lack g
lack_gives Feed p v lack g = lack_number _ p v lack g
lack_gives Speed p v lack g = lack_number _ p v lack g
lack_gives N p v lack g = lack_number _ p v lack g
lack_gives P p v lack g = ⊎_elim (λ x. absurd (lack_list p (x.0 ∷ x.1 ∷ []) lack x.2)) (λ x. absurd (lack_list p (x.0 ∷ x.1 ∷ x.2 ∷ []) lack x.3)) g
lack_gives V p v lack g = absurd (lack_list p (g.0 ∷ g.1 ∷ g.2 ∷ []) lack g.3)
lack_gives T p v lack g = let e = lack_through p (param.Text g.0) lack g.1 in ⊎_elim (λ a. let f = e ∙ a in cc) (λ a. let f = e ∙ a in cc) lack
lack_gives Z p v lack g = g.1
lack_gives Z0 p v lack g = g.1
lack_gives (R group) p v lack g = let e = lack_through p (param.Ref g.0) lack g.1 in ⊎_elim (λ a. let f = e ∙ a in cc) (λ a. let f = e ∙ a in cc) lack
lack_gives (RL group) p v lack g = absurd (lack_list p g.0 lack g.2)
lack_gives B p v lack g = ⊎_elim (λ x. ⊎_elim (λ a. let f = sym a ∙ x.1 in cc) (λ a. let f = sym a ∙ x.1 in cc) lack) (λ x. x.1) g

pub read_one : HasOneNumber → ScalesToOne → (r : Read) (p : Param) (v w : Value) → ReadGives r p v → ReadGives r p w → v ≡ w
read_one numbers roundings r p v w (inl g) (inl h) = g.1 ∙ sym h.1
read_one numbers roundings r p v w (inl g) (inr h) = g.1 ∙ sym (lack_gives r.kind p w g.0.1 h)
read_one numbers roundings r p v w (inr g) (inl h) = lack_gives r.kind p v h.0.1 g ∙ sym h.1
read_one numbers roundings r p v w (inr g) (inr h) = one numbers roundings r.kind p v w g h

-- the reads give one list of values
pub given_one : HasOneNumber → ScalesToOne → (e : Entity) (rs : List Read) (vs ws : List Value) → AreGiven e rs vs → AreGiven e rs ws → vs ≡ ws
given_one numbers roundings e [] vs ws g h = g ∙ sym h
given_one numbers roundings e (r ∷ rs) vs ws g h =
    let p : g.0 ≡ h.0 = let s = sym g.3 ∙ h.3 in cc in
    let v = read_one numbers roundings r h.0 g.1 h.1 (subst (λ x. ReadGives r x g.1) p g.4) h.4 in
    let rest = given_one numbers roundings e rs g.2 h.2 g.5 h.5 in
    cc (g.6, h.6, v, rest)
