-- The parameter within a typed parameter.
use Rattle.std.proofs.Common.{◌≡◌, ℕ, zero, suc, ◌<◌, ℤ, List, [], ◌∷◌, ◌++◌, length, get_or, arith, refl, sym, ap, subst, ◌∙◌, inl, inr, ⊎_elim, ◌⊎◌}
use denote.Hole.Carrier.{roll}
use Rattle.sn_p21.specs.declared.file.Param.{Param}
use Rattle.sn_p21.specs.declared.file.Param.TheOpen.{Param-F}
use Rattle.sn_p21.specs.declared.file.Param.TheViews.{roll-Param, out-Param, out-roll-Param}
use Rattle.sn_p21.specs.declared.file.Param.TheVariants as param
use Rattle.sn_geom.specs.Decimal.{IsNumber, IsNumberText}
use Rattle.sn_entity.specs.declared.refusal.Refusal.{Refusal}
use Rattle.sn_entity.specs.declared.value.Value.{Value}
use Rattle.sn_entity.specs.Measure.{Measure, Measures}
use Rattle.sn_entity.specs.Form.{IsThrough, IsSpelled, IsNumeric, IsLack, HasValue, AreRefs, GivesTwo, GivesThree, GivesPair, GivesTriple, GivesZero, AreTwoNumeric, AreThreeNumeric}
use Rattle.sn_entity.specs.Refusal.{IsRefused}
use Rattle.sn_entity.proofs.RefusalLemmas.{refused_as}
use Rattle.sn_entity.proofs.MeasureLemmas.{IsNumberText-from_number}

out_typed : (k : List ℕ) (ps : List Param) → out-Param (param.Typed k ps) ≡ Param-F.Typed k ps
unfolding roll-Param roll
out_typed k ps = out-roll-Param (Param-F.Typed k ps)

out_list : (ps : List Param) → out-Param (param.List ps) ≡ Param-F.List ps
unfolding roll-Param roll
out_list ps = out-roll-Param (Param-F.List ps)

-- a typed parameter has one list, and so has a list
pub typed_one : (k j : List ℕ) (ps qs : List Param) → param.Typed k ps ≡ param.Typed j qs → ps ≡ qs
typed_one k j ps qs e = let f : Param-F.Typed k ps ≡ Param-F.Typed j qs = sym (out_typed k ps) ∙ ap out-Param e ∙ out_typed j qs in cc

pub list_one : (ps qs : List Param) → param.List ps ≡ param.List qs → ps ≡ qs
list_one ps qs e = let f : Param-F.List ps ≡ Param-F.List qs = sym (out_list ps) ∙ ap out-Param e ∙ out_list qs in cc

pub through_one : (p q r : Param) → IsThrough p q → IsThrough p r → q ≡ r
through_one p q r (inl a) (inl b) = let e = typed_one a.0 b.0 (q ∷ []) (r ∷ []) (sym a.1 ∙ b.1) in cc
through_one p q r (inl a) (inr b) = absurd (b.0 a.0 q a.1)
through_one p q r (inr a) (inl b) = absurd (a.0 b.0 r b.1)
through_one p q r (inr a) (inr b) = a.1 ∙ sym b.1

pub spelled_one : (p : Param) (t u : List ℕ) → IsSpelled p t → IsSpelled p u → t ≡ u
spelled_one p t u (inl a) (inl b) = let e = through_one p _ _ a b in cc
spelled_one p t u (inl a) (inr b) = let e = through_one p _ _ a b in cc
spelled_one p t u (inr a) (inl b) = let e = through_one p _ _ a b in cc
spelled_one p t u (inr a) (inr b) = let e = through_one p _ _ a b in cc

pub number_spelled : (p : Param) (text : List ℕ) → IsSpelled p text → IsNumeric p → IsNumberText text
number_spelled p text s n = subst IsNumberText (spelled_one p n.0 text n.1 s) n.2

pub value_spelled : (m : Measure) (p : Param) (text : List ℕ) → IsSpelled p text → (z : ℤ) → HasValue m p z → Measures m text z
value_spelled m p text s z h = subst (λ t. Measures m t z) (spelled_one p h.0 text h.1 s) h.2

pub refused_number : (m : Measure) (p : Param) (text : List ℕ) → IsSpelled p text → (why : Refusal) → IsRefused why (IsNumberText text) (Measures m text) → IsRefused why (IsNumeric p) (HasValue m p)
refused_number m p text s why h =
    refused_as (IsNumberText text) (IsNumeric p) (Measures m text) (HasValue m p)
    (λ n. (text, s, n)) (number_spelled p text s) (λ z v. (z, value_spelled m p text s z v)) why h

pub refs_push : (ps : List Param) (ns : List ℕ) (p : Param) (n : ℕ) → AreRefs ps ns → IsThrough p (param.Ref n) → AreRefs (ps ++ p ∷ []) (ns ++ n ∷ [])
refs_push [] ns p n all one = rw all (n, [], refl, one, refl)
refs_push (q ∷ qs) ns p n all one =
    let rest = refs_push qs all.1 p n all.4 one in
    rw all.2 (all.0, all.1 ++ n ∷ [], refl, all.3, rest)

-- the references of a list are its own
pub refs_one : (ps : List Param) (ns ms : List ℕ) → AreRefs ps ns → AreRefs ps ms → ns ≡ ms
refs_one [] ns ms a b = a ∙ sym b
refs_one (p ∷ ps) ns ms a b =
    let same = through_one p (param.Ref a.0) (param.Ref b.0) a.3 b.3 in
    let rest = refs_one ps a.1 b.1 a.4 b.4 in
    cc (a.2, b.2, same, rest)

-- each parameter of such a list is a reference
pub ref_at : (ps : List Param) (ns : List ℕ) (i : ℕ) (p : Param) → AreRefs ps ns → i < length ps → p ≡ get_or ps i p → (n : ℕ) × IsThrough p (param.Ref n)
ref_at [] ns i p all lt e = absurd (omega arith)
ref_at (q ∷ qs) ns zero p all lt e = (all.0, subst (λ x. IsThrough x (param.Ref all.0)) (sym e) all.3)
ref_at (q ∷ qs) ns (suc i) p all lt e = ref_at qs all.1 i p all.4 (omega arith) e

pub IsNumeric-from_value : (m : Measure) (p : Param) (z : ℤ) → HasValue m p z → IsNumeric p
IsNumeric-from_value m p z h = (h.0, h.1, IsNumberText-from_number h.0 h.2.decimal h.2.number)

-- the first of two has no value
pub two_first : (m : Measure) (a b : Param) → IsNumeric b → (why : Refusal) → IsRefused why (IsNumeric a) (HasValue m a) → IsRefused why (IsNumeric a × IsNumeric b) (GivesTwo m a b)
two_first m a b nb why h = refused_as (IsNumeric a) _ (HasValue m a) _ (λ n. (n, nb)) (λ n. n.0) (λ v g. (g.0, g.2)) why h

pub two_second : (m : Measure) (a b : Param) → IsNumeric a → (why : Refusal) → IsRefused why (IsNumeric b) (HasValue m b) → IsRefused why (IsNumeric a × IsNumeric b) (GivesTwo m a b)
two_second m a b na why h = refused_as (IsNumeric b) _ (HasValue m b) _ (λ n. (na, n)) (λ n. n.1) (λ v g. (g.1, g.3)) why h

pub three_first : (m : Measure) (a b c : Param) → IsNumeric b → IsNumeric c → (why : Refusal) → IsRefused why (IsNumeric a) (HasValue m a) → IsRefused why (IsNumeric a × IsNumeric b × IsNumeric c) (GivesThree m a b c)
three_first m a b c nb nc why h = refused_as (IsNumeric a) _ (HasValue m a) _ (λ n. (n, nb, nc)) (λ n. n.0) (λ v g. (g.0, g.3)) why h

pub three_second : (m : Measure) (a b c : Param) → IsNumeric a → IsNumeric c → (why : Refusal) → IsRefused why (IsNumeric b) (HasValue m b) → IsRefused why (IsNumeric a × IsNumeric b × IsNumeric c) (GivesThree m a b c)
three_second m a b c na nc why h = refused_as (IsNumeric b) _ (HasValue m b) _ (λ n. (na, n, nc)) (λ n. n.1) (λ v g. (g.1, g.4)) why h

pub three_third : (m : Measure) (a b c : Param) → IsNumeric a → IsNumeric b → (why : Refusal) → IsRefused why (IsNumeric c) (HasValue m c) → IsRefused why (IsNumeric a × IsNumeric b × IsNumeric c) (GivesThree m a b c)
three_third m a b c na nb why h = refused_as (IsNumeric c) _ (HasValue m c) _ (λ n. (na, nb, n)) (λ n. n.2) (λ v g. (g.2, g.5)) why h

-- neither nothing nor a number that is 0
pub refused_zero : (p : Param) (text : List ℕ) → ¬ IsLack p → IsSpelled p text → (why : Refusal) → IsRefused why (IsNumberText text) (λ d. IsNumber text d × (d.digits ≡ 0)) → IsRefused why (IsLack p ⊎ IsNumeric p) (GivesZero p)
refused_zero p text given s why h =
    refused_as (IsNumberText text) _ (λ d. IsNumber text d × (d.digits ≡ 0)) _
    (λ n. inr (text, s, n))
    (λ f. ⊎_elim (λ lack. absurd (given lack)) (number_spelled p text s) f)
    (λ v g. ⊎_elim (λ lack. absurd (given lack)) (λ z. (z.1, (subst (λ t. IsNumber t z.1) (spelled_one p z.0 text z.2 s) z.3, z.4))) g.0) why h

pub two_items : (ps : List Param) (a b : Param) → length ps ≡ 2 → a ≡ get_or ps 0 a → b ≡ get_or ps 1 b → ps ≡ a ∷ b ∷ []
two_items [] a b n ea eb = absurd (omega arith)
two_items (x ∷ []) a b n ea eb = absurd (omega arith)
two_items (x ∷ y ∷ []) a b n ea eb = cc (ea, eb)
two_items (x ∷ y ∷ z ∷ zs) a b n ea eb = absurd (omega arith)

pub three_items : (ps : List Param) (a b c : Param) → length ps ≡ 3 → a ≡ get_or ps 0 a → b ≡ get_or ps 1 b → c ≡ get_or ps 2 c → ps ≡ a ∷ b ∷ c ∷ []
three_items [] a b c n ea eb ec = absurd (omega arith)
three_items (x ∷ []) a b c n ea eb ec = absurd (omega arith)
three_items (x ∷ y ∷ []) a b c n ea eb ec = absurd (omega arith)
three_items (x ∷ y ∷ z ∷ []) a b c n ea eb ec = cc (ea, eb, ec)
three_items (x ∷ y ∷ z ∷ w ∷ ws) a b c n ea eb ec = absurd (omega arith)

-- a list of another length has no such form
pub no_three : (p : Param) (ps : List Param) → p ≡ param.List ps → ¬ (length ps ≡ 3) → ¬ AreThreeNumeric p
no_three p ps e other t = other (ap length (list_one ps (t.0 ∷ t.1 ∷ t.2 ∷ []) (sym e ∙ t.3)))

pub no_two : (p : Param) (ps : List Param) → p ≡ param.List ps → ¬ (length ps ≡ 2) → ¬ AreTwoNumeric p
no_two p ps e other t = other (ap length (list_one ps (t.0 ∷ t.1 ∷ []) (sym e ∙ t.2)))

pub no_pair : (m : Measure) (p : Param) (ps : List Param) → p ≡ param.List ps → ¬ (length ps ≡ 2) → (v : Value) → ¬ GivesPair m p v
no_pair m p ps e other v t = other (ap length (list_one ps (t.0 ∷ t.1 ∷ []) (sym e ∙ t.2)))

-- the three of a list are its own
pub refused_triple : (m : Measure) (p a b c : Param) → p ≡ param.List (a ∷ b ∷ c ∷ []) → (why : Refusal) → IsRefused why (IsNumeric a × IsNumeric b × IsNumeric c) (GivesThree m a b c) → IsRefused why (AreThreeNumeric p) (GivesTriple m p)
refused_triple m p a b c e why h =
    refused_as (IsNumeric a × IsNumeric b × IsNumeric c) _ (GivesThree m a b c) _
    (λ n. (a, b, c, e, n.0, n.1, n.2))
    (λ t. let s = list_one (t.0 ∷ t.1 ∷ t.2 ∷ []) (a ∷ b ∷ c ∷ []) (sym t.3 ∙ e) in
    let x : t.0 ≡ a = cc in let y : t.1 ≡ b = cc in let z : t.2 ≡ c = cc in
    (subst IsNumeric x t.4, subst IsNumeric y t.5, subst IsNumeric z t.6))
    (λ v t. let s = list_one (t.0 ∷ t.1 ∷ t.2 ∷ []) (a ∷ b ∷ c ∷ []) (sym t.3 ∙ e) in
    let x : t.0 ≡ a = cc in let y : t.1 ≡ b = cc in let z : t.2 ≡ c = cc in
    (v, subst (λ q. GivesThree m q b c v) x (subst (λ q. GivesThree m t.0 q c v) y (subst (λ q. GivesThree m t.0 t.1 q v) z t.4)))) why h

pub refused_two : (m : Measure) (p a b : Param) → p ≡ param.List (a ∷ b ∷ []) → (why : Refusal) → IsRefused why (IsNumeric a × IsNumeric b) (GivesTwo m a b) → IsRefused why (AreTwoNumeric p ⊎ AreThreeNumeric p) (λ v. GivesPair m p v ⊎ GivesTriple m p v)
refused_two m p a b e why h =
    let other : ¬ (length (a ∷ b ∷ []) ≡ 3) = λ l. absurd (omega arith) in
    refused_as (IsNumeric a × IsNumeric b) _ (GivesTwo m a b) _
    (λ n. inl (a, b, e, n.0, n.1))
    (λ f. ⊎_elim (λ t.
    let s = list_one (t.0 ∷ t.1 ∷ []) (a ∷ b ∷ []) (sym t.2 ∙ e) in
    let x : t.0 ≡ a = cc in let y : t.1 ≡ b = cc in
    (subst IsNumeric x t.3, subst IsNumeric y t.4)) (λ t. absurd (no_three p (a ∷ b ∷ []) e other t)) f)
    (λ v g. ⊎_elim (λ t.
    let s = list_one (t.0 ∷ t.1 ∷ []) (a ∷ b ∷ []) (sym t.2 ∙ e) in
    let x : t.0 ≡ a = cc in let y : t.1 ≡ b = cc in
    (v, subst (λ q. GivesTwo m q b v) x (subst (λ q. GivesTwo m t.0 q v) y t.3)))
    (λ t. absurd (other (ap length (list_one (a ∷ b ∷ []) (t.0 ∷ t.1 ∷ t.2 ∷ []) (sym e ∙ t.3))))) g) why h

pub refused_point : (m : Measure) (p : Param) (ps : List Param) → p ≡ param.List ps → ¬ (length ps ≡ 2) → (why : Refusal) → IsRefused why (AreThreeNumeric p) (GivesTriple m p) → IsRefused why (AreTwoNumeric p ⊎ AreThreeNumeric p) (λ v. GivesPair m p v ⊎ GivesTriple m p v)
refused_point m p ps e other why h =
    refused_as (AreThreeNumeric p) _ (GivesTriple m p) _
    (λ t. inr t)
    (λ f. ⊎_elim (λ t. absurd (no_two p ps e other t)) (λ t. t) f)
    (λ v g. ⊎_elim (λ t. absurd (no_pair m p ps e other v t)) (λ t. (v, t)) g) why h
