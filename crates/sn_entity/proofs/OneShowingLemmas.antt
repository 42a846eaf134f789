-- An instance shows one thing, or has one fault.
use Rattle.std.proofs.Common.{◌≡◌, ◌≢◌, ◌⊎◌, ℕ, ◌<◌, ◌≤◌, List, [], ◌∷◌, length, get_or, Result, Ok, Err, refl, sym, ap, subst, ◌∙◌, inl, inr, ⊎_elim, arith}
use Rattle.std.specs.Prelude.{MatchResult, IfOk, IfErr}
use Rattle.sn_geom.specs.Decimal.{HasOneNumber, ScalesToOne}
use Rattle.sn_p21.specs.declared.file.Entity.{Entity}
use Rattle.sn_p21.specs.declared.file.Instance.{Instance}
use Rattle.sn_entity.specs.declared.fault.EntFault.{EntFault}
use Rattle.sn_entity.specs.declared.fault.EntFault.TheVariants as fault
use Rattle.sn_entity.specs.declared.row.RowId.{RowId}
use Rattle.sn_entity.specs.declared.value.Fields.{Fields}
use Rattle.sn_entity.specs.Reads.{ShowsRow}
use Rattle.sn_entity.specs.Shows.{HasRow, IsKnown, AreGiven, IsFault, IsEntityFault, Shows, OneShowing}
use Rattle.sn_entity.specs.Table.{name_of, reads_of, wanted}
use Rattle.sn_entity.proofs.FaultLemmas.{first_one, given_contains}
use Rattle.sn_entity.proofs.GivenOne.{given_one}
use Rattle.sn_entity.proofs.RowNames.{id-from_name}
use Rattle.sn_entity.proofs.RowsRise.{row_rises}
use Rattle.sn_entity.proofs.ShownOrFaulty.{shown_or_faulty}

entity_one : (i : Instance) (e d : Entity) (a b : RowId) → HasRow i e a → HasRow i d b → e ≡ d
entity_one i e d a b x y = let s = sym x.simple ∙ y.simple in cc

row_one : (i : Instance) (e d : Entity) (a b : RowId) → HasRow i e a → HasRow i d b → a ≡ b
row_one i e d a b x y = id-from_name a b (x.named ∙ ap (λ z. z.keyword) (entity_one i e d a b x y) ∙ sym y.named)

fields_one : (f g : Fields) → f.row ≡ g.row → f.values ≡ g.values → f ≡ g
fields_one f g a b = λ i. record { row = a i; values = b i }

shows_one : HasOneNumber → ScalesToOne → (i : Instance) (f g : Fields) → Shows i f → Shows i g → f ≡ g
shows_one numbers roundings i f g a b =
    let e = entity_one i a.entity b.entity f.row g.row a.row b.row in
    let r = row_one i a.entity b.entity f.row g.row a.row b.row in
    let given : AreGiven b.entity (reads_of g.row) f.values = subst (λ x. AreGiven x (reads_of g.row) f.values) e (subst (λ x. AreGiven a.entity (reads_of x) f.values) r a.values) in
    fields_one f g r (given_one numbers roundings b.entity (reads_of g.row) f.values g.values given b.values)

few_or_enough : (n x len w : ℕ) → n ≡ w → x ≡ len → x < n → w ≤ len → ⊥
few_or_enough n x len w a b c d = omega arith

fault_same : (number : ℕ) (e : Entity) (id : RowId) (why other : EntFault) → IsFault number e id why → IsFault number e id other → why ≡ other
fault_same number e id (fault.Count n w g) (fault.Count m x h) a b = cc (a.0, a.1, a.2, b.0, b.1, b.2)
fault_same number e id (fault.Count n w g) (fault.KindAt m l) a b = absurd (few_or_enough w g (length e.params) (wanted id) a.1 a.2 a.3 b.1)
fault_same number e id (fault.Count n w g) (fault.Range m l) a b = absurd (few_or_enough w g (length e.params) (wanted id) a.1 a.2 a.3 b.1)
fault_same number e id (fault.KindAt n k) (fault.Count m x h) a b = absurd (few_or_enough x h (length e.params) (wanted id) b.1 b.2 b.3 a.1)
fault_same number e id (fault.Range n k) (fault.Count m x h) a b = absurd (few_or_enough x h (length e.params) (wanted id) b.1 b.2 b.3 a.1)
fault_same number e id (fault.KindAt n k) (fault.KindAt m l) a b =
    let s = first_one e (length e.params) (reads_of id) a.2.0 b.2.0 a.2.1 b.2.1 (row_rises id (length e.params) a.1) a.2.2 b.2.2 in
    let r : a.2.0 ≡ b.2.0 = s.0 in
    cc (a.0, b.0, a.2.3, b.2.3, r)
fault_same number e id (fault.Range n k) (fault.Range m l) a b =
    let s = first_one e (length e.params) (reads_of id) a.2.0 b.2.0 a.2.1 b.2.1 (row_rises id (length e.params) a.1) a.2.2 b.2.2 in
    let r : a.2.0 ≡ b.2.0 = s.0 in
    cc (a.0, b.0, a.2.3, b.2.3, r)
fault_same number e id (fault.KindAt n k) (fault.Range m l) a b =
    let s = first_one e (length e.params) (reads_of id) a.2.0 b.2.0 a.2.1 b.2.1 (row_rises id (length e.params) a.1) a.2.2 b.2.2 in
    absurd (rw (s.0, s.1) at a.2.4 b.2.4)
fault_same number e id (fault.Range n k) (fault.KindAt m l) a b =
    let s = first_one e (length e.params) (reads_of id) b.2.0 a.2.0 b.2.1 a.2.1 (row_rises id (length e.params) a.1) b.2.2 a.2.2 in
    absurd (rw (s.0, s.1) at b.2.4 a.2.4)
fault_same number e id fault.Memory other a b = absurd a
fault_same number e id (fault.Count n w g) fault.Memory a b = absurd b
fault_same number e id (fault.KindAt n k) fault.Memory a b = absurd b
fault_same number e id (fault.Range n k) fault.Memory a b = absurd b

fault_one : (i : Instance) (why other : EntFault) → IsEntityFault i why → IsEntityFault i other → why ≡ other
fault_one i why other a b =
    let e : a.0 ≡ b.0 = entity_one i a.0 b.0 a.1 b.1 a.2 b.2 in
    let r : a.1 ≡ b.1 = row_one i a.0 b.0 a.1 b.1 a.2 b.2 in
    fault_same i.number b.0 b.1 why other (subst (λ x. IsFault i.number x b.1 why) e (subst (λ x. IsFault i.number a.0 x why) r a.3)) b.3

no_fault : (number : ℕ) (e : Entity) (id : RowId) (f : Fields) (why : EntFault) → ShowsRow e id f → ¬ IsFault number e id why
no_fault number e id f (fault.Count n w g) s a = few_or_enough w g (length e.params) (wanted id) a.1 a.2 a.3 s.enough
no_fault number e id f (fault.KindAt n k) s a =
    let given = given_contains e (reads_of id) f.values a.2.0 s.values a.2.2.among in
    let same : given.0 ≡ a.2.1 = let t = sym given.2 ∙ a.2.2.read in cc in
    a.2.2.none given.1 (rw same at given.3)
no_fault number e id f (fault.Range n k) s a =
    let given = given_contains e (reads_of id) f.values a.2.0 s.values a.2.2.among in
    let same : given.0 ≡ a.2.1 = let t = sym given.2 ∙ a.2.2.read in cc in
    a.2.2.none given.1 (rw same at given.3)
no_fault number e id f fault.Memory s a = a

not_both : (i : Instance) (f : Fields) (why : EntFault) → Shows i f → ¬ IsEntityFault i why
not_both i f why s a =
    let e : a.0 ≡ s.entity = entity_one i a.0 s.entity a.1 f.row a.2 s.row in
    let r : a.1 ≡ f.row = row_one i a.0 s.entity a.1 f.row a.2 s.row in
    no_fault i.number s.entity f.row f why (record { row = refl; enough = s.enough; values = s.values }) (subst (λ x. IsFault i.number x f.row why) e (subst (λ x. IsFault i.number a.0 x why) r a.3))

pub one_showing : HasOneNumber → ScalesToOne → OneShowing
one_showing numbers roundings = (shows_one numbers roundings, fault_one, not_both, shown_or_faulty)

-- what is shown is found
pub only_shown : OneShowing → (i : Instance) (r : Result Fields EntFault) → IfOk r (Shows i) → IfErr r (λ e. e ≢ fault.Memory → IsEntityFault i e) → ((e : EntFault) → (e ≡ fault.Memory) ⊎ (e ≢ fault.Memory)) → (f : Fields) → Shows i f → MatchResult r (λ g. g ≡ f) (λ e. e ≡ fault.Memory)
only_shown one i (Ok g) found refused memory f shows = one.0 i g f found shows
only_shown one i (Err e) found refused memory f shows = ⊎_elim (λ m. m) (λ other. absurd (one.2 i f e shows (refused other))) (memory e)

-- a fault is told
pub fault_told : OneShowing → (i : Instance) (r : Result Fields EntFault) → IfOk r (Shows i) → IfErr r (λ e. e ≢ fault.Memory → IsEntityFault i e) → ((e : EntFault) → (e ≡ fault.Memory) ⊎ (e ≢ fault.Memory)) → (why : EntFault) → IsEntityFault i why → MatchResult r (λ f. ⊥) (λ e. (e ≡ why) ⊎ (e ≡ fault.Memory))
fault_told one i (Ok g) found refused memory why faulty = one.2 i g why found faulty
fault_told one i (Err e) found refused memory why faulty = ⊎_elim (λ m. inr m) (λ other. inl (one.1 i e why (refused other) faulty)) (memory e)

pub is_memory : (e : EntFault) → (e ≡ fault.Memory) ⊎ (e ≢ fault.Memory)
is_memory (fault.Count n w g) = inr (λ h. cc)
is_memory (fault.KindAt n k) = inr (λ h. cc)
is_memory (fault.Range n k) = inr (λ h. cc)
is_memory fault.Memory = inl refl

pub has_row : (i : Instance) (parts : List Entity) (e : Entity) (id : RowId) → IsKnown i → parts ≡ i.parts → e ≡ get_or parts 0 e → name_of id ≡ e.keyword → HasRow i e id
has_row i parts e id known same first named =
    let whole : parts ≡ known.0 ∷ [] = same ∙ known.2.simple in
    let is : e ≡ known.0 = rw whole at first in
    record { simple = known.2.simple ∙ ap (λ x. x ∷ []) (sym is); named = named }

pub shows_row : (i : Instance) (e : Entity) (id : RowId) → HasRow i e id → (f : Fields) → ShowsRow e id f → Shows i f
shows_row i e id has f shown =
    let row = sym shown.row in
    record {
      entity = e;
      row = subst (HasRow i e) row has;
      enough = subst (λ x. wanted x ≤ length e.params) row shown.enough;
      values = subst (λ x. AreGiven e (reads_of x) f.values) row shown.values;
    }
