-- A model is sound, or has one fault.
use Rattle.std.proofs.Common.{◌≡◌, ◌⊎◌, ℕ, ◌≤◌, List, [], ◌∷◌, ◌++◌, Some, None, subst, sym, refl, ap, ◌∙◌, inl, inr, ⊎_elim, arith}
use Rattle.std.proofs.lemmas.List.Elements.{Contains-append_right}
use Rattle.std.specs.List.{Contains, AllByRecursion}
use Rattle.sn_entity.specs.declared.fault.EntFault.{EntFault}
use Rattle.sn_entity.specs.declared.value.Fields.{Fields}
use Rattle.sn_model.specs.declared.model.Entry.TheVariants.{Typed, Bad}
use Rattle.sn_model.specs.ModelContent.{ModelContent, kept_of, entry_of}
use Rattle.sn_refs.specs.declared.fault.RefFault.{RefFault}
use Rattle.sn_refs.specs.declared.fault.RefFault.TheVariants as fault
use Rattle.sn_refs.specs.declared.reference.Reference.{Reference}
use Rattle.sn_refs.specs.Reference.{references, references_of_entry, IsOfKind}
use Rattle.sn_refs.specs.Sound.{IsSound, IsFirstBad, IsOwnFault, IsLeastFault, IsLeastOnCycle, IsRefFault}

first_bad : (P : Reference → Type 0) (before : List Reference) (r : Reference) (after others : List Reference) (q : Reference) (more : List Reference) → before ++ r ∷ after ≡ others ++ q ∷ more → AllByRecursion P before → AllByRecursion P others → ¬ P r → ¬ P q → r ≡ q
first_bad P [] r after [] q more e good fine bad worse = cc
first_bad P [] r after (o ∷ others) q more e good fine bad worse = absurd (bad (let same : o ≡ r = cc in subst P same fine.0))
first_bad P (b ∷ before) r after [] q more e good fine bad worse = absurd (worse (let same : b ≡ q = cc in subst P same good.0))
first_bad P (b ∷ before) r after (o ∷ others) q more e good fine bad worse = first_bad P before r after others q more (cc) good.1 fine.1 bad worse

one_first_bad : (m : ModelContent) (n : ℕ) (r q : Reference) → IsFirstBad m n r → IsFirstBad m n q → r ≡ q
one_first_bad m n r q h k = first_bad (IsOfKind m) h.before r h.after k.before q k.after (sym h.all ∙ k.all) h.good k.good h.bad k.bad

nil_holds_none : (before : List Reference) (r : Reference) (after : List Reference) → [] ≡ before ++ r ∷ after → ⊥
nil_holds_none [] r after e = cc
nil_holds_none (b ∷ before) r after e = cc

bad_has_no_reference : (m : ModelContent) (n : ℕ) (why : EntFault) (r : Reference) → entry_of n m ≡ Some (Bad why) → IsFirstBad m n r → ⊥
bad_has_no_reference m n why r e h = nil_holds_none h.before r h.after (sym (ap (references_of_entry m) e) ∙ h.all)

-- an instance has one fault of its own
pub one_own_fault : (m : ModelContent) (n : ℕ) (why other : RefFault) → IsOwnFault m n why → IsOwnFault m n other → why ≡ other
one_own_fault m n (fault.Entity a) (fault.Entity b) h k = cc
one_own_fault m n (fault.Entity a) (fault.Dangling b c) h k = absurd (bad_has_no_reference m n a k.1.0 h k.1.1)
one_own_fault m n (fault.Entity a) (fault.WrongKind b c d) h k = absurd (bad_has_no_reference m n a k.1.0 h k.1.1)
one_own_fault m n (fault.Dangling b c) (fault.Entity a) h k = absurd (bad_has_no_reference m n a h.1.0 k h.1.1)
one_own_fault m n (fault.Dangling a b) (fault.Dangling c d) h k = let same : h.1.0 ≡ k.1.0 = one_first_bad m n h.1.0 k.1.0 h.1.1 k.1.1 in let place : h.1.0.place ≡ k.1.0.place = ap (λ (r : Reference). r.place) same in cc
one_own_fault m n (fault.Dangling a b) (fault.WrongKind c d e) h k = let same : h.1.0 ≡ k.1.0 = one_first_bad m n h.1.0 k.1.0 h.1.1 k.1.1 in absurd (k.1.4 (subst (λ (r : Reference). kept_of r.target m.kept ≡ None) same h.1.3))
one_own_fault m n (fault.WrongKind b c d) (fault.Entity a) h k = absurd (bad_has_no_reference m n a h.1.0 k h.1.1)
one_own_fault m n (fault.WrongKind c d e) (fault.Dangling a b) h k = let same : k.1.0 ≡ h.1.0 = one_first_bad m n k.1.0 h.1.0 k.1.1 h.1.1 in absurd (h.1.4 (subst (λ (r : Reference). kept_of r.target m.kept ≡ None) same k.1.3))
one_own_fault m n (fault.WrongKind a b c) (fault.WrongKind d e f) h k = let same : h.1.0 ≡ k.1.0 = one_first_bad m n h.1.0 k.1.0 h.1.1 k.1.1 in let place : h.1.0.place ≡ k.1.0.place = ap (λ (r : Reference). r.place) same in let target : h.1.0.target ≡ k.1.0.target = ap (λ (r : Reference). r.target) same in cc
one_own_fault m n (fault.Cycle a) other h k = absurd h
one_own_fault m n fault.Memory other h k = absurd h
one_own_fault m n (fault.Entity a) (fault.Cycle b) h k = absurd k
one_own_fault m n (fault.Entity a) fault.Memory h k = absurd k
one_own_fault m n (fault.Dangling a b) (fault.Cycle c) h k = absurd k
one_own_fault m n (fault.Dangling a b) fault.Memory h k = absurd k
one_own_fault m n (fault.WrongKind a b c) (fault.Cycle d) h k = absurd k
one_own_fault m n (fault.WrongKind a b c) fault.Memory h k = absurd k

one_least_fault : (m : ModelContent) (why other : RefFault) → IsLeastFault m why → IsLeastFault m other → why ≡ other
one_least_fault m why other h k =
    let low : h.number ≤ k.number = h.least k.number other k.reached k.own in
    let high : k.number ≤ h.number = k.least h.number why h.reached h.own in
    let same : k.number ≡ h.number = omega arith in
    one_own_fault m h.number why other h.own (subst (λ (n : ℕ). IsOwnFault m n other) same k.own)

abbrev IsVerdict : ModelContent → RefFault → Type 0
IsVerdict m why = IsLeastFault m why ⊎ ((n : ℕ) × (why ≡ fault.Cycle n) × IsLeastOnCycle m n)

verdict_of : (m : ModelContent) (why : RefFault) → IsRefFault m why → IsVerdict m why
verdict_of m (fault.Entity a) h = inl h
verdict_of m (fault.Dangling a b) h = inl h
verdict_of m (fault.WrongKind a b c) h = inl h
verdict_of m (fault.Cycle n) h = inr (n, refl, h)
verdict_of m fault.Memory h = inl h

one_cycle : (m : ModelContent) (a b : ℕ) → IsLeastOnCycle m a → IsLeastOnCycle m b → a ≡ b
one_cycle m a b h k =
    let low : a ≤ b = h.least b k.reached k.on_cycle in
    let high : b ≤ a = k.least a h.reached h.on_cycle in
    omega arith

fault_or_cycle : (m : ModelContent) (why : RefFault) (n : ℕ) → IsLeastFault m why → IsLeastOnCycle m n → ⊥
fault_or_cycle m why n h k = k.no_fault h.number why h.reached h.own

pub one_fault : (m : ModelContent) (why other : RefFault) → IsRefFault m why → IsRefFault m other → why ≡ other
one_fault m why other h k =
    ⊎_elim
    (λ a. ⊎_elim (λ b. one_least_fault m why other a b) (λ b. absurd (fault_or_cycle m why b.0 a b.2)) (verdict_of m other k))
    (λ a. ⊎_elim (λ b. absurd (fault_or_cycle m other a.0 b a.2)) (λ b. a.1 ∙ (ap fault.Cycle (one_cycle m a.0 b.0 a.2 b.2) ∙ sym b.1)) (verdict_of m other k))
    (verdict_of m why h)

first_bad_held : (m : ModelContent) (n : ℕ) (r : Reference) → IsFirstBad m n r → Contains (references n m) r
first_bad_held m n r h = subst (λ (rs : List Reference). Contains rs r) (sym h.all) (Contains-append_right h.before (r ∷ h.after) r (0, omega arith, refl))

sound_has_no_own : (m : ModelContent) (n : ℕ) (why : RefFault) → IsSound m → ((q : Reference) → Contains (references n m) q → IsOfKind m q) → ((f : Fields) × (entry_of n m ≡ Some (Typed f))) → IsOwnFault m n why → ⊥
sound_has_no_own m n (fault.Entity a) sound kinds shown h = let typed : entry_of n m ≡ Some (Typed shown.0) = shown.1 in cc
sound_has_no_own m n (fault.Dangling a b) sound kinds shown h = h.1.1.bad (kinds h.1.0 (first_bad_held m n h.1.0 h.1.1))
sound_has_no_own m n (fault.WrongKind a b c) sound kinds shown h = h.1.1.bad (kinds h.1.0 (first_bad_held m n h.1.0 h.1.1))
sound_has_no_own m n (fault.Cycle a) sound kinds shown h = h
sound_has_no_own m n fault.Memory sound kinds shown h = h

pub sound_or_fault : (m : ModelContent) (why : RefFault) → IsSound m → IsRefFault m why → ⊥
sound_or_fault m why sound h =
    ⊎_elim
    (λ a. sound_has_no_own m a.number why sound (sound.kinds a.number a.reached) (sound.shown a.number a.reached) a.own)
    (λ a. sound.acyclic a.0 a.2.reached a.2.on_cycle)
    (verdict_of m why h)

pub least_is_fault : (m : ModelContent) (why : RefFault) → IsLeastFault m why → IsRefFault m why
least_is_fault m (fault.Entity a) h = h
least_is_fault m (fault.Dangling a b) h = h
least_is_fault m (fault.WrongKind a b c) h = h
least_is_fault m (fault.Cycle a) h = absurd h.own
least_is_fault m fault.Memory h = h
