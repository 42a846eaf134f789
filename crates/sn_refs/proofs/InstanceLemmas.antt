-- The references of one instance, looked at one after another.
use Rattle.std.proofs.Common.{◌≡◌, ℕ, suc, ◌+◌, ◌<◌, ◌≤◌, length, get_or, take, drop, drop-cons, List, [], ◌∷◌, ◌++◌, Option, Some, subst, sym, ap, ◌∙◌, ⊎_elim, append_assoc}
use Rattle.std.proofs.lemmas.List.{take-append-drop, take_all, take_more}
use Rattle.std.proofs.lemmas.List.Elements.{Contains-append_left, Contains-push, Contains-push_cases, All-contains, All-from_recursion}
use Rattle.std.specs.List.{Contains, AllByRecursion}
use Rattle.sn_entity.specs.declared.fault.EntFault.{EntFault}
use Rattle.sn_model.specs.declared.model.Entry.{Entry}
use Rattle.sn_model.specs.declared.model.Entry.TheVariants.{Bad}
use Rattle.sn_model.specs.ModelContent.{ModelContent, entry_of}
use Rattle.sn_refs.specs.declared.fault.RefFault.{RefFault}
use Rattle.sn_refs.specs.declared.fault.RefFault.TheVariants as fault
use Rattle.sn_refs.specs.declared.reference.Reference.{Reference}
use Rattle.sn_refs.specs.Reference.{fault_from, references, IsOfKind, AreTargets, Names}
use Rattle.sn_refs.specs.Path.{IsFaultless}
use Rattle.sn_refs.specs.Sound.{IsFirstBad, IsOwnFault}

fault_from_bad : (o : Option Entry) (why : EntFault) → o ≡ Some (Bad why) → fault_from o ≡ Some why
fault_from_bad o why e = ap fault_from e

all_of_middle : (P : Reference → Type 0) (before : List Reference) (r : Reference) (after : List Reference) → AllByRecursion P (before ++ r ∷ after) → P r
all_of_middle P [] r after h = h.0
all_of_middle P (b ∷ before) r after h = all_of_middle P before r after h.1

no_first_bad : (m : ModelContent) (n : ℕ) (r : Reference) → AllByRecursion (IsOfKind m) (references n m) → IsFirstBad m n r → ⊥
no_first_bad m n r all h = h.bad (all_of_middle (IsOfKind m) h.before r h.after (subst (AllByRecursion (IsOfKind m)) h.all all))

pub no_own_fault : (m : ModelContent) (n : ℕ) → IsFaultless m n → (why : RefFault) → IsOwnFault m n why → ⊥
no_own_fault m n less (fault.Entity a) h = let bad : fault_from (entry_of n m) ≡ Some a = fault_from_bad (entry_of n m) a h in cc (less.0)
no_own_fault m n less (fault.Dangling a b) h = no_first_bad m n h.1.0 less.1 h.1.1
no_own_fault m n less (fault.WrongKind a b c) h = no_first_bad m n h.1.0 less.1 h.1.1
no_own_fault m n less (fault.Cycle a) h = h
no_own_fault m n less fault.Memory h = h

pub one_more_target : (m : ModelContent) (rs : List Reference) (ts : List ℕ) (r : Reference) → IsOfKind m r → AreTargets m rs ts → AreTargets m (rs ++ r ∷ []) (ts ++ r.target ∷ [])
one_more_target m rs ts r kind h = record {
  sound = λ k c. ⊎_elim (λ old. let s : (q : Reference) × Contains rs q × IsOfKind m q × (q.target ≡ k) = h.sound k old in (s.0, Contains-append_left rs (r ∷ []) s.0 s.1, s.2, s.3))
      (λ new. (r, Contains-push rs r, kind, new)) (Contains-push_cases ts r.target k c);
  complete = λ q c of. ⊎_elim (λ old. Contains-append_left ts (r.target ∷ []) q.target (h.complete q old of))
      (λ new. subst (λ (x : Reference). Contains (ts ++ r.target ∷ []) x.target) new (Contains-push ts r.target)) (Contains-push_cases rs r q c);
}

pub no_more_target : (m : ModelContent) (rs : List Reference) (ts : List ℕ) (r : Reference) → (IsOfKind m r → ⊥) → AreTargets m rs ts → AreTargets m (rs ++ r ∷ []) ts
no_more_target m rs ts r kind h = record {
  sound = λ k c. let s : (q : Reference) × Contains rs q × IsOfKind m q × (q.target ≡ k) = h.sound k c in (s.0, Contains-append_left rs (r ∷ []) s.0 s.1, s.2, s.3);
  complete = λ q c of. ⊎_elim (λ old. h.complete q old of) (λ new. absurd (kind (subst (IsOfKind m) (sym new) of))) (Contains-push_cases rs r q c);
}

pub targets_are_named : (m : ModelContent) (n : ℕ) (ts : List ℕ) → AreTargets m (references n m) ts → (k : ℕ) → Contains ts k → Names m n k
targets_are_named m n ts h k c = h.sound k c

pub named_are_targets : (m : ModelContent) (n : ℕ) (ts : List ℕ) → AreTargets m (references n m) ts → (k : ℕ) → Names m n k → Contains ts k
named_are_targets m n ts h k name = subst (Contains ts) name.3 (h.complete name.0 name.1 name.2)

-- the references before i are of their kind, and the one at i is not
pub found_first_bad : (m : ModelContent) (n : ℕ) (rs : List Reference) (i : ℕ) (d : Reference) → rs ≡ references n m → i < length rs → AllByRecursion (IsOfKind m) (take i rs) → (IsOfKind m (get_or rs i d) → ⊥) → IsFirstBad m n (get_or rs i d)
found_first_bad m n rs i d same within good bad = record {
  before = take i rs;
  after = drop (suc i) rs;
  all = sym same ∙ (sym (take-append-drop i rs) ∙ ap (λ (xs : List Reference). take i rs ++ xs) (drop-cons rs i d within));
  good = good;
  bad = bad;
}

pub all_of_kind : (m : ModelContent) (n : ℕ) (rs : List Reference) (i : ℕ) → rs ≡ references n m → length rs ≤ i → AllByRecursion (IsOfKind m) (take i rs) → AllByRecursion (IsOfKind m) (references n m)
all_of_kind m n rs i same past good = subst (AllByRecursion (IsOfKind m)) (take_all i rs past ∙ same) good

-- the numbers that were added are those that the references name
abbrev pub HasTargets : ModelContent → List Reference → List ℕ → List ℕ → Type 0
HasTargets m rs old new = (targets : List ℕ) × (new ≡ old ++ targets) × AreTargets m rs targets

module _ (m : ModelContent) (rs : List Reference) (i : ℕ) (d : Reference) (old now new : List ℕ) (within : i < length rs) where
  pub targets_with : IsOfKind m (get_or rs i d) → new ≡ now ++ (get_or rs i d).target ∷ [] → HasTargets m (take i rs) old now → HasTargets m (take (i + 1) rs) old new
  targets_with kind is kept = (
    kept.0 ++ (get_or rs i d).target ∷ [],
    is ∙ (ap (λ (xs : List ℕ). xs ++ (get_or rs i d).target ∷ []) kept.1 ∙ append_assoc old kept.0 ((get_or rs i d).target ∷ [])),
    subst (λ (xs : List Reference). AreTargets m xs (kept.0 ++ (get_or rs i d).target ∷ [])) (sym (take_more rs i d within)) (one_more_target m (take i rs) kept.0 (get_or rs i d) kind kept.2),
  )

  pub targets_without : (IsOfKind m (get_or rs i d) → ⊥) → new ≡ now → HasTargets m (take i rs) old now → HasTargets m (take (i + 1) rs) old new
  targets_without kind is kept = (
    kept.0,
    is ∙ kept.1,
    subst (λ (xs : List Reference). AreTargets m xs kept.0) (sym (take_more rs i d within)) (no_more_target m (take i rs) kept.0 (get_or rs i d) kind kept.2),
  )

pub held_is_of_kind : (m : ModelContent) (n : ℕ) (r : Reference) → IsFaultless m n → Contains (references n m) r → IsOfKind m r
held_is_of_kind m n r less held = All-contains (IsOfKind m) (references n m) r (All-from_recursion (IsOfKind m) (references n m) less.1) held
