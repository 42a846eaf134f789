-- The first kind of fault that an item has.
use Rattle.std.proofs.Common.{◌≡◌, ℕ, ◌+◌, ◌≤◌, Bool, true, false, cond, List, [], ◌∷◌, refl, sym, subst, arith, Ok, Err}
use Rattle.std.specs.Prelude.{Option, Some, None}
use Rattle.std.specs.List.{find}
use Rattle.sn_geom.specs.declared.block.LineFault.{LineFault}
use Rattle.sn_geom.specs.LineText.{Item, Kind, Said, is_faulty, said_with, fault_at, rank, bad_char, bad_number, too_fine, out_of_range, twice, same_group, unsupported, open_comment}
use Rattle.sn_block.specs.Steps.{least, or_fault, step, kinds}

abbrev Each : (Kind → Type 0) → List Kind → Type 0
Each P [] = Unit {0}
Each P (k ∷ ks) = P k × Each P ks

-- the kinds have these ranks, one after another
abbrev Ranked : ℕ → List Kind → Type 0
Ranked n [] = Unit {0}
Ranked n (k ∷ ks) = (rank k ≡ n) × Ranked (n + 1) ks

each : (P : Kind → Type 0) → Each P kinds → (k : Kind) → P k
each P h bad_char = h.0
each P h bad_number = h.1.0
each P h too_fine = h.1.1.0
each P h out_of_range = h.1.1.1.0
each P h twice = h.1.1.1.1.0
each P h same_group = h.1.1.1.1.1.0
each P h unsupported = h.1.1.1.1.1.1.0
each P h open_comment = h.1.1.1.1.1.1.1.0

none_step : (test : Kind → Bool) (k : Kind) (ks : List Kind) (t : Bool) → test k ≡ t → cond t (Some k) (find test ks) ≡ None → (find test ks ≡ None → Each (λ j. test j ≡ false) ks) → (test k ≡ false) × Each (λ j. test j ≡ false) ks
none_step test k ks true e h rest = absurd (cc)
none_step test k ks false e h rest = (e, rest h)

find_none : (test : Kind → Bool) (ks : List Kind) → find test ks ≡ None → Each (λ j. test j ≡ false) ks
find_none test [] h = tt
find_none test (k ∷ ks) h = none_step test k ks (test k) refl h (find_none test ks)

later_ranks : (n m : ℕ) (test : Kind → Bool) (ks : List Kind) → n ≤ m → Ranked m ks → Each (λ j. test j ≡ true → n ≤ rank j) ks
later_ranks n m test [] h r = tt
later_ranks n m test (k ∷ ks) h r = ((λ _. omega (arith, r.0)), later_ranks n (m + 1) test ks (omega arith) r.1)

pub record IsLeast (test : Kind → Bool) (k : Kind) (ks : List Kind) : Type 0 where
  pub has : test k ≡ true
  pub first : Each (λ j. test j ≡ true → rank k ≤ rank j) ks

some_step : (n : ℕ) (test : Kind → Bool) (k j : Kind) (ks : List Kind) (t : Bool) → test k ≡ t → rank k ≡ n → Ranked (n + 1) ks → cond t (Some k) (find test ks) ≡ Some j → (find test ks ≡ Some j → IsLeast test j ks) → IsLeast test j (k ∷ ks)
some_step n test k j ks true e r rs h rest =
    let same : k ≡ j = cc in
    subst (λ i. IsLeast test i (k ∷ ks)) same
    (record { has = e; first = ((λ _. omega arith), later_ranks (rank k) (n + 1) test ks (omega (arith, r)) rs) })
some_step n test k j ks false e r rs h rest =
    let l = rest h in
    let no : test k ≡ true → rank j ≤ rank k = (λ y. absurd (cc)) in
    record { has = l.has; first = (no, l.first) }

find_some : (n : ℕ) (test : Kind → Bool) (ks : List Kind) (j : Kind) → Ranked n ks → find test ks ≡ Some j → IsLeast test j ks
find_some n test [] j r h = absurd (cc)
find_some n test (k ∷ ks) j r h = some_step n test k j ks (test k) refl r.0 r.1 h (find_some (n + 1) test ks j r.1)

-- the item has no fault, and t is said with it
pub record Passed (s : Said) (item : Option Item) (t : Said) : Type 0 where
  pub is : t ≡ said_with s item
  pub none : (k : Kind) → is_faulty s item k ≡ false

-- f is the item's fault of the first kind
pub record Stopped (s : Said) (item : Option Item) (column : ℕ) (f : LineFault) : Type 0 where
  pub kind : Kind
  pub is : f ≡ fault_at kind column
  pub has : is_faulty s item kind ≡ true
  pub first : (k : Kind) → is_faulty s item k ≡ true → rank kind ≤ rank k

passed_by : (s : Said) (item : Option Item) (c : ℕ) (t : Said) (o : Option Kind) → least (is_faulty s item) ≡ o → or_fault o (said_with s item) c ≡ Ok t → Passed s item t
passed_by s item c t None e h =
    let same : said_with s item ≡ t = cc in
    record { is = sym same; none = each (λ k. is_faulty s item k ≡ false) (find_none (is_faulty s item) kinds e) }
passed_by s item c t (Some k) e h = absurd (cc)

pub step_passed : (s : Said) (item : Option Item) (c : ℕ) (t : Said) → step s item c ≡ Ok t → Passed s item t
unfolding step
step_passed s item c t h = passed_by s item c t (least (is_faulty s item)) refl h

stopped_by : (s : Said) (item : Option Item) (c : ℕ) (f : LineFault) (o : Option Kind) → least (is_faulty s item) ≡ o → or_fault o (said_with s item) c ≡ Err f → Stopped s item c f
stopped_by s item c f None e h = absurd (cc)
stopped_by s item c f (Some k) e h =
    let same : fault_at k c ≡ f = cc in
    let l : IsLeast (is_faulty s item) k kinds = find_some 0 (is_faulty s item) kinds k (refl, (refl, (refl, (refl, (refl, (refl, (refl, (refl, tt)))))))) e in
    record { kind = k; is = sym same; has = l.has; first = each (λ j. is_faulty s item j ≡ true → rank k ≤ rank j) l.first }

pub step_stopped : (s : Said) (item : Option Item) (c : ℕ) (f : LineFault) → step s item c ≡ Err f → Stopped s item c f
unfolding step
step_stopped s item c f h = stopped_by s item c f (least (is_faulty s item)) refl h
