-- A model cannot be unsound and have no fault.
use Rattle.std.proofs.Common.{◌≡◌, ◌⊎◌, ℕ, zero, suc, ◌<◌, List, [], ◌∷◌, ◌++◌, Option, Some, None, refl, sym, subst, ◌∙◌, inl, inr, ⊎_elim, append_assoc, arith}
use Rattle.std.proofs.lemmas.Bool.{cases_lt}
use Rattle.std.proofs.lemmas.List.Elements.{All-contains, All-from_recursion}
use Rattle.std.specs.List.{AllByRecursion}
use Rattle.sn_entity.specs.declared.row.RowId.{RowId}
use Rattle.sn_entity.specs.Table.{IsInGroup}
use Rattle.sn_entity.specs.TableLaws.{InGroupOrNot}
use Rattle.sn_model.specs.declared.model.Kept.{Kept}
use Rattle.sn_model.specs.ModelContent.{ModelContent, kept_of, row_of_number}
use Rattle.sn_refs.specs.declared.fault.RefFault.{RefFault}
use Rattle.sn_refs.specs.declared.fault.RefFault.TheVariants as fault
use Rattle.sn_refs.specs.declared.reference.Reference.{Reference}
use Rattle.sn_refs.specs.Reference.{references, IsOfKind, IsReached, IsOnCycle}
use Rattle.sn_refs.specs.Sound.{IsSound, IsFirstBad, IsOwnFault, IsLeastFault, IsRefFault}
use Rattle.sn_refs.proofs.FaultLemmas.{least_is_fault}
use Rattle.sn_refs.proofs.ModelLemmas.{HasRows, reached_is_shown}

kind_by : InGroupOrNot → (m : ModelContent) (r : Reference) (o : Option RowId) → row_of_number r.target m ≡ o → IsOfKind m r ⊎ (¬ IsOfKind m r)
kind_by groups m r None e = inr (λ k. let some : None ≡ Some k.0 = sym e ∙ k.1 in absurd cc)
kind_by groups m r (Some id) e =
    ⊎_elim
    (λ yes. inl (id, e, yes))
    (λ no. inr (λ k. let some : Some k.0 ≡ Some id = sym k.1 ∙ e in no (subst (IsInGroup r.group) (let same : k.0 ≡ id = cc in same) k.2)))
    (groups r.group id)

kind_or_not : InGroupOrNot → (m : ModelContent) (r : Reference) → IsOfKind m r ⊎ (¬ IsOfKind m r)
kind_or_not groups m r = kind_by groups m r (row_of_number r.target m) refl

all_push : (P : Reference → Type 0) (rs : List Reference) (r : Reference) → AllByRecursion P rs → P r → AllByRecursion P (rs ++ r ∷ [])
all_push P [] r all h = (h, tt)
all_push P (q ∷ rs) r all h = (all.0, all_push P rs r all.1 h)

-- where no reference is the first bad one, each is of its kind
all_of_kind : InGroupOrNot → (m : ModelContent) (n : ℕ) → ((r : Reference) → ¬ IsFirstBad m n r) → (behind before : List Reference) → references n m ≡ before ++ behind → AllByRecursion (IsOfKind m) before → AllByRecursion (IsOfKind m) behind
all_of_kind groups m n none [] before parts good = tt
all_of_kind groups m n none (r ∷ behind) before parts good =
    ⊎_elim
    (λ yes. (yes, all_of_kind groups m n none behind (before ++ r ∷ []) (parts ∙ sym (append_assoc before (r ∷ []) behind)) (all_push (IsOfKind m) before r good yes)))
    (λ no. absurd (none r (record { before = before; after = behind; all = parts; good = good; bad = no })))
    (kind_or_not groups m r)

bad_is_fault : (m : ModelContent) (n : ℕ) (r : Reference) (o : Option Kept) → kept_of r.target m.kept ≡ o → IsFirstBad m n r → (why : RefFault) × IsOwnFault m n why
bad_is_fault m n r None e bad = (fault.Dangling n r.place, (refl, (r, bad, refl, e)))
bad_is_fault m n r (Some k) e bad = (fault.WrongKind n r.place r.target, (refl, (r, bad, refl, refl, λ none. let some : Some k ≡ None = sym e ∙ none in absurd cc)))

module _ (groups : InGroupOrNot) (m : ModelContent) (rows : HasRows m) (clean : (why : RefFault) → ¬ IsRefFault m why) where
  no_fault_below : (bound n : ℕ) → n < bound → IsReached m n → (why : RefFault) → ¬ IsOwnFault m n why
  no_fault_below zero n lt reached why own = absurd (omega arith)
  no_fault_below (suc bound) n lt reached why own =
      let least : IsLeastFault m why = record {
        number = n;
        reached = reached;
        own = own;
        least = λ k other here fault_there. ⊎_elim (λ less. absurd (no_fault_below bound k (omega arith) here other fault_there)) (λ at_least. at_least) (cases_lt k n);
      } in
      clean why (least_is_fault m why least)

  no_own_fault : (n : ℕ) (why : RefFault) → IsReached m n → ¬ IsOwnFault m n why
  no_own_fault n why reached own = no_fault_below (suc n) n (omega arith) reached why own

  no_cycle_below : (bound n : ℕ) → n < bound → IsReached m n → ¬ IsOnCycle m n
  no_cycle_below zero n lt reached on = absurd (omega arith)
  no_cycle_below (suc bound) n lt reached on =
      clean (fault.Cycle n)
      (record {
        no_fault = λ k other here own. no_own_fault k other here own;
        reached = reached;
        on_cycle = on;
        least = λ k here there. ⊎_elim (λ less. absurd (no_cycle_below bound k (omega arith) here there)) (λ at_least. at_least) (cases_lt k n);
      })

  no_bad : (n : ℕ) → IsReached m n → (r : Reference) → ¬ IsFirstBad m n r
  no_bad n reached r bad = let own = bad_is_fault m n r (kept_of r.target m.kept) refl bad in no_own_fault n own.0 reached own.1

  sound : IsSound m
  sound = record {
    shown = λ n reached. ⊎_elim (λ typed. typed) (λ bad. absurd (no_own_fault n (fault.Entity bad.0) reached bad.1)) (reached_is_shown m n rows reached);
    kinds = λ n reached r held. All-contains (IsOfKind m) (references n m) r (All-from_recursion (IsOfKind m) (references n m) (all_of_kind groups m n (no_bad n reached) (references n m) [] refl tt)) held;
    acyclic = λ n reached on. no_cycle_below (suc n) n (omega arith) reached on;
  }

pub unsound_has_fault : InGroupOrNot → (m : ModelContent) → HasRows m → ¬ IsSound m → ((why : RefFault) → ¬ IsRefFault m why) → ⊥
unsound_has_fault groups m rows unsound clean = unsound (sound groups m rows clean)
