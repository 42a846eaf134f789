-- What a walk tells at its end.
use Rattle.std.proofs.Common.{◌≡◌, ℕ, ◌≤◌, ◌<◌, ◌-◌, List, [], ◌∷◌, length, nat_eq, ◌+◌, Option, Some, None, MatchOption, subst, refl, ap, ◌∙◌, ⊎_elim, arith, length-append}
use Rattle.std.proofs.lemmas.Cmp.{nat_eq_equiv}
use Rattle.std.proofs.lemmas.Map.Made.{is_some-lookup}
use Rattle.std.proofs.lemmas.Map.Steps.{length-le_from_keys}
use Rattle.std.specs.List.{Contains, IsDistinct}
use Rattle.std.specs.Map.{keys_of}
use Rattle.std.specs.Option.{IsSome}
use Rattle.sn_entity.specs.declared.value.Fields.{Fields}
use Rattle.sn_model.specs.declared.model.Entry.TheVariants.{Typed}
use Rattle.sn_model.specs.declared.model.Kept.{Kept}
use Rattle.sn_model.specs.ModelContent.{ModelContent, kept_of, entry_of, row_from}
use Rattle.sn_entity.specs.declared.row.RowId.{RowId}
use Rattle.sn_refs.specs.declared.fault.RefFault.TheVariants as refusal
use Rattle.sn_refs.specs.declared.walk.Component.{Component}
use Rattle.sn_refs.specs.declared.walk.Noted.{Noted}
use Rattle.sn_refs.specs.Path.{Part, members_of, component, components_of, IsVisited, IsFaultless, IsNotedFault, IsNotedCycle, verdict_of_walk, IsAt}
use Rattle.sn_refs.specs.Reference.{IsReached}
use Rattle.sn_refs.specs.Sound.{IsSound, IsLeastFault, IsLeastOnCycle, IsRefFault, IsRanked}
use Rattle.sn_refs.proofs.Chains.{closed_chain}
use Rattle.sn_refs.proofs.FaultLemmas.{least_is_fault}
use Rattle.sn_refs.proofs.InstanceLemmas.{no_own_fault, held_is_of_kind}
use Rattle.sn_refs.proofs.ModelLemmas.{HasRows, IsLive, reached_is_live, reached_is_shown}
use Rattle.sn_refs.proofs.Paths.{Contains-nil}

no_part_left : (parts : List Part) → [] ≡ components_of parts → parts ≡ []
no_part_left [] e = refl
no_part_left (p ∷ outer) e = absurd (let longer : length {A = Component} [] ≡ length (components_of outer) + 1 = ap length e ∙ length-append (components_of outer) (component outer p.is_cyclic ∷ []) in omega arith)

module _ (m : ModelContent) (rows : HasRows m) (members pending : List ℕ) (places : List (ℕ × ℕ)) (fault : Option Noted) (cycle : Option ℕ) (at : IsAt m None members pending [] places fault cycle) where
  visited_is_done : (n : ℕ) → IsVisited places n → Contains at.done n
  visited_is_done n v = ⊎_elim (λ on. absurd (Contains-nil n (subst (λ (ps : List Part). Contains (members_of ps) n) (no_part_left at.parts at.stands) on))) (λ d. d) (at.marked.visited n v)

  project_is_visited : IsVisited places m.project
  project_is_visited = ⊎_elim (λ e. absurd (cc)) (λ v. v) at.begun

  reached_is_done : (n : ℕ) → IsReached m n → Contains at.done n
  reached_is_done n h = closed_chain m at.done at.closed m.project h.0 n (visited_is_done m.project project_is_visited) h.1

  reached_is_visited : (n : ℕ) → IsReached m n → IsVisited places n
  reached_is_visited n h = at.marked.is_done n (reached_is_done n h)

  done_is_reached : (n : ℕ) → Contains at.done n → IsReached m n
  done_is_reached n d = at.reached n (at.marked.is_done n d)

  faultless_shown : (n : ℕ) → IsFaultless m n → IsReached m n → (f : Fields) × (entry_of n m ≡ Some (Typed f))
  faultless_shown n less h = ⊎_elim (λ t. t) (λ b. absurd (no_own_fault m n less (refusal.Entity b.0) b.1)) (reached_is_shown m n rows h)

  told_sound : fault ≡ None → cycle ≡ None → IsSound m × IsRanked m
  told_sound no_fault no_cycle =
      let less : IsNotedFault m places None = subst (IsNotedFault m places) no_fault at.noted in
      let off : IsNotedCycle m at.done None = subst (IsNotedCycle m at.done) no_cycle at.found in (
        record {
          shown = λ n h. faultless_shown n (less n (reached_is_visited n h)) h;
          kinds = λ n h r c. held_is_of_kind m n r (less n (reached_is_visited n h)) c;
          acyclic = λ n h. off.1 n (reached_is_done n h);
        },
        (at.done, off.0, reached_is_done),
      )

  told_cycle : fault ≡ None → (k : ℕ) → cycle ≡ Some k → IsLeastOnCycle m k
  told_cycle no_fault k is =
      let less : IsNotedFault m places None = subst (IsNotedFault m places) no_fault at.noted in
      let on : IsNotedCycle m at.done (Some k) = subst (IsNotedCycle m at.done) is at.found in
      record {
        no_fault = λ n why h. no_own_fault m n (less n (reached_is_visited n h)) why;
        reached = done_is_reached k on.0;
        on_cycle = on.1;
        least = λ n h c. on.2 n (reached_is_done n h) c;
      }

  told_fault : (f : Noted) → fault ≡ Some f → IsLeastFault m f.fault
  told_fault f is =
      let first : IsNotedFault m places (Some f) = subst (IsNotedFault m places) is at.noted in
      record {
        number = f.number;
        reached = at.reached f.number first.0;
        own = first.1;
        least = λ n why h own. first.2 n why (reached_is_visited n h) own;
      }

told_at : (m : ModelContent) → HasRows m → (members pending : List ℕ) (places : List (ℕ × ℕ)) (fault : Option Noted) (cycle : Option ℕ) → IsAt m None members pending [] places fault cycle → MatchOption (verdict_of_walk fault cycle) (IsSound m × IsRanked m) (λ why. IsRefFault m why)
told_at m rows members pending places (Some f) cycle at = least_is_fault m f.fault (told_fault m rows members pending places (Some f) cycle at f refl)
told_at m rows members pending places None (Some k) at = told_cycle m rows members pending places None (Some k) at refl k refl
told_at m rows members pending places None None at = told_sound m rows members pending places None None at refl refl

pub ends : (m : ModelContent) → HasRows m → (members pending : List ℕ) (path : List Component) (places : List (ℕ × ℕ)) (fault : Option Noted) (cycle : Option ℕ) → IsAt m None members pending path places fault cycle → path ≡ [] → MatchOption (verdict_of_walk fault cycle) (IsSound m × IsRanked m) (λ why. IsRefFault m why)
ends m rows members pending path places fault cycle at none = told_at m rows members pending places fault cycle (subst (λ (cs : List Component). IsAt m None members pending cs places fault cycle) none at)

-- ---- there are no more visits than instances

live_is_kept : (o : Option Kept) (id : RowId) → row_from o ≡ Some id → IsSome o
live_is_kept None id e = absurd (cc)
live_is_kept (Some k) id e = refl

pub reached_is_kept : (m : ModelContent) (n : ℕ) → HasRows m → IsReached m n → IsSome (kept_of n m.kept)
reached_is_kept m n rows reached = let live : IsLive m n = reached_is_live m n rows reached in live_is_kept (kept_of n m.kept) live.0 live.1

pub visits_within : (m : ModelContent) (places : List (ℕ × ℕ)) → HasRows m → ((n : ℕ) → IsVisited places n → IsReached m n) → IsDistinct nat_eq (keys_of places) → length (keys_of places) ≤ length m.kept
visits_within m places rows reached unique =
    length-le_from_keys nat_eq_equiv (keys_of places) m.kept unique
    (λ q h. reached_is_kept m q rows (reached q (is_some-lookup (nat_eq q) places ∙ h)))

pub none_visited : (places : List (ℕ × ℕ)) (n : ℕ) → places ≡ [] → IsVisited places n → ⊥
none_visited places n none h = let nothing : IsVisited [] n = subst (λ (ps : List (ℕ × ℕ)). IsVisited ps n) none h in cc

-- a visit leaves less to visit
pub fewer_left : (kept before after : ℕ) → after ≡ before + 1 → after ≤ kept → kept - after < kept - before
fewer_left kept before after is within = omega arith
