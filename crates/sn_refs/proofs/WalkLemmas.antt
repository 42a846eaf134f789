-- The steps of a walk, and what stands at its end.
use Rattle.std.proofs.Common.{◌≡◌, ◌⊎◌, ℕ, ◌-◌, ◌<◌, ◌≤◌, Bool, true, false, cond, eqb, ltb, List, [], ◌∷◌, ◌++◌, length, take, drop, Option, Some, None, MatchOption, subst, sym, refl, ap, ◌∙◌, inl, inr, ⊎_elim, arith}
use Rattle.std.proofs.lemmas.Bool.{ltb-false, ltb-true}
use Rattle.std.proofs.lemmas.List.{take-append-drop, take-append-le, drop-append-le}
use Rattle.std.proofs.lemmas.List.Elements.{Contains-append_right}
use Rattle.std.proofs.Math.Seq.{take-append_seam, drop-append_seam}
use Rattle.std.specs.List.{Contains, IsDistinct, slice_get}
use Rattle.std.specs.Map.{keys_of}
use Rattle.sn_model.specs.ModelContent.{ModelContent}
use Rattle.sn_refs.specs.declared.reference.Reference.{Reference}
use Rattle.sn_refs.specs.declared.fault.RefFault.{RefFault}
use Rattle.sn_refs.specs.declared.walk.Component.{Component}
use Rattle.sn_refs.specs.declared.walk.Mark.TheVariants.{OnPath, Done}
use Rattle.sn_refs.specs.declared.walk.Noted.{Noted}
use Rattle.sn_refs.specs.Path.{Part, members_of, pending_of, component, components_of, IsPath, IsVisited, IsMarked, IsFaultless, IsNotedFault, IsComing, IsMarkOf, lesser_fault, IsMerged, IsAt}
use Rattle.sn_refs.specs.Reference.{references, AreTargets, IsReached}
use Rattle.sn_refs.specs.Sound.{IsOwnFault}
use Rattle.sn_refs.proofs.Chains.{leads_by_name, reached_on}
use Rattle.sn_refs.proofs.InstanceLemmas.{no_own_fault, targets_are_named, named_are_targets}
use Rattle.sn_refs.proofs.MarkLemmas.{no_marks, held_is_visited, done_by_mark, IsPlaced, visited_here, visited_cases, visited_still, push_marked}
use Rattle.sn_refs.proofs.MergeLemmas.{last_is}
use Rattle.sn_refs.proofs.Paths.{Contains-nil, with_pending, alone, take_target, taken_named, drop_target, first_part, push_part}

-- ---- the beginning

pub begins : (m : ModelContent) (members pending : List ℕ) (path : List Component) (places : List (ℕ × ℕ)) → members ≡ [] → pending ≡ [] → path ≡ [] → places ≡ [] → IsDistinct eqb (keys_of places) → IsAt m (Some m.project) members pending path places None None
begins m members pending path places on_path to_follow stands none unique = record {
  parts = [];
  done = [];
  on_path = on_path;
  to_follow = to_follow;
  stands = stands;
  leads = tt;
  coming = refl;
  begun = inl refl;
  unique = unique;
  marked = subst (λ (ps : List (ℕ × ℕ)). IsMarked ps [] []) (sym none) no_marks;
  closed = λ a k h. absurd (Contains-nil a h);
  reached = λ n h. absurd (let none : IsVisited [] n = subst (λ (ps : List (ℕ × ℕ)). IsVisited ps n) none h in cc);
  noted = λ n h. absurd (let none : IsVisited [] n = subst (λ (ps : List (ℕ × ℕ)). IsVisited ps n) none h in cc);
  found = (tt, λ n h. absurd (Contains-nil n h));
}

-- ---- an instance is visited

coming_reached : (m : ModelContent) (parts : List Part) (done : List ℕ) (places : List (ℕ × ℕ)) (n : ℕ) → IsMarked places (members_of parts) done → ((k : ℕ) → IsVisited places k → IsReached m k) → IsComing m parts n → IsReached m n
coming_reached m [] done places n marked reached coming = ([], sym coming)
coming_reached m (p ∷ outer) done places n marked reached coming =
    reached_on m coming.0 n
    (reached coming.0 (held_is_visited places (members_of outer ++ p.members) done coming.0 marked (Contains-append_right (members_of outer) p.members coming.0 coming.1)))
    (leads_by_name m coming.0 n coming.2)

coming_part : (m : ModelContent) (parts : List Part) (done : List ℕ) (n : ℕ) (ts : List ℕ) → AreTargets m (references n m) ts → IsComing m parts n → IsPath m (n ∷ done) parts → IsPath m done (alone n ts ∷ parts)
coming_part m [] done n ts targets coming path = first_part m done n ts (named_are_targets m n ts targets) (targets_are_named m n ts targets)
coming_part m (p ∷ outer) done n ts targets coming path = push_part m done p outer n ts coming (named_are_targets m n ts targets) (targets_are_named m n ts targets) path

abbrev IsOwnOf : ModelContent → ℕ → Option RefFault → Type 0
IsOwnOf m n own = MatchOption own (IsFaultless m n) (λ why. IsOwnFault m n why)

module _ (m : ModelContent) (n p : ℕ) (old new : List (ℕ × ℕ)) (placed : IsPlaced n p old new) where
  first_fault : (why : RefFault) → ((k : ℕ) → IsVisited old k → IsFaultless m k) → IsOwnFault m n why → IsNotedFault m new (Some (record { number = n; fault = why }))
  first_fault why before own = (
    visited_here n p old new placed,
    own,
    λ k other v h. ⊎_elim (λ e. let l : n ≤ n = omega arith in subst (λ (x : ℕ). n ≤ x) e l) (λ o. absurd (no_own_fault m k (before k o) other h)) (visited_cases n p old new placed k v),
  )

  less_fault : (f : Noted) (why : RefFault) → n < f.number → IsNotedFault m old (Some f) → IsOwnFault m n why → IsNotedFault m new (Some (record { number = n; fault = why }))
  less_fault f why less before own = (
    visited_here n p old new placed,
    own,
    λ k other v h. ⊎_elim (λ e. let l : n ≤ n = omega arith in subst (λ (x : ℕ). n ≤ x) e l) (λ o. let l : f.number ≤ k = before.2 k other o h in omega arith) (visited_cases n p old new placed k v),
  )

  more_fault : (f : Noted) → ((why : RefFault) → IsOwnFault m n why → f.number ≤ n) → IsNotedFault m old (Some f) → IsNotedFault m new (Some f)
  more_fault f more before = (
    visited_still n p old new placed f.number before.0,
    before.1,
    λ k other v h. ⊎_elim (λ e. subst (λ (x : ℕ). f.number ≤ x) e (more other (subst (λ (x : ℕ). IsOwnFault m x other) (sym e) h))) (λ o. before.2 k other o h) (visited_cases n p old new placed k v),
  )

  lesser_is_noted : (f : Noted) (why : RefFault) (b : Bool) → ltb n f.number ≡ b → IsNotedFault m old (Some f) → IsOwnFault m n why → IsNotedFault m new (cond b (Some (record { number = n; fault = why })) (Some f))
  lesser_is_noted f why true test before own = less_fault f why (ltb-true n f.number test) before own
  lesser_is_noted f why false test before own = let l : f.number ≤ n = ltb-false n f.number test in more_fault f (λ other h. l) before

  fault_is_noted : (fault : Option Noted) (own : Option RefFault) → IsNotedFault m old fault → IsOwnOf m n own → IsNotedFault m new (lesser_fault fault n own)
  fault_is_noted None None before less = λ k v. ⊎_elim (λ e. subst (IsFaultless m) e less) (λ o. before k o) (visited_cases n p old new placed k v)
  fault_is_noted None (Some why) before own = first_fault why before own
  fault_is_noted (Some f) None before less = more_fault f (λ why h. absurd (no_own_fault m n less why h)) before
  fault_is_noted (Some f) (Some why) before own = lesser_is_noted f why (ltb n f.number) refl before own

visits : (m : ModelContent) (n : ℕ) (members pending : List ℕ) (path : List Component) (old new : List (ℕ × ℕ)) (fault : Option Noted) (cycle : Option ℕ) (ts : List ℕ) (own : Option RefFault) → IsAt m (Some n) members pending path old fault cycle → (IsVisited old n → ⊥) → AreTargets m (references n m) ts → IsOwnOf m n own → IsPlaced n (length members) old new → IsDistinct eqb (keys_of new) → IsAt m None (members ++ n ∷ []) (pending ++ ts) (path ++ record { first_member = length members; first_pending = length pending; is_cyclic = false } ∷ []) new (lesser_fault fault n own) cycle
visits m n members pending path old new fault cycle ts own at fresh targets owns placed unique = record {
  parts = alone n ts ∷ at.parts;
  done = at.done;
  on_path = ap (λ (xs : List ℕ). xs ++ n ∷ []) at.on_path;
  to_follow = ap (λ (xs : List ℕ). xs ++ ts) at.to_follow;
  stands = cc (at.stands, at.on_path, at.to_follow);
  leads = coming_part m at.parts at.done n ts targets at.coming at.leads;
  coming = tt;
  begun = ⊎_elim
      (λ e. let is : n ≡ m.project = cc in inr (subst (IsVisited new) is (visited_here n (length members) old new placed)))
      (λ v. inr (visited_still n (length members) old new placed m.project v))
      at.begun;
  unique = unique;
  marked = push_marked n old new (members_of at.parts) at.done (subst (λ (xs : List ℕ). IsPlaced n (length xs) old new) at.on_path placed) fresh at.marked;
  closed = at.closed;
  reached = λ k v. ⊎_elim
      (λ e. subst (IsReached m) e (coming_reached m at.parts at.done old n at.marked at.reached at.coming))
      (λ o. at.reached k o)
      (visited_cases n (length members) old new placed k v);
  noted = fault_is_noted m n (length members) old new placed fault own at.noted owns;
  found = at.found;
}

-- the same, by what each step of a visit gives
module _ (m : ModelContent) (n : ℕ) (members pending : List ℕ) (path : List Component) (old new : List (ℕ × ℕ)) (fault : Option Noted) (cycle : Option ℕ) (ts : List ℕ) (rs : List Reference) (own : Option RefFault) (place first_member first_pending : ℕ) where
  pub visits_to : (longer more : List ℕ) (joined : List Component) (noted : Option Noted) → IsAt m (Some n) members pending path old fault cycle → (IsVisited old n → ⊥) → rs ≡ references n m → AreTargets m rs ts → IsOwnOf m n own → place ≡ length members → IsPlaced n place old new → IsDistinct eqb (keys_of new) → first_member ≡ length members → first_pending ≡ length pending → longer ≡ members ++ n ∷ [] → more ≡ pending ++ ts → joined ≡ path ++ record { first_member = first_member; first_pending = first_pending; is_cyclic = false } ∷ [] → noted ≡ lesser_fault fault n own → IsAt m None longer more joined new noted cycle
  visits_to longer more joined noted at fresh named targets owns is placed unique first next on_path to_follow stands lesser =
      subst (λ (xs : List ℕ). IsAt m None xs more joined new noted cycle) (sym on_path)
      (subst (λ (xs : List ℕ). IsAt m None (members ++ n ∷ []) xs joined new noted cycle) (sym to_follow)
      (subst (λ (cs : List Component). IsAt m None (members ++ n ∷ []) (pending ++ ts) cs new noted cycle)
      (sym (stands ∙ (ap (λ (k : ℕ). path ++ record { first_member = k; first_pending = first_pending; is_cyclic = false } ∷ []) first
      ∙ ap (λ (k : ℕ). path ++ record { first_member = length members; first_pending = k; is_cyclic = false } ∷ []) next)))
      (subst (λ (f : Option Noted). IsAt m None (members ++ n ∷ []) (pending ++ ts) (path ++ record { first_member = length members; first_pending = length pending; is_cyclic = false } ∷ []) new f cycle) (sym lesser)
      (visits m n members pending path old new fault cycle ts own at fresh (subst (λ (xs : List Reference). AreTargets m xs ts) named targets) owns (subst (λ (k : ℕ). IsPlaced n k old new) is placed) unique))))

-- ---- a target is taken

-- the parts that stand on a path of which the last component is known
pub inmost_of : (m : ModelContent) (parts : List Part) (path : List Component) (c : Component) → path ≡ components_of parts → slice_get path (length path - 1) ≡ Some c → (p : Part) × (outer : List Part) × (parts ≡ p ∷ outer) × (c ≡ component outer p.is_cyclic)
inmost_of m [] path c is last = let none : slice_get {X = Component} [] 0 ≡ Some c = subst (λ (cs : List Component). slice_get cs (length cs - 1) ≡ Some c) is last in absurd cc
inmost_of m (p ∷ outer) path c is last =
    let found : slice_get (components_of (p ∷ outer)) (length (components_of (p ∷ outer)) - 1) ≡ Some c = subst (λ (cs : List Component). slice_get cs (length cs - 1) ≡ Some c) is last in
    let here : slice_get (components_of (p ∷ outer)) (length (components_of (p ∷ outer)) - 1) ≡ Some (component outer p.is_cyclic) = last_is (components_of outer) (component outer p.is_cyclic) in
    (p, outer, refl, cc)

-- the last target is one of the inmost part
last_pending : (before own rest : List ℕ) (t : ℕ) → before ++ own ≡ rest ++ t ∷ [] → length before ≤ length rest → (own ≡ drop (length before) rest ++ t ∷ []) × (rest ≡ before ++ drop (length before) rest)
last_pending before own rest t is long =
    let upto : length before ≤ length before = omega arith in
    let front : take (length before) rest ≡ before = sym (take-append-le (length before) rest (t ∷ []) long) ∙ (ap (take (length before)) (sym is) ∙ take-append_seam before own) in (
      sym (drop-append_seam before own) ∙ (ap (drop (length before)) is ∙ drop-append-le (length before) rest (t ∷ []) long),
      sym (take-append-drop (length before) rest) ∙ ap (λ (xs : List ℕ). xs ++ drop (length before) rest) front,
    )

take_from : (m : ModelContent) (members pending rest : List ℕ) (path : List Component) (places : List (ℕ × ℕ)) (fault : Option Noted) (cycle : Option ℕ) (c : Component) (t : ℕ) (at : IsAt m None members pending path places fault cycle) (p : Part) (outer : List Part) → at.parts ≡ p ∷ outer → c ≡ component outer p.is_cyclic → c.first_pending ≤ length rest → pending ≡ rest ++ t ∷ [] → IsAt m (Some t) members rest path places fault cycle
take_from m members pending rest path places fault cycle c t at p outer parts last long is =
    let starts : c.first_pending ≡ length (pending_of outer) = ap (λ (d : Component). d.first_pending) last in
    let split : (p.pending ≡ drop (length (pending_of outer)) rest ++ t ∷ []) × (rest ≡ pending_of outer ++ drop (length (pending_of outer)) rest) =
    last_pending (pending_of outer) p.pending rest t (sym (ap pending_of parts) ∙ (sym at.to_follow ∙ is)) (omega arith) in
    let left : List ℕ = drop (length (pending_of outer)) rest in
    let here : IsPath m at.done (p ∷ outer) = subst (IsPath m at.done) parts at.leads in
    record {
      parts = with_pending p left ∷ outer;
      done = at.done;
      on_path = at.on_path ∙ ap members_of parts;
      to_follow = split.1;
      stands = at.stands ∙ ap components_of parts;
      leads = take_target m at.done p outer left t split.0 here;
      coming = taken_named m at.done p left t split.0 here.0;
      begun = ⊎_elim (λ e. absurd (cc)) inr at.begun;
      unique = at.unique;
      marked = subst (λ (ps : List Part). IsMarked places (members_of ps) at.done) parts at.marked;
      closed = at.closed;
      reached = at.reached;
      noted = at.noted;
      found = at.found;
    }

pub takes : (m : ModelContent) (members pending rest : List ℕ) (path : List Component) (places : List (ℕ × ℕ)) (fault : Option Noted) (cycle : Option ℕ) (c : Component) (t : ℕ) → IsAt m None members pending path places fault cycle → slice_get path (length path - 1) ≡ Some c → c.first_pending ≤ length rest → pending ≡ rest ++ t ∷ [] → IsAt m (Some t) members rest path places fault cycle
takes m members pending rest path places fault cycle c t at last long is =
    let found : (p : Part) × (outer : List Part) × (at.parts ≡ p ∷ outer) × (c ≡ component outer p.is_cyclic) = inmost_of m at.parts path c at.stands last in
    take_from m members pending rest path places fault cycle c t at found.0 found.1 found.2 found.3 long is

begun_still : (m : ModelContent) (parts : List Part) (places : List (ℕ × ℕ)) (t : ℕ) → (Some t ≡ Some m.project) ⊎ IsVisited places m.project → IsVisited places t → IsVisited places m.project
begun_still m parts places t begun visited = ⊎_elim (λ e. let is : t ≡ m.project = cc in subst (IsVisited places) is visited) (λ v. v) begun

-- the target is done
pub passes : (m : ModelContent) (members pending : List ℕ) (path : List Component) (places : List (ℕ × ℕ)) (fault : Option Noted) (cycle : Option ℕ) (t : ℕ) → IsAt m (Some t) members pending path places fault cycle → IsMarkOf places members t Done → IsAt m None members pending path places fault cycle
passes m members pending path places fault cycle t at mark = record {
  parts = at.parts;
  done = at.done;
  on_path = at.on_path;
  to_follow = at.to_follow;
  stands = at.stands;
  leads = drop_target m at.done at.parts t (done_by_mark places (members_of at.parts) at.done t at.marked (subst (λ (xs : List ℕ). IsMarkOf places xs t Done) at.on_path mark)) at.leads;
  coming = tt;
  begun = inr (begun_still m at.parts places t at.begun mark.0);
  unique = at.unique;
  marked = at.marked;
  closed = at.closed;
  reached = at.reached;
  noted = at.noted;
  found = at.found;
}

-- the target is on the path
pub joins : (m : ModelContent) (members pending : List ℕ) (path joined : List Component) (places : List (ℕ × ℕ)) (fault : Option Noted) (cycle : Option ℕ) (t place : ℕ) → IsAt m (Some t) members pending path places fault cycle → IsMarkOf places members t (OnPath place) → ((settled : List ℕ) (parts : List Part) → path ≡ components_of parts → IsPath m (t ∷ settled) parts → IsComing m parts t → (h : Contains (members_of parts) t) → h.0 ≡ place → IsMerged m settled parts joined) → IsAt m None members pending joined places fault cycle
joins m members pending path joined places fault cycle t place at mark merges =
    let held : IsMarkOf places (members_of at.parts) t (OnPath place) = subst (λ (xs : List ℕ). IsMarkOf places xs t (OnPath place)) at.on_path mark in
    let merged : IsMerged m at.done at.parts joined = merges at.done at.parts at.stands at.leads at.coming held.0 held.1 in
    record {
      parts = merged.merged;
      done = at.done;
      on_path = at.on_path ∙ sym merged.members;
      to_follow = at.to_follow ∙ sym merged.pending;
      stands = merged.stands;
      leads = merged.path;
      coming = tt;
      begun = inr (begun_still m at.parts places t at.begun (held_is_visited places (members_of at.parts) at.done t at.marked held.0));
      unique = at.unique;
      marked = subst (λ (xs : List ℕ). IsMarked places xs at.done) (sym merged.members) at.marked;
      closed = at.closed;
      reached = at.reached;
      noted = at.noted;
      found = at.found;
    }
