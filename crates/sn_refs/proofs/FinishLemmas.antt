-- A part of the path is done.
use Rattle.std.proofs.Common.{◌≡◌, ◌⊎◌, ℕ, ◌-◌, ◌≤◌, Bool, true, false, not, List, [], ◌∷◌, ◌++◌, length, take, drop, Option, Some, None, subst, sym, refl, ap, ◌∙◌, inl, inr, ⊎_elim, arith, length-append}
use Rattle.std.proofs.lemmas.List.{append-nil, nil_from_length, take_all, length-drop}
use Rattle.std.proofs.lemmas.List.Elements.{Contains-append_left, Contains-append_right, Contains-append_cases}
use Rattle.std.proofs.Math.Seq.{take-append_seam, drop-append_seam}
use Rattle.std.specs.List.{Contains, slice_get, slice_range}
use Rattle.sn_model.specs.ModelContent.{ModelContent}
use Rattle.sn_refs.specs.declared.walk.Component.{Component}
use Rattle.sn_refs.specs.declared.walk.Noted.{Noted}
use Rattle.sn_refs.specs.Path.{Part, members_of, pending_of, component, components_of, IsPart, IsPath, IsMarked, IsClosed, IsNotedCycle, IsLeastOf, IsCounted, IsAt}
use Rattle.sn_refs.specs.Reference.{Names, IsOnCycle}
use Rattle.sn_refs.proofs.Chains.{closed_chain}
use Rattle.sn_refs.proofs.MarkLemmas.{finish_marked}
use Rattle.sn_refs.proofs.MergeLemmas.{front_is}
use Rattle.sn_refs.proofs.Paths.{Contains-nil, Contains-one, Contains-cons_cases, Contains-cons, finished_closed}
use Rattle.sn_refs.proofs.WalkLemmas.{inmost_of}

-- ---- a cyclic part

module _ (m : ModelContent) (done members : List ℕ) (on : (n : ℕ) → Contains members n → IsOnCycle m n) where
  first_cycle : (k : ℕ) → Contains members k → ((n : ℕ) → Contains members n → k ≤ n) → IsNotedCycle m done None → IsNotedCycle m (members ++ done) (Some k)
  first_cycle k held least none = (
    Contains-append_left members done k held,
    on k held,
    λ n c h. ⊎_elim (λ i. least n i) (λ d. absurd (none.1 n d h)) (Contains-append_cases members done n c),
  )

  less_cycle : (j k : ℕ) → (j ≡ k) ⊎ Contains members k → k ≤ j → ((n : ℕ) → Contains members n → k ≤ n) → IsNotedCycle m done (Some j) → IsNotedCycle m (members ++ done) (Some k)
  less_cycle j k which less least before = (
    ⊎_elim (λ e. Contains-append_right members done k (subst (Contains done) e before.0)) (λ i. Contains-append_left members done k i) which,
    ⊎_elim (λ e. subst (IsOnCycle m) e before.1) (λ i. on k i) which,
    λ n c h. ⊎_elim (λ i. least n i) (λ d. let l : j ≤ n = before.2 n d h in omega arith) (Contains-append_cases members done n c),
  )

  cyclic_found : (old new : Option ℕ) → IsLeastOf old members new → IsNotedCycle m done old → IsNotedCycle m (members ++ done) new
  cyclic_found None None h before = subst (λ (xs : List ℕ). IsNotedCycle m (xs ++ done) None) (sym h.1) before
  cyclic_found None (Some k) h before = ⊎_elim (λ e. absurd (cc)) (λ c. first_cycle k c h.2 before) h.0
  cyclic_found (Some j) None h before = absurd (cc (h.0))
  cyclic_found (Some j) (Some k) h before = less_cycle j k (⊎_elim (λ e. inl (cc)) inr h.0) h.1 h.2 before

-- ---- an instance that is no part of a cycle

module _ (m : ModelContent) (done : List ℕ) (n : ℕ) (named : (k : ℕ) → Names m n k → Contains done k) (closed : IsClosed m done) (apart : Contains done n → ⊥) where
  off_cycle : IsOnCycle m n → ⊥
  off_cycle h = apart (closed_chain m done closed h.0 h.1 n (named h.0 h.2.0) h.2.1)

  alone_found : (cycle : Option ℕ) → IsNotedCycle m done cycle → IsNotedCycle m (n ∷ done) cycle
  alone_found None before = ((named, before.0), λ k c h. ⊎_elim (λ e. off_cycle (subst (IsOnCycle m) (sym e) h)) (λ d. before.1 k d h) (Contains-cons_cases done n k c))
  alone_found (Some j) before = (
    Contains-cons done n j before.0,
    before.1,
    λ k c h. ⊎_elim (λ e. absurd (off_cycle (subst (IsOnCycle m) (sym e) h))) (λ d. before.2 k d h) (Contains-cons_cases done n k c),
  )

named_done : (m : ModelContent) (done : List ℕ) (p : Part) (n : ℕ) → p.pending ≡ [] → p.is_cyclic ≡ false → IsPart m done p → Contains p.members n → (k : ℕ) → Names m n k → Contains done k
named_done m done p n none flat part held k h =
    ⊎_elim
    (λ f. absurd (Contains-nil k (subst (λ (ps : List ℕ). Contains ps k) none f)))
    (λ r. ⊎_elim (λ s. s) (λ s. absurd (let yes : p.is_cyclic ≡ true = s.1 in cc)) r)
    (part.followed n k held h)

single_found : (m : ModelContent) (done members outer : List ℕ) (p : Part) (cycle : Option ℕ) (n : ℕ) → p.members ≡ n ∷ [] → p.pending ≡ [] → p.is_cyclic ≡ false → IsPart m done p → IsClosed m done → ((k : ℕ) → Contains done k → Contains (outer ++ p.members) k → ⊥) → IsNotedCycle m done cycle → IsNotedCycle m (p.members ++ done) cycle
single_found m done members outer p cycle n is none flat part closed apart before =
    let held : Contains p.members n = subst (λ (xs : List ℕ). Contains xs n) (sym is) (Contains-one n) in
    subst (λ (xs : List ℕ). IsNotedCycle m (xs ++ done) cycle) (sym is)
    (alone_found m done n (named_done m done p n none flat part held) closed (λ d. apart n d (Contains-append_right outer p.members n held)) cycle before)

part_found : (m : ModelContent) (done outer : List ℕ) (p : Part) (flag : Bool) (old new : Option ℕ) → p.is_cyclic ≡ flag → p.pending ≡ [] → IsPart m done p → IsClosed m done → ((k : ℕ) → Contains done k → Contains (outer ++ p.members) k → ⊥) → IsCounted flag old p.members new → IsNotedCycle m done old → IsNotedCycle m (p.members ++ done) new
part_found m done outer p true old new is none part closed apart counted before = cyclic_found m done p.members (part.cycle is) old new counted before
part_found m done outer p false old new is none part closed apart counted before =
    let one : (n : ℕ) × (p.members ≡ n ∷ []) = part.single is in
    single_found m done p.members outer p new one.0 one.1 none is part closed apart (subst (IsNotedCycle m done) (sym counted) before)

finish_from : (m : ModelContent) (members pending : List ℕ) (path : List Component) (places : List (ℕ × ℕ)) (fault : Option Noted) (cycle new : Option ℕ) (c : Component) (at : IsAt m None members pending path places fault cycle) (p : Part) (outer : List Part) → at.parts ≡ p ∷ outer → c ≡ component outer p.is_cyclic → length pending ≤ c.first_pending → IsCounted c.is_cyclic cycle (drop c.first_member members) new → IsAt m None (take c.first_member members) pending (take (length path - 1) path) places fault new
finish_from m members pending path places fault cycle new c at p outer parts last short counted =
    let starts : c.first_pending ≡ length (pending_of outer) = ap (λ (d : Component). d.first_pending) last in
    let first : c.first_member ≡ length (members_of outer) = ap (λ (d : Component). d.first_member) last in
    let followed : pending ≡ pending_of outer ++ p.pending = at.to_follow ∙ ap pending_of parts in
    let none : p.pending ≡ [] = nil_from_length p.pending (omega (arith, ap length followed, length-append (pending_of outer) p.pending)) in
    let held : members ≡ members_of outer ++ p.members = at.on_path ∙ ap members_of parts in
    let own : drop c.first_member members ≡ p.members = ap (λ (k : ℕ). drop k members) first ∙ (ap (drop (length (members_of outer))) held ∙ drop-append_seam (members_of outer) p.members) in
    let here : IsPath m at.done (p ∷ outer) = subst (IsPath m at.done) parts at.leads in
    let marked : IsMarked places (members_of outer ++ p.members) at.done = subst (λ (ps : List Part). IsMarked places (members_of ps) at.done) parts at.marked in
    record {
      parts = outer;
      done = p.members ++ at.done;
      on_path = ap (λ (k : ℕ). take k members) first ∙ (ap (take (length (members_of outer))) held ∙ take-append_seam (members_of outer) p.members);
      to_follow = followed ∙ (ap (λ (xs : List ℕ). pending_of outer ++ xs) none ∙ append-nil (pending_of outer));
      stands = ap (λ (cs : List Component). take (length cs - 1) cs) (at.stands ∙ ap components_of parts) ∙ front_is (components_of outer) (component outer p.is_cyclic);
      leads = here.2;
      coming = tt;
      begun = at.begun;
      unique = at.unique;
      marked = finish_marked places (members_of outer) p.members at.done marked;
      closed = finished_closed m at.done p none here.0 at.closed;
      reached = at.reached;
      noted = at.noted;
      found = part_found m at.done (members_of outer) p c.is_cyclic cycle new (sym (ap (λ (d : Component). d.is_cyclic) last)) none here.0 at.closed marked.apart (subst (λ (xs : List ℕ). IsCounted c.is_cyclic cycle xs new) own counted) at.found;
    }

pub finishes : (m : ModelContent) (members left pending : List ℕ) (path rest : List Component) (places : List (ℕ × ℕ)) (fault : Option Noted) (cycle new : Option ℕ) (c : Component) → IsAt m None members pending path places fault cycle → slice_get path (length path - 1) ≡ Some c → length pending ≤ c.first_pending → IsCounted c.is_cyclic cycle (drop c.first_member members) new → left ≡ take c.first_member members → rest ≡ take (length path - 1) path → IsAt m None left pending rest places fault new
finishes m members left pending path rest places fault cycle new c at last short counted on_path stands =
    let found : (p : Part) × (outer : List Part) × (at.parts ≡ p ∷ outer) × (c ≡ component outer p.is_cyclic) = inmost_of m at.parts path c at.stands last in
    subst (λ (xs : List ℕ). IsAt m None xs pending rest places fault new) (sym on_path)
    (subst (λ (cs : List Component). IsAt m None (take c.first_member members) pending cs places fault new) (sym stands)
    (finish_from m members pending path places fault cycle new c at found.0 found.1 found.2 found.3 short counted))

pub starts_within : (m : ModelContent) (members pending : List ℕ) (path : List Component) (places : List (ℕ × ℕ)) (fault : Option Noted) (cycle : Option ℕ) (c : Component) → IsAt m None members pending path places fault cycle → slice_get path (length path - 1) ≡ Some c → c.first_member ≤ length members
starts_within m members pending path places fault cycle c at last =
    let found : (p : Part) × (outer : List Part) × (at.parts ≡ p ∷ outer) × (c ≡ component outer p.is_cyclic) = inmost_of m at.parts path c at.stands last in
    let first : c.first_member ≡ length (members_of found.1) = ap (λ (d : Component). d.first_member) found.3 in
    let held : members ≡ members_of found.1 ++ found.0.members = at.on_path ∙ ap members_of found.2 in
    omega (arith, ap length held, length-append (members_of found.1) found.0.members)

-- the members from a place on are those of a cyclic component
pub counts : (old new : Option ℕ) (members seen slice : List ℕ) (first : ℕ) (b : Bool) → not b ≡ false → seen ≡ members → slice ≡ slice_range seen first (length seen) → IsLeastOf old slice new → IsCounted b old (drop first members) new
counts old new members seen slice first b cyclic same part h =
    let all : slice_range members first (length members) ≡ drop first members = take_all (length members - first) (drop first members) (let l : length (drop first members) ≡ length members - first = length-drop first members in omega arith) in
    let is : slice ≡ drop first members = part ∙ (ap (λ (xs : List ℕ). slice_range xs first (length xs)) same ∙ all) in
    subst (λ (f : Bool). IsCounted f old (drop first members) new) (sym (not-false b cyclic)) (subst (λ (xs : List ℕ). IsLeastOf old xs new) is h)
  where
    not-false : (b : Bool) → not b ≡ false → b ≡ true
    not-false true e = refl
    not-false false e = cc
