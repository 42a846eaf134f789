-- Steps of a walk: what each keeps of the path.
use Rattle.std.proofs.Common.{◌≡◌, ◌⊎◌, ℕ, ◌<◌, true, false, List, [], ◌∷◌, ◌++◌, subst, sym, refl, inl, inr, ⊎_elim, arith, append_assoc}
use Rattle.std.specs.List.{Contains}
use Rattle.std.proofs.lemmas.List.Elements.{Contains-append_left, Contains-append_right, Contains-append_cases, Contains-push, Contains-push_cases}
use Rattle.sn_model.specs.ModelContent.{ModelContent}
use Rattle.sn_refs.specs.Path.{Leads, Part, members_of, IsNamedBy, IsFollowed, IsPart, IsPath, IsClosed}
use Rattle.sn_refs.specs.Reference.{Names}
use Rattle.sn_refs.proofs.Chains.{leads_itself, leads_on, leads_by_name, round_trip}

pub Contains-nil : (x : ℕ) → ¬ Contains [] x
Contains-nil x h = let l : h.0 < 0 = h.1 in absurd (omega arith)

pub Contains-one : (x : ℕ) → Contains (x ∷ []) x
Contains-one x = (0, omega arith, refl)

pub Contains-one_same : (x y : ℕ) → Contains (y ∷ []) x → y ≡ x
Contains-one_same x y h = ⊎_elim (λ n. absurd (Contains-nil x n)) (λ e. e) (Contains-push_cases [] y x h)

pub Contains-cons : (xs : List ℕ) (y x : ℕ) → Contains xs x → Contains (y ∷ xs) x
Contains-cons xs y x h = Contains-append_right (y ∷ []) xs x h

pub Contains-head : (xs : List ℕ) (y : ℕ) → Contains (y ∷ xs) y
Contains-head xs y = Contains-append_left (y ∷ []) xs y (Contains-one y)

pub Contains-cons_cases : (xs : List ℕ) (y x : ℕ) → Contains (y ∷ xs) x → (y ≡ x) ⊎ Contains xs x
Contains-cons_cases xs y x h = ⊎_elim (λ n. inl (Contains-one_same x y n)) inr (Contains-append_cases (y ∷ []) xs x h)

abbrev pub IsWithin : List ℕ → List ℕ → Type 0
IsWithin xs ys = (n : ℕ) → Contains xs n → Contains ys n

pub within_after : (xs ys front : List ℕ) → IsWithin xs ys → IsWithin (front ++ xs) (front ++ ys)
within_after xs ys front h n c = ⊎_elim (λ f. Contains-append_left front ys n f) (λ x. Contains-append_right front ys n (h n x)) (Contains-append_cases front xs n c)

part_wider : (m : ModelContent) (settled wider : List ℕ) (p : Part) → IsWithin settled wider → IsPart m settled p → IsPart m wider p
part_wider m settled wider p within part = record {
  strong = part.strong;
  followed = λ a k c h. ⊎_elim inl (λ r. inr (⊎_elim (λ s. inl (within k s)) inr r)) (part.followed a k c h);
  named = part.named;
  cycle = part.cycle;
  single = part.single;
}

-- more may be settled
pub path_wider : (m : ModelContent) (settled wider : List ℕ) (parts : List Part) → IsWithin settled wider → IsPath m settled parts → IsPath m wider parts
path_wider m settled wider [] within path = tt
path_wider m settled wider (p ∷ outer) within path = (
  part_wider m settled wider p within path.0,
  path.1,
  path_wider m (p.members ++ settled) (p.members ++ wider) outer (within_after settled wider p.members within) path.2,
)

abbrev pub with_pending : Part → List ℕ → Part
with_pending p pending = record { members = p.members; pending = pending; is_cyclic = p.is_cyclic }

abbrev pub cyclic : Part → Part
cyclic p = record { members = p.members; pending = p.pending; is_cyclic = true }

abbrev pub alone : ℕ → List ℕ → Part
alone n pending = record { members = n ∷ []; pending = pending; is_cyclic = false }

-- a target is taken: it counts as settled, and an instance of the part names it
taken_followed : (m : ModelContent) (settled : List ℕ) (p : Part) (rest : List ℕ) (t : ℕ) → p.pending ≡ rest ++ t ∷ [] → (k : ℕ) → IsFollowed settled p k → IsFollowed (t ∷ settled) (with_pending p rest) k
taken_followed m settled p rest t all k h =
    ⊎_elim
    (λ c. ⊎_elim inl (λ e. inr (inl (subst (Contains (t ∷ settled)) e (Contains-head settled t)))) (Contains-push_cases rest t k (subst (λ (ps : List ℕ). Contains ps k) all c)))
    (λ r. inr (⊎_elim (λ s. inl (Contains-cons settled t k s)) inr r))
    h

pub take_target : (m : ModelContent) (settled : List ℕ) (p : Part) (outer : List Part) (rest : List ℕ) (t : ℕ) → p.pending ≡ rest ++ t ∷ [] → IsPath m settled (p ∷ outer) → IsPath m (t ∷ settled) (with_pending p rest ∷ outer)
take_target m settled p outer rest t all path = (
  record {
    strong = path.0.strong;
    followed = λ a k c h. taken_followed m settled p rest t all k (path.0.followed a k c h);
    named = λ k c. path.0.named k (subst (λ (ps : List ℕ). Contains ps k) (sym all) (Contains-append_left rest (t ∷ []) k c));
    cycle = path.0.cycle;
    single = path.0.single;
  },
  path.1,
  path_wider m (p.members ++ settled) (p.members ++ (t ∷ settled)) outer (within_after settled (t ∷ settled) p.members (λ n c. Contains-cons settled t n c)) path.2,
)

pub taken_named : (m : ModelContent) (settled : List ℕ) (p : Part) (rest : List ℕ) (t : ℕ) → p.pending ≡ rest ++ t ∷ [] → IsPart m settled p → IsNamedBy m p.members t
taken_named m settled p rest t all part = part.named t (subst (λ (ps : List ℕ). Contains ps t) (sym all) (Contains-push rest t))

-- a target that is settled anyway
pub drop_target : (m : ModelContent) (settled : List ℕ) (parts : List Part) (t : ℕ) → Contains settled t → IsPath m (t ∷ settled) parts → IsPath m settled parts
drop_target m settled parts t h path = path_wider m (t ∷ settled) settled parts (λ n c. ⊎_elim (λ e. subst (Contains settled) e h) (λ s. s) (Contains-cons_cases settled t n c)) path

-- an instance that is new becomes the inmost part
new_part : (m : ModelContent) (settled : List ℕ) (n : ℕ) (targets : List ℕ) → ((k : ℕ) → Names m n k → Contains targets k) → ((k : ℕ) → Contains targets k → Names m n k) → IsPart m settled (alone n targets)
new_part m settled n targets complete sound = record {
  strong = λ a b ca cb. subst (λ (x : ℕ). Leads m x b) (Contains-one_same a n ca) (subst (Leads m n) (Contains-one_same b n cb) (leads_itself m n));
  followed = λ a k ca h. inl (complete k (subst (λ (x : ℕ). Names m x k) (sym (Contains-one_same a n ca)) h));
  named = λ k c. (n, Contains-one n, sound k c);
  cycle = λ e. cc;
  single = λ e. (n, refl);
}

pub first_part : (m : ModelContent) (settled : List ℕ) (n : ℕ) (targets : List ℕ) → ((k : ℕ) → Names m n k → Contains targets k) → ((k : ℕ) → Contains targets k → Names m n k) → IsPath m settled (alone n targets ∷ [])
first_part m settled n targets complete sound = (new_part m settled n targets complete sound, λ a b c. absurd (Contains-nil a c), tt)

outer_leads : (m : ModelContent) (settled : List ℕ) (p : Part) (outer : List Part) (n : ℕ) → IsNamedBy m p.members n → IsPath m settled (p ∷ outer) → (a b : ℕ) → Contains (members_of outer ++ p.members) a → Contains (n ∷ []) b → Leads m a b
outer_leads m settled p outer n named path a b ca cb =
    subst (Leads m a) (Contains-one_same b n cb)
    (leads_on m a named.0 n
    (⊎_elim (λ o. path.1 a named.0 o named.1) (λ i. path.0.strong a named.0 i named.1) (Contains-append_cases (members_of outer) p.members a ca))
    (leads_by_name m named.0 n named.2))

pub push_part : (m : ModelContent) (done : List ℕ) (p : Part) (outer : List Part) (n : ℕ) (targets : List ℕ) → IsNamedBy m p.members n → ((k : ℕ) → Names m n k → Contains targets k) → ((k : ℕ) → Contains targets k → Names m n k) → IsPath m (n ∷ done) (p ∷ outer) → IsPath m done (alone n targets ∷ p ∷ outer)
push_part m done p outer n targets named complete sound path =
    (new_part m done n targets complete sound, outer_leads m (n ∷ done) p outer n named path, path)

-- the inmost part names an instance of the path: it is cyclic
pub flag_part : (m : ModelContent) (settled : List ℕ) (p : Part) (outer : List Part) (t : ℕ) → IsNamedBy m p.members t → Contains (members_of outer ++ p.members) t → IsPath m settled (p ∷ outer) → IsPath m settled (cyclic p ∷ outer)
flag_part m settled p outer t named held path = (
  record {
    strong = path.0.strong;
    followed = λ a k c h. ⊎_elim inl (λ r. inr (⊎_elim inl (λ s. inr (s.0, refl)) r)) (path.0.followed a k c h);
    named = path.0.named;
    cycle = λ e a c. round_trip m a named.0 t (path.0.strong a named.0 c named.1) named.2
        (⊎_elim (λ o. path.1 t a o c) (λ i. path.0.strong t a i c) (Contains-append_cases (members_of outer) p.members t held));
    single = λ e. cc;
  },
  path.1,
  path.2,
)

abbrev pub joined : Part → Part → Part
joined p q = record { members = q.members ++ p.members; pending = q.pending ++ p.pending; is_cyclic = true }

-- An instance of the inmost part names one of an outer part, so the two inmost parts are one.
module _ (m : ModelContent) (settled : List ℕ) (p q : Part) (outer : List Part) (t : ℕ) (named : IsNamedBy m p.members t) (held : Contains (members_of outer ++ q.members) t) (path : IsPath m settled (p ∷ q ∷ outer)) where
  back : (b : ℕ) → Contains q.members b → Leads m t b
  back b c = ⊎_elim (λ o. path.2.1 t b o c) (λ i. path.2.0.strong t b i c) (Contains-append_cases (members_of outer) q.members t held)

  within : (a b : ℕ) → Contains q.members a → Contains p.members b → Leads m a b
  within a b ca cb = path.1 a b (Contains-append_right (members_of outer) q.members a ca) cb

  around : (a b : ℕ) → Contains p.members a → Contains q.members b → Leads m a b
  around a b ca cb = leads_on m a t b (leads_on m a named.0 t (path.0.strong a named.0 ca named.1) (leads_by_name m named.0 t named.2)) (back b cb)

  joined_strong : (a b : ℕ) → Contains (q.members ++ p.members) a → Contains (q.members ++ p.members) b → Leads m a b
  joined_strong a b ca cb =
      ⊎_elim
      (λ qa. ⊎_elim (λ qb. path.2.0.strong a b qa qb) (λ pb. within a b qa pb) (Contains-append_cases q.members p.members b cb))
      (λ pa. ⊎_elim (λ qb. around a b pa qb) (λ pb. path.0.strong a b pa pb) (Contains-append_cases q.members p.members b cb))
      (Contains-append_cases q.members p.members a ca)

  in_q : (k : ℕ) → Contains q.members k → Contains (q.members ++ p.members) k
  in_q k c = Contains-append_left q.members p.members k c

  in_p : (k : ℕ) → Contains p.members k → Contains (q.members ++ p.members) k
  in_p k c = Contains-append_right q.members p.members k c

  followed_inner : (k : ℕ) → IsFollowed settled p k → IsFollowed settled (joined p q) k
  followed_inner k h =
      ⊎_elim (λ c. inl (Contains-append_right q.pending p.pending k c))
      (λ r. inr (⊎_elim inl (λ s. inr (in_p k s.0, refl)) r)) h

  followed_outer : (k : ℕ) → IsFollowed (p.members ++ settled) q k → IsFollowed settled (joined p q) k
  followed_outer k h =
      ⊎_elim (λ c. inl (Contains-append_left q.pending p.pending k c))
      (λ r. inr (⊎_elim
      (λ s. ⊎_elim (λ i. inr (in_p k i, refl)) inl (Contains-append_cases p.members settled k s))
      (λ s. inr (in_q k s.0, refl)) r)) h

  joined_named : (k : ℕ) → Contains (q.pending ++ p.pending) k → IsNamedBy m (q.members ++ p.members) k
  joined_named k c =
      ⊎_elim
      (λ qc. let h : IsNamedBy m q.members k = path.2.0.named k qc in (h.0, in_q h.0 h.1, h.2))
      (λ pc. let h : IsNamedBy m p.members k = path.0.named k pc in (h.0, in_p h.0 h.1, h.2))
      (Contains-append_cases q.pending p.pending k c)

  joined_part : IsPart m settled (joined p q)
  joined_part = record {
    strong = joined_strong;
    followed = λ a k c h. ⊎_elim (λ qa. followed_outer k (path.2.0.followed a k qa h)) (λ pa. followed_inner k (path.0.followed a k pa h)) (Contains-append_cases q.members p.members a c);
    named = joined_named;
    cycle = λ e a c. round_trip m a named.0 t (joined_strong a named.0 c (in_p named.0 named.1)) named.2
        (⊎_elim (λ qa. back a qa) (λ pa. leads_on m t named.0 a (⊎_elim (λ o. path.1 t named.0 (Contains-append_left (members_of outer) q.members t o) named.1) (λ i. within t named.0 i named.1) (Contains-append_cases (members_of outer) q.members t held)) (path.0.strong named.0 a named.1 pa)) (Contains-append_cases q.members p.members a c));
    single = λ e. cc;
  }

  pub join_parts : IsPath m settled (joined p q ∷ outer)
  join_parts = (
    joined_part,
    λ a b o c. ⊎_elim (λ qb. path.2.1 a b o qb) (λ pb. path.1 a b (Contains-append_left (members_of outer) q.members a o) pb) (Contains-append_cases q.members p.members b c),
    path_wider m (q.members ++ (p.members ++ settled)) ((q.members ++ p.members) ++ settled) outer (λ n c. subst (λ (xs : List ℕ). Contains xs n) (sym (append_assoc q.members p.members settled)) c) path.2.2,
  )

-- the target is in the inmost part, which is cyclic
pub close_part : (m : ModelContent) (settled : List ℕ) (p : Part) (outer : List Part) (t : ℕ) → Contains p.members t → IsPath m (t ∷ settled) (cyclic p ∷ outer) → IsPath m settled (cyclic p ∷ outer)
close_part m settled p outer t held path = (
  record {
    strong = path.0.strong;
    followed = λ a k c h. ⊎_elim inl (λ r. inr (⊎_elim (λ s. ⊎_elim (λ e. inr (subst (Contains p.members) e held, refl)) inl (Contains-cons_cases settled t k s)) inr r)) (path.0.followed a k c h);
    named = path.0.named;
    cycle = path.0.cycle;
    single = path.0.single;
  },
  path.1,
  path_wider m (p.members ++ (t ∷ settled)) (p.members ++ settled) outer (settled_in_part settled p t held) path.2,
)
  where
    settled_in_part : (settled : List ℕ) (p : Part) (t : ℕ) → Contains p.members t → IsWithin (p.members ++ (t ∷ settled)) (p.members ++ settled)
    settled_in_part settled p t held n c =
        ⊎_elim (λ i. Contains-append_left p.members settled n i)
        (λ r. ⊎_elim (λ e. Contains-append_left p.members settled n (subst (Contains p.members) e held)) (λ s. Contains-append_right p.members settled n s) (Contains-cons_cases settled t n r))
        (Contains-append_cases p.members (t ∷ settled) n c)

-- a part of which nothing is to be followed is done
pub finished_closed : (m : ModelContent) (done : List ℕ) (p : Part) → p.pending ≡ [] → IsPart m done p → IsClosed m done → IsClosed m (p.members ++ done)
finished_closed m done p none part closed a k c h =
    ⊎_elim
    (λ i. ⊎_elim
    (λ f. absurd (Contains-nil k (subst (λ (ps : List ℕ). Contains ps k) none f)))
    (λ r. ⊎_elim (λ s. Contains-append_right p.members done k s) (λ s. Contains-append_left p.members done k s.0) r)
    (part.followed a k i h))
    (λ d. Contains-append_right p.members done k (closed a k d h))
    (Contains-append_cases p.members done a c)
