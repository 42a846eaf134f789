-- The instances of a sound model stand in an order in which each names earlier ones alone.
use Rattle.std.proofs.Common.{◌≡◌, ◌⊎◌, ℕ, zero, suc, ◌+◌, ◌<◌, ◌≤◌, Bool, true, false, eqb, nat_eq, ◌||◌, List, [], ◌∷◌, ◌++◌, length, subst, sym, refl, inl, inr, ⊎_elim, arith}
use Rattle.std.proofs.lemmas.Bool.{ne_eqb, eqb-true}
use Rattle.std.proofs.lemmas.Cmp.{nat_eq_equiv}
use Rattle.std.proofs.lemmas.List.Elements.{Contains-append_right, Contains-append_cases, Contains-push_cases}
use Rattle.std.proofs.lemmas.Map.Keys.{IsDistinct-cons, IsDistinct-from_apart}
use Rattle.std.proofs.lemmas.Map.Steps.{length-le_from_keys}
use Rattle.std.specs.List.{Contains, AllByRecursion, IsDistinct, list_any}
use Rattle.sn_model.specs.BuiltLaws.{KeptByRow, ProjectHasRow}
use Rattle.sn_model.specs.ModelContent.{ModelContent}
use Rattle.sn_refs.specs.declared.reference.Reference.{Reference}
use Rattle.sn_refs.specs.Path.{IsClosed}
use Rattle.sn_refs.specs.Reference.{references, Names, IsChain, IsReached}
use Rattle.sn_refs.specs.Sound.{IsSound, IsOrdered, SoundIsRanked}
use Rattle.sn_refs.specs.Target.{ChainsAreShort}
use Rattle.sn_refs.proofs.Chains.{IsChain-append, leads_by_name, reached_on, closed_chain}
use Rattle.sn_refs.proofs.EndLemmas.{reached_is_kept}
use Rattle.sn_refs.proofs.ModelLemmas.{has_rows, HasRows}
use Rattle.sn_refs.proofs.Paths.{IsWithin, Contains-nil, Contains-head, Contains-one, Contains-one_same, Contains-cons, Contains-cons_cases}

-- each of the trail leads to n by one reference at least
abbrev IsTrail : ModelContent → List ℕ → ℕ → Type 0
IsTrail m trail n = (a : ℕ) → Contains trail a → (k : ℕ) × (ns : List ℕ) × IsChain m a (k ∷ ns) n

trail_on : (m : ModelContent) (trail : List ℕ) (n k : ℕ) → Names m n k → IsTrail m trail n → IsTrail m (n ∷ trail) k
trail_on m trail n k name leads a h =
    ⊎_elim
    (λ e. (k, [], subst (λ (x : ℕ). IsChain m x (k ∷ []) k) e (name, refl)))
    (λ c. let way : (j : ℕ) × (ns : List ℕ) × IsChain m a (j ∷ ns) n = leads a c in
    (way.0, way.1 ++ k ∷ [], (way.2.0, IsChain-append m way.0 way.1 n (k ∷ []) k way.2.1 (name, refl))))
    (Contains-cons_cases trail n a h)

apart_from : (n : ℕ) (ks : List ℕ) → (Contains ks n → ⊥) → AllByRecursion (λ y. nat_eq n y ≡ false) ks
apart_from n [] none = tt
apart_from n (k ∷ ks) none = (
  ne_eqb n k (λ e. none (subst (Contains (k ∷ ks)) (sym e) (Contains-head ks k))),
  apart_from n ks (λ c. none (Contains-cons ks k n c)),
)

held_by_any : (ks : List ℕ) (q : ℕ) → list_any (nat_eq q) ks ≡ true → Contains ks q
held_by_any [] q h = absurd (cc)
held_by_any (k ∷ ks) q h =
    ⊎_elim
    (λ e. subst (Contains (k ∷ ks)) (sym (eqb-true q k e)) (Contains-head ks k))
    (λ r. Contains-cons ks k q (held_by_any ks q r))
    (either_true (eqb q k) (list_any (nat_eq q) ks) h)
  where
    either_true : (a b : Bool) → (a || b) ≡ true → (a ≡ true) ⊎ (b ≡ true)
    either_true true b h = inl refl
    either_true false b h = inr h

-- an order that holds what the first one holds, and the instance
abbrev IsOrderWith : ModelContent → List ℕ → List ℕ → Type 0
IsOrderWith m order wanted = (more : List ℕ) × IsOrdered m more × IsWithin order more × IsWithin wanted more

Contains-next : (rs : List Reference) (q r : Reference) → Contains rs r → Contains (q ∷ rs) r
Contains-next rs q r h = Contains-append_right (q ∷ []) rs r h

Contains-first : (rs : List Reference) (q : Reference) → Contains (q ∷ rs) q
Contains-first rs q = (0, omega arith, refl)

targets_of : List Reference → List ℕ
targets_of [] = []
targets_of (r ∷ rs) = r.target ∷ targets_of rs

target_of_one : (rs : List Reference) (k : ℕ) → Contains (targets_of rs) k → (r : Reference) × Contains rs r × (r.target ≡ k)
unfolding targets_of
target_of_one [] k h = absurd (Contains-nil k h)
target_of_one (r ∷ rs) k h =
    ⊎_elim
    (λ e. (r, Contains-first rs r, e))
    (λ c. let later : (q : Reference) × Contains rs q × (q.target ≡ k) = target_of_one rs k c in (later.0, Contains-next rs r later.0 later.1, later.2))
    (Contains-cons_cases (targets_of rs) r.target k h)

target_held : (rs : List Reference) (r : Reference) → Contains rs r → Contains (targets_of rs) r.target
unfolding targets_of
target_held [] r h = absurd (let l : h.0 < 0 = h.1 in omega arith)
target_held (q ∷ rs) r h =
    ⊎_elim
    (λ one. let e : q ≡ r = Contains-single q r one in subst (λ (x : Reference). Contains (q.target ∷ targets_of rs) x.target) e (Contains-head (targets_of rs) q.target))
    (λ c. Contains-cons (targets_of rs) q.target r.target (target_held rs r c))
    (Contains-append_cases (q ∷ []) rs r h)
  where
    Contains-single : (q r : Reference) → Contains (q ∷ []) r → q ≡ r
    Contains-single q r one = ⊎_elim (λ n. absurd (let l : n.0 < 0 = n.1 in omega arith)) (λ e. e) (Contains-push_cases [] q r one)

module _ (m : ModelContent) (n : ℕ) (visit : (k : ℕ) → Names m n k → (order : List ℕ) → IsOrdered m order → IsOrderWith m order (k ∷ [])) where
  order_of_all : (ts : List ℕ) → ((k : ℕ) → Contains ts k → Names m n k) → (order : List ℕ) → IsOrdered m order → IsOrderWith m order ts
  order_of_all [] named order ordered = (order, ordered, λ k h. h, λ k h. absurd (Contains-nil k h))
  order_of_all (t ∷ ts) named order ordered =
      let first : IsOrderWith m order (t ∷ []) = visit t (named t (Contains-head ts t)) order ordered in
      let rest : IsOrderWith m first.0 ts = order_of_all ts (λ k h. named k (Contains-cons ts t k h)) first.0 first.1 in (
        rest.0,
        rest.1,
        λ k h. rest.2 k (first.2 k h),
        λ k h. ⊎_elim (λ e. subst (Contains rest.0) e (rest.2 t (first.3 t (Contains-one t)))) (λ c. rest.3 k c) (Contains-cons_cases ts t k h),
      )

module _ (m : ModelContent) (rows : HasRows m) (sound : IsSound m) where
  all_named : (n : ℕ) → IsReached m n → (k : ℕ) → Contains (targets_of (references n m)) k → Names m n k
  all_named n reached k h =
      let one : (r : Reference) × Contains (references n m) r × (r.target ≡ k) = target_of_one (references n m) k h in
      (one.0, one.1, sound.kinds n reached one.0 one.1, one.2)

  with_itself : (n : ℕ) (order : List ℕ) → IsOrderWith m order (targets_of (references n m)) → IsOrderWith m order (n ∷ [])
  with_itself n order all = (
    n ∷ all.0,
    (λ k name. subst (Contains all.0) name.3 (all.3 name.0.target (target_held (references n m) name.0 name.1)), all.1),
    λ k h. Contains-cons all.0 n k (all.2 k h),
    λ k h. subst (Contains (n ∷ all.0)) (Contains-one_same k n h) (Contains-head all.0 n),
  )

  reached_trail : (trail : List ℕ) (n : ℕ) → ((a : ℕ) → Contains trail a → IsReached m a) → IsReached m n → (a : ℕ) → Contains (n ∷ trail) a → IsReached m a
  reached_trail trail n reached here a h = ⊎_elim (λ e. subst (IsReached m) e here) (λ c. reached a c) (Contains-cons_cases trail n a h)

  distinct_trail : (trail : List ℕ) (n : ℕ) → IsDistinct nat_eq trail → IsReached m n → IsTrail m trail n → IsDistinct nat_eq (n ∷ trail)
  distinct_trail trail n distinct here leads = IsDistinct-cons nat_eq n trail (apart_from n trail (λ c. sound.acyclic n here (leads n c))) distinct

  trail_is_short : (trail : List ℕ) → IsDistinct nat_eq trail → ((a : ℕ) → Contains trail a → IsReached m a) → length trail ≤ length m.kept
  trail_is_short trail distinct reached =
      length-le_from_keys nat_eq_equiv trail m.kept distinct (λ q h. reached_is_kept m q rows (reached q (held_by_any trail q h)))

  order_of : (fuel : ℕ) (trail : List ℕ) (n : ℕ) → length m.kept ≤ fuel + length trail → IsDistinct nat_eq trail → ((a : ℕ) → Contains trail a → IsReached m a) → IsReached m n → IsTrail m trail n → (order : List ℕ) → IsOrdered m order → IsOrderWith m order (n ∷ [])
  order_of zero trail n long distinct reached here leads order ordered =
      absurd (let short : length (n ∷ trail) ≤ length m.kept = trail_is_short (n ∷ trail) (distinct_trail trail n distinct here leads) (reached_trail trail n reached here) in omega arith)
  order_of (suc fuel) trail n long distinct reached here leads order ordered =
      with_itself n order
      (order_of_all m n
      (λ k name. order_of fuel (n ∷ trail) k (omega arith) (distinct_trail trail n distinct here leads) (reached_trail trail n reached here) (reached_on m n k here (leads_by_name m n k name)) (trail_on m trail n k name leads))
      (targets_of (references n m)) (all_named n here) order ordered)

ordered_closed : (m : ModelContent) (order : List ℕ) → IsOrdered m order → IsClosed m order
ordered_closed m [] ordered a k h name = absurd (Contains-nil a h)
ordered_closed m (n ∷ earlier) ordered a k h name =
    ⊎_elim
    (λ e. Contains-cons earlier n k (ordered.0 k (subst (λ (x : ℕ). Names m x k) (sym e) name)))
    (λ c. Contains-cons earlier n k (ordered_closed m earlier ordered.1 a k c name))
    (Contains-cons_cases earlier n a h)

no_trail : IsDistinct nat_eq []
no_trail = IsDistinct-from_apart nat_eq [] (λ i j d l within. absurd (omega arith))

pub sound_is_ranked : KeptByRow → ProjectHasRow → SoundIsRanked
sound_is_ranked kept project m model sound =
    let order : IsOrderWith m [] (m.project ∷ []) = order_of m (has_rows kept project m model) sound (length m.kept) [] m.project (omega arith) no_trail (λ a h. absurd (Contains-nil a h)) ([], refl) (λ a h. absurd (Contains-nil a h)) [] tt in
    (order.0, order.1, λ n h. closed_chain m order.0 (ordered_closed m order.0 order.1) m.project h.0 n (order.3 m.project (Contains-one m.project)) h.1)

-- ---- chains are short

module _ (m : ModelContent) (rows : HasRows m) (sound : IsSound m) where
  short_behind : (ns : List ℕ) (a b : ℕ) (trail : List ℕ) → IsDistinct nat_eq trail → ((x : ℕ) → Contains trail x → IsReached m x) → IsReached m a → IsTrail m trail a → IsChain m a ns b → length ns + length trail < length m.kept
  short_behind [] a b trail distinct reached here leads chain =
      let short : length (a ∷ trail) ≤ length m.kept = trail_is_short m rows sound (a ∷ trail) (distinct_trail m rows sound trail a distinct here leads) (reached_trail m rows sound trail a reached here) in omega arith
  short_behind (n ∷ ns) a b trail distinct reached here leads chain =
      let short : length ns + length (a ∷ trail) < length m.kept = short_behind ns n b (a ∷ trail) (distinct_trail m rows sound trail a distinct here leads) (reached_trail m rows sound trail a reached here) (reached_on m a n here (leads_by_name m a n chain.0)) (trail_on m trail a n chain.0 leads) chain.1 in omega arith

pub chains_are_short : KeptByRow → ProjectHasRow → ChainsAreShort
chains_are_short kept project m model sound a ns b here chain =
    let short : length ns + length {A = ℕ} [] < length m.kept = short_behind m (has_rows kept project m model) sound ns a b [] no_trail (λ x h. absurd (Contains-nil x h)) here (λ x h. absurd (Contains-nil x h)) chain in omega arith
