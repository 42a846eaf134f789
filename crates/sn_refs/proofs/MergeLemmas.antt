-- How the components of a path become one, and the least number of a component.
use Rattle.std.proofs.Common.{◌≡◌, ℕ, ◌+◌, ◌-◌, ◌<◌, ◌≤◌, min, Bool, true, false, IsTrue, ltb, List, [], ◌∷◌, ◌++◌, length, get_or, take, set, Option, Some, None, MatchOption, subst, sym, refl, ap, ◌∙◌, inl, inr, ⊎_elim, arith, append_assoc, length-append}
use Rattle.std.proofs.lemmas.Bool.{ltb-true, ltb-false, cases_lt}
use Rattle.std.proofs.lemmas.List.{take_more, take_all, take-append-le, get_or_append_left, get_or-append_right}
use Rattle.std.proofs.Math.Seq.{get_or-append_seam, set-append_seam}
use Rattle.std.proofs.lemmas.List.Elements.{Contains-append_left, Contains-append_right, Contains-push, Contains-push_cases}
use Rattle.std.proofs.lemmas.Option.{slice_get-get_or}
use Rattle.std.specs.List.{Contains, slice_get}
use Rattle.sn_model.specs.ModelContent.{ModelContent}
use Rattle.sn_refs.specs.declared.walk.Component.{Component}
use Rattle.sn_refs.specs.Path.{Part, members_of, pending_of, component, components_of, IsNamedBy, IsPath, IsComing, IsMerged, IsLeastOf, lesser_number}
use Rattle.sn_refs.proofs.Paths.{Contains-nil, cyclic, joined, flag_part, join_parts, close_part}

-- ---- the least number

pub least_of_none : (old : Option ℕ) → IsLeastOf old [] old
least_of_none None = (refl, refl)
least_of_none (Some k) = (inl refl, omega arith, λ n h. absurd (Contains-nil n h))

one_more_least : (old : Option ℕ) (ns : List ℕ) (least : Option ℕ) (x : ℕ) → IsLeastOf old ns least → IsLeastOf old (ns ++ x ∷ []) (Some (lesser_number least x))
one_more_least old ns None x h = (
  inr (Contains-push ns x),
  subst (λ (o : Option ℕ). MatchOption o (Unit {0}) (λ n. x ≤ n)) (sym h.0) tt,
  λ n c. ⊎_elim (λ before. absurd (Contains-nil n (subst (λ (xs : List ℕ). Contains xs n) h.1 before))) (λ e. let l : x ≤ x = omega arith in subst (λ (k : ℕ). x ≤ k) e l) (Contains-push_cases ns x n c),
)
one_more_least old ns (Some k) x h = (
  ⊎_elim
      (λ (less : k < x). let is : min k x ≡ k = omega arith in
      ⊎_elim (λ e. inl (e ∙ ap Some (sym is))) (λ c. inr (subst (Contains (ns ++ x ∷ [])) (sym is) (Contains-append_left ns (x ∷ []) k c))) h.0)
      (λ (more : x ≤ k). let is : min k x ≡ x = omega arith in inr (subst (Contains (ns ++ x ∷ [])) (sym is) (Contains-push ns x)))
      (cases_lt k x),
  match_less old k (min k x) (omega arith) h.1,
  λ n c. ⊎_elim (λ before. let l : k ≤ n = h.2 n before in omega arith) (λ e. let l : min k x ≤ x = omega arith in subst (λ (j : ℕ). min k x ≤ j) e l) (Contains-push_cases ns x n c),
)
  where
    match_less : (o : Option ℕ) (a b : ℕ) → b ≤ a → MatchOption o (Unit {0}) (λ n. a ≤ n) → MatchOption o (Unit {0}) (λ n. b ≤ n)
    match_less None a b h p = tt
    match_less (Some n) a b h p = omega arith

pub least_of_more : (old : Option ℕ) (ns : List ℕ) (i : ℕ) (least : Option ℕ) (k : ℕ) → i < length ns → k ≡ lesser_number least (get_or ns i 0) → IsLeastOf old (take i ns) least → IsLeastOf old (take (i + 1) ns) (Some k)
least_of_more old ns i least k within is h =
    subst (λ (xs : List ℕ). IsLeastOf old xs (Some k)) (sym (take_more ns i 0 within))
    (subst (λ (j : ℕ). IsLeastOf old (take i ns ++ get_or ns i 0 ∷ []) (Some j)) (sym is) (one_more_least old (take i ns) least (get_or ns i 0) h))

pub least_of_all : (old : Option ℕ) (ns : List ℕ) (i : ℕ) (least : Option ℕ) → length ns ≤ i → IsLeastOf old (take i ns) least → IsLeastOf old ns least
least_of_all old ns i least past h = subst (λ (xs : List ℕ). IsLeastOf old xs least) (take_all i ns past) h

-- ---- the last element

pub last_is : {X : Type 0} (xs : List X) (x : X) → slice_get (xs ++ x ∷ []) (length (xs ++ x ∷ []) - 1) ≡ Some x
last_is xs x =
    let at : length (xs ++ x ∷ []) - 1 ≡ length xs = omega (arith, length-append xs (x ∷ [])) in
    let within : length xs < length (xs ++ x ∷ []) = omega (arith, length-append xs (x ∷ [])) in
    subst (λ (i : ℕ). slice_get (xs ++ x ∷ []) i ≡ Some x) (sym at) (slice_get-get_or (xs ++ x ∷ []) (length xs) x within ∙ ap Some (get_or-append_seam xs x [] x))

pub front_is : {X : Type 0} (xs : List X) (x : X) → take (length (xs ++ x ∷ []) - 1) (xs ++ x ∷ []) ≡ xs
front_is xs x =
    let at : length (xs ++ x ∷ []) - 1 ≡ length xs = omega (arith, length-append xs (x ∷ [])) in
    let upto : length xs ≤ length xs = omega arith in
    subst (λ (i : ℕ). take i (xs ++ x ∷ []) ≡ xs) (sym at) (take-append-le (length xs) xs (x ∷ []) upto ∙ take_all (length xs) xs upto)

abbrev pub flagged : Component → Component
flagged c = record { first_member = c.first_member; first_pending = c.first_pending; is_cyclic = true }

pub last_flagged : (cs xs : List Component) (x : Component) (i : ℕ) (d : Component) → cs ≡ xs ++ x ∷ [] → i ≡ length cs - 1 → d ≡ get_or cs i d → set cs i (flagged d) ≡ xs ++ flagged x ∷ []
last_flagged cs xs x i d e last here =
    let at : i ≡ length xs = omega (arith, ap length e, length-append xs (x ∷ [])) in
    let is : d ≡ x = here ∙ (ap (λ (zs : List Component). get_or zs i d) e ∙ (ap (λ (j : ℕ). get_or (xs ++ x ∷ []) j d) at ∙ get_or-append_seam xs x [] d)) in
    ap (λ (zs : List Component). set zs i (flagged d)) e
    ∙ (ap (λ (j : ℕ). set (xs ++ x ∷ []) j (flagged d)) at
    ∙ (set-append_seam xs x [] (flagged d) ∙ ap (λ (y : Component). xs ++ flagged y ∷ []) is))

-- ---- where a number stands in two lists

in_left : (xs ys : List ℕ) (n place : ℕ) (h : Contains (xs ++ ys) n) → h.0 ≡ place → place < length xs → Contains xs n
in_left xs ys n place h is within = let l : h.0 < length xs = omega arith in (h.0, l, sym (get_or_append_left xs ys n h.0 l) ∙ h.2)

in_right : (xs ys : List ℕ) (n place : ℕ) (h : Contains (xs ++ ys) n) → h.0 ≡ place → length xs ≤ place → Contains ys n
in_right xs ys n place h is past =
    let l : length xs ≤ h.0 = omega arith in
    (h.0 - length xs, omega (arith, h.1, length-append xs ys), sym (get_or-append_right xs ys (length xs) h.0 n refl l) ∙ h.2)

-- along an equation it stands at the same place
held_along : (xs ys : List ℕ) (n place : ℕ) → xs ≡ ys → (h : Contains xs n) → h.0 ≡ place → (k : Contains ys n) × (k.0 ≡ place)
held_along xs ys n place same h at = ((h.0, subst (λ (zs : List ℕ). h.0 < length zs) same h.1, subst (λ (zs : List ℕ). get_or zs h.0 n ≡ n) same h.2), at)

-- ---- merging

-- what is known when components are to be joined
pub record CanMerge (m : ModelContent) (settled : List ℕ) (parts : List Part) (n place : ℕ) (components : List Component) : Type 0 where
  pub stands : components ≡ components_of parts
  pub path : IsPath m (n ∷ settled) parts
  pub coming : IsComing m parts n
  pub held : Contains (members_of parts) n
  pub at : held.0 ≡ place

-- the inmost part names an instance of the path; its flag is not written yet
pub record IsMerging (m : ModelContent) (settled : List ℕ) (parts : List Part) (n : ℕ) (components : List Component) : Type 0 where
  pub inmost : Part
  pub outer : List Part
  pub flag : Bool
  pub stands : components ≡ components_of outer ++ component outer flag ∷ []
  pub members : members_of (inmost ∷ outer) ≡ members_of parts
  pub pending : pending_of (inmost ∷ outer) ≡ pending_of parts
  pub path : IsPath m (n ∷ settled) (inmost ∷ outer)
  pub is_cyclic : IsTrue inmost.is_cyclic
  pub named : IsNamedBy m inmost.members n

pub merging_begins : (m : ModelContent) (settled : List ℕ) (parts : List Part) (n place : ℕ) (components : List Component) → CanMerge m settled parts n place components → IsMerging m settled parts n components
merging_begins m settled [] n place components h = absurd (Contains-nil n h.held)
merging_begins m settled (p ∷ outer) n place components h = record {
  inmost = cyclic p;
  outer = outer;
  flag = p.is_cyclic;
  stands = h.stands;
  members = refl;
  pending = refl;
  path = flag_part m (n ∷ settled) p outer n h.coming h.held h.path;
  is_cyclic = refl;
  named = h.coming;
}

join_next : (m : ModelContent) (settled : List ℕ) (parts : List Part) (n : ℕ) (p : Part) (outer : List Part) (rest : List Component) → members_of (p ∷ outer) ≡ members_of parts → pending_of (p ∷ outer) ≡ pending_of parts → IsPath m (n ∷ settled) (p ∷ outer) → IsNamedBy m p.members n → Contains (members_of outer) n → rest ≡ components_of outer → IsMerging m settled parts n rest
join_next m settled parts n p [] rest members pending path named held is = absurd (Contains-nil n held)
join_next m settled parts n p (q ∷ outer) rest members pending path named held is = record {
  inmost = joined p q;
  outer = outer;
  flag = q.is_cyclic;
  stands = is;
  members = sym (append_assoc (members_of outer) q.members p.members) ∙ members;
  pending = sym (append_assoc (pending_of outer) q.pending p.pending) ∙ pending;
  path = join_parts m (n ∷ settled) p q outer n named held path;
  is_cyclic = refl;
  named = (named.0, Contains-append_right q.members p.members named.0 named.1, named.2);
}

-- the inmost component begins behind the place and is taken away
pub merging_goes_on : (m : ModelContent) (settled : List ℕ) (parts : List Part) (n place : ℕ) (first components rest : List Component) → CanMerge m settled parts n place first → IsMerging m settled parts n components → MatchOption (slice_get components (length components - 1)) (true ≡ false) (λ c. true ≡ ltb place c.first_member) → rest ≡ take (length components - 1) components → IsMerging m settled parts n rest
merging_goes_on m settled parts n place first components rest can h behind is =
    let c : Component = component h.outer h.flag in
    let at_last : slice_get components (length components - 1) ≡ Some c = ap (λ (cs : List Component). slice_get cs (length cs - 1)) h.stands ∙ last_is (components_of h.outer) c in
    let past : true ≡ ltb place c.first_member = subst (λ (o : Option Component). MatchOption o (true ≡ false) (λ d. true ≡ ltb place d.first_member)) at_last behind in
    let within : place < length (members_of h.outer) = ltb-true place (length (members_of h.outer)) (sym past) in
    let here : (k : Contains (members_of h.outer ++ h.inmost.members) n) × (k.0 ≡ place) = held_along (members_of parts) (members_of h.outer ++ h.inmost.members) n place (sym h.members) can.held can.at in
    join_next m settled parts n h.inmost h.outer rest h.members h.pending h.path h.named
    (in_left (members_of h.outer) h.inmost.members n place here.0 here.1 within)
    (is ∙ (ap (λ (cs : List Component). take (length cs - 1) cs) h.stands ∙ front_is (components_of h.outer) c))

pub merging_ends : (m : ModelContent) (settled : List ℕ) (parts : List Part) (n place : ℕ) (first components last : List Component) → CanMerge m settled parts n place first → IsMerging m settled parts n components → MatchOption (slice_get components (length components - 1)) (false ≡ false) (λ c. false ≡ ltb place c.first_member) → ((outer : List Part) (flag : Bool) → components ≡ components_of outer ++ component outer flag ∷ [] → last ≡ components_of outer ++ component outer true ∷ []) → IsMerged m settled parts last
merging_ends m settled parts n place first components last can h behind is =
    let c : Component = component h.outer h.flag in
    let at_last : slice_get components (length components - 1) ≡ Some c = ap (λ (cs : List Component). slice_get cs (length cs - 1)) h.stands ∙ last_is (components_of h.outer) c in
    let past : false ≡ ltb place c.first_member = subst (λ (o : Option Component). MatchOption o (false ≡ false) (λ d. false ≡ ltb place d.first_member)) at_last behind in
    let within : length (members_of h.outer) ≤ place = ltb-false place (length (members_of h.outer)) (sym past) in
    let here : (k : Contains (members_of h.outer ++ h.inmost.members) n) × (k.0 ≡ place) = held_along (members_of parts) (members_of h.outer ++ h.inmost.members) n place (sym h.members) can.held can.at in
    record {
      merged = cyclic h.inmost ∷ h.outer;
      stands = is h.outer h.flag h.stands;
      members = h.members;
      pending = h.pending;
      path = close_part m settled h.inmost h.outer n (in_right (members_of h.outer) h.inmost.members n place here.0 here.1 within) (flag_part m (n ∷ settled) h.inmost h.outer n h.named here.0 h.path);
    }

pub merging_holds_some : (m : ModelContent) (settled : List ℕ) (parts : List Part) (n : ℕ) (components : List Component) → IsMerging m settled parts n components → length components ≡ 0 → ⊥
merging_holds_some m settled parts n components h none =
    let longer : length components ≡ length (components_of h.outer) + 1 = ap length h.stands ∙ length-append (components_of h.outer) (component h.outer h.flag ∷ []) in
    omega arith
