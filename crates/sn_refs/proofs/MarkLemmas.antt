-- What is known of visited instances by the places at which they stand.
use Rattle.std.proofs.Common.{◌≡◌, ◌⊎◌, ℕ, ◌+◌, ◌-◌, ◌<◌, ◌≤◌, Bool, cond, eqb, List, [], ◌∷◌, ◌++◌, length, Some, subst, sym, refl, ap, ◌∙◌, inl, inr, ⊎_elim, arith, length-append}
use Rattle.std.proofs.lemmas.Bool.{cases_lt}
use Rattle.std.proofs.lemmas.Bool.Decides.{eqb_tells}
use Rattle.std.proofs.lemmas.List.{get_or_append_left, get_or-append_right, get_or-append-add}
use Rattle.std.proofs.lemmas.List.Elements.{Contains-append_left, Contains-append_right, Contains-append_cases, Contains-push, Contains-push_cases}
use Rattle.std.specs.List.{Contains}
use Rattle.std.specs.Map.{lookup}
use Rattle.std.specs.Option.{is_some}
use Rattle.sn_refs.specs.declared.walk.Mark.TheVariants.{Done}
use Rattle.sn_refs.specs.Path.{IsVisited, IsMarked, IsMarkOf}
use Rattle.sn_refs.proofs.Paths.{Contains-nil, Contains-one_same}

pub no_marks : IsMarked [] [] []
no_marks = record {
  place = λ n h. absurd (Contains-nil n h);
  visited = λ n h. cc;
  is_done = λ n h. absurd (Contains-nil n h);
  apart = λ n h k. Contains-nil n h;
}

pub held_is_visited : (places : List (ℕ × ℕ)) (members done : List ℕ) (n : ℕ) → IsMarked places members done → Contains members n → IsVisited places n
held_is_visited places members done n marked h = ap is_some (marked.place n h)

pub done_by_mark : (places : List (ℕ × ℕ)) (members done : List ℕ) (n : ℕ) → IsMarked places members done → IsMarkOf places members n Done → Contains done n
done_by_mark places members done n marked h = ⊎_elim (λ on. absurd (h.1 on (marked.place n on))) (λ d. d) (marked.visited n h.0)

-- ---- one more instance is visited

-- n has the place p, and all else is as before
abbrev pub IsPlaced : ℕ → ℕ → List (ℕ × ℕ) → List (ℕ × ℕ) → Type 0
IsPlaced n p old new = (q : ℕ) → lookup (eqb q) new ≡ cond (eqb n q) (Some p) (lookup (eqb q) old)

module _ (n p : ℕ) (old new : List (ℕ × ℕ)) (placed : IsPlaced n p old new) where
  pub placed_here : lookup (eqb n) new ≡ Some p
  placed_here = ⊎_elim (λ y. placed n ∙ ap (λ (b : Bool). cond b (Some p) (lookup (eqb n) old)) y.0) (λ no. absurd (no.1 refl)) (eqb_tells n n)

  pub placed_else : (q : ℕ) → (n ≡ q → ⊥) → lookup (eqb q) new ≡ lookup (eqb q) old
  placed_else q ne = ⊎_elim (λ y. absurd (ne y.1)) (λ no. placed q ∙ ap (λ (b : Bool). cond b (Some p) (lookup (eqb q) old)) no.0) (eqb_tells n q)

  pub visited_here : IsVisited new n
  visited_here = ap is_some placed_here

  pub visited_cases : (q : ℕ) → IsVisited new q → (n ≡ q) ⊎ IsVisited old q
  visited_cases q h = ⊎_elim (λ y. inl y.1) (λ no. inr (sym (ap is_some (placed_else q no.1)) ∙ h)) (eqb_tells n q)

  pub visited_still : (q : ℕ) → IsVisited old q → IsVisited new q
  visited_still q h = ⊎_elim (λ y. subst (IsVisited new) y.1 visited_here) (λ no. ap is_some (placed_else q no.1) ∙ h) (eqb_tells n q)

pub in_front : (xs ys : List ℕ) (n : ℕ) (h : Contains (xs ++ ys) n) → h.0 < length xs → Contains xs n
in_front xs ys n h l = (h.0, l, sym (get_or_append_left xs ys n h.0 l) ∙ h.2)

behind : (xs ys : List ℕ) (n : ℕ) (h : Contains (xs ++ ys) n) → length xs ≤ h.0 → Contains ys n
behind xs ys n h l = (h.0 - length xs, omega (arith, h.1, length-append xs ys), sym (get_or-append_right xs ys (length xs) h.0 n refl l) ∙ h.2)

pub push_marked : (n : ℕ) (old new : List (ℕ × ℕ)) (members done : List ℕ) → IsPlaced n (length members) old new → (IsVisited old n → ⊥) → IsMarked old members done → IsMarked new (members ++ n ∷ []) done
unfolding in_front
push_marked n old new members done placed fresh marked = record {
  place = λ q h. ⊎_elim
      (λ l. let c : Contains members q = in_front members (n ∷ []) q h l in
      let ne : n ≡ q → ⊥ = λ e. fresh (subst (IsVisited old) (sym e) (held_is_visited old members done q marked c)) in
      placed_else n (length members) old new placed q ne ∙ marked.place q c)
      (λ l. let is : n ≡ q = Contains-one_same q n (behind members (n ∷ []) q h l) in
      let at : h.0 ≡ length members = omega (arith, h.1, length-append members (n ∷ [])) in
      subst (λ (x : ℕ). lookup (eqb x) new ≡ Some h.0) is (placed_here n (length members) old new placed ∙ ap Some (sym at)))
      (cases_lt h.0 (length members));
  visited = λ q h. ⊎_elim
      (λ e. inl (subst (Contains (members ++ n ∷ [])) e (Contains-push members n)))
      (λ v. ⊎_elim (λ on. inl (Contains-append_left members (n ∷ []) q on)) inr (marked.visited q v))
      (visited_cases n (length members) old new placed q h);
  is_done = λ q h. visited_still n (length members) old new placed q (marked.is_done q h);
  apart = λ q d h. ⊎_elim (λ on. marked.apart q d on) (λ e. fresh (subst (IsVisited old) (sym e) (marked.is_done q d))) (Contains-push_cases members n q h);
}

-- ---- a part is done

one_place : (places : List (ℕ × ℕ)) (n i j : ℕ) → lookup (eqb n) places ≡ Some i → lookup (eqb n) places ≡ Some j → i ≡ j
one_place places n i j h k = cc

pub finish_marked : (places : List (ℕ × ℕ)) (outer part done : List ℕ) → IsMarked places (outer ++ part) done → IsMarked places outer (part ++ done)
finish_marked places outer part done marked = record {
  place = λ n h. let l : h.0 < length (outer ++ part) = omega (arith, h.1, length-append outer part) in
      marked.place n (h.0, l, get_or_append_left outer part n h.0 h.1 ∙ h.2);
  visited = λ n h. ⊎_elim
      (λ on. ⊎_elim inl (λ p. inr (Contains-append_left part done n p)) (Contains-append_cases outer part n on))
      (λ d. inr (Contains-append_right part done n d))
      (marked.visited n h);
  is_done = λ n h. ⊎_elim
      (λ p. held_is_visited places (outer ++ part) done n marked (Contains-append_right outer part n p))
      (λ d. marked.is_done n d)
      (Contains-append_cases part done n h);
  apart = λ n h o. ⊎_elim
      (λ p. two_places n p o)
      (λ d. marked.apart n d (Contains-append_left outer part n o))
      (Contains-append_cases part done n h);
}
  where
    two_places : (n : ℕ) → Contains part n → Contains outer n → ⊥
    two_places n p o =
        let l : o.0 < length (outer ++ part) = omega (arith, o.1, length-append outer part) in
        let first : lookup (eqb n) places ≡ Some o.0 = marked.place n (o.0, l, get_or_append_left outer part n o.0 o.1 ∙ o.2) in
        let k : length outer + p.0 < length (outer ++ part) = omega (arith, p.1, length-append outer part) in
        let second : lookup (eqb n) places ≡ Some (length outer + p.0) = marked.place n (length outer + p.0, k, get_or-append-add outer part p.0 n ∙ p.2) in
        let same : o.0 ≡ length outer + p.0 = one_place places n o.0 (length outer + p.0) first second in
        omega (arith, o.1)
