-- Points that are replaced by their places, one after the other.
use Rattle.std.proofs.Common.{◌≡◌, ℕ, zero, suc, ◌+◌, ◌<◌, ◌≤◌, Bool, true, false, ◌&&◌, List, [], ◌∷◌, ◌++◌, map, length, take, drop, get_or, set, Result, Ok, Err, refl, sym, ap, ◌∙◌, arith, add-one}
use Rattle.std.specs.List.{list_all}
use Rattle.std.specs.Prelude.{if◌then◌else◌}
use Rattle.sn_geom.specs.declared.units.Pt.{Pt}
use Rattle.sn_frame.specs.declared.frame.FrameFault.{FrameFault}
use Rattle.sn_frame.specs.declared.frame.FrameFault.TheVariants.{OutOfRange}
use Rattle.sn_feature.specs.declared.site.Site.{Site}
use Rattle.sn_feature.specs.Outline.{put, lands_in_range, put_at, points_at}

module _ {A : Type 0} (place : A → A) (test : A → Bool) where
  pub read_at : (xs : List A) (i : ℕ) (d : A) → i < length xs → get_or (map place (take i xs) ++ drop i xs) i d ≡ get_or xs i d
  read_at [] i d h = absurd (omega arith)
  read_at (x ∷ xs) zero d h = refl
  read_at (x ∷ xs) (suc i) d h = read_at xs i d (omega arith)

  write_more : (xs : List A) (i : ℕ) (d : A) → i < length xs → set (map place (take i xs) ++ drop i xs) i (place (get_or xs i d)) ≡ map place (take (suc i) xs) ++ drop (suc i) xs
  write_more [] i d h = absurd (omega arith)
  write_more (x ∷ xs) zero d h = refl
  write_more (x ∷ xs) (suc i) d h = ap (λ (ys : List A). place x ∷ ys) (write_more xs i d (omega arith))

  pub write_at : (xs : List A) (i : ℕ) (d : A) → i < length xs → set (map place (take i xs) ++ drop i xs) i (place (get_or xs i d)) ≡ map place (take (i + 1) xs) ++ drop (i + 1) xs
  write_at xs i d h = rw add-one (write_more xs i d h)

  all_more : (xs : List A) (i : ℕ) (d : A) → i < length xs → list_all test (take i xs) ≡ true → test (get_or xs i d) ≡ true → list_all test (take (suc i) xs) ≡ true
  all_more [] i d h before here = absurd (omega arith)
  all_more (x ∷ xs) zero d h before here = ap (λ (b : Bool). b && true) here
  all_more (x ∷ xs) (suc i) d h before here =
      elim (test x) as (λ b. (b && list_all test (take i xs)) ≡ true → (b && list_all test (take (suc i) xs)) ≡ true) [
        | true ↦ λ rest. all_more xs i d (omega arith) rest here
        | false ↦ λ no. no
      ] before

  pub all_at : (xs : List A) (i : ℕ) (d : A) → i < length xs → list_all test (take i xs) ≡ true → test (get_or xs i d) ≡ true → list_all test (take (i + 1) xs) ≡ true
  all_at xs i d h before here = rw add-one (all_more xs i d h before here)

  pub not_all : (xs : List A) (i : ℕ) (d : A) → i < length xs → test (get_or xs i d) ≡ false → list_all test xs ≡ false
  not_all [] i d h here = absurd (omega arith)
  not_all (x ∷ xs) zero d h here = ap (λ (b : Bool). b && list_all test xs) here
  not_all (x ∷ xs) (suc i) d h here =
      elim (test x) as (λ b. (b && list_all test xs) ≡ false) [
        | true ↦ not_all xs i d (omega arith) here
        | false ↦ refl
      ]

  pub all_placed : (xs : List A) (i : ℕ) → length xs ≤ i → map place (take i xs) ++ drop i xs ≡ map place xs
  all_placed [] zero h = refl
  all_placed [] (suc i) h = refl
  all_placed (x ∷ xs) zero h = absurd (omega arith)
  all_placed (x ∷ xs) (suc i) h = ap (λ (ys : List A). place x ∷ ys) (all_placed xs i (omega arith))

  pub all_taken : (xs : List A) (i : ℕ) → length xs ≤ i → list_all test (take i xs) ≡ true → list_all test xs ≡ true
  all_taken [] i h all = refl
  all_taken (x ∷ xs) zero h all = absurd (omega arith)
  all_taken (x ∷ xs) (suc i) h all =
      elim (test x) as (λ b. (b && list_all test (take i xs)) ≡ true → (b && list_all test xs) ≡ true) [
        | true ↦ λ rest. all_taken xs i (omega arith) rest
        | false ↦ λ no. no
      ] all

-- One place.

of_test : (b : Bool) (q p : Pt) (n : ℕ) → Ok q ≡ (if b then Ok p else Err (OutOfRange n)) → (b ≡ true) × (q ≡ p)
of_test true q p n h = (refl, cc)
of_test false q p n h = absurd cc

of_refusal : (b : Bool) (e : FrameFault) (p : Pt) (n : ℕ) → Err e ≡ (if b then Ok p else Err (OutOfRange n)) → (b ≡ false) × (OutOfRange n ≡ e)
of_refusal true e p n h = absurd cc
of_refusal false e p n h = (refl, cc)

put_ok : (s : Site) (p q : Pt) → Ok q ≡ put_at s p → (lands_in_range s.frame p ≡ true) × (q ≡ put s.frame p)
unfolding put_at
put_ok s p q h = of_test (lands_in_range s.frame p) q (put s.frame p) s.placement h

put_err : (s : Site) (p : Pt) (e : FrameFault) → Err e ≡ put_at s p → (lands_in_range s.frame p ≡ false) × (OutOfRange s.placement ≡ e)
unfolding put_at
put_err s p e h = of_refusal (lands_in_range s.frame p) e (put s.frame p) s.placement h

by_true : (b : Bool) (ps : List Pt) (n : ℕ) → b ≡ true → Ok ps ≡ (let r : Result (List Pt) FrameFault = if b then Ok ps else Err (OutOfRange n) in r)
by_true true ps n h = refl
by_true false ps n h = absurd cc

by_false : (b : Bool) (ps : List Pt) (n : ℕ) → b ≡ false → Err (OutOfRange n) ≡ (let r : Result (List Pt) FrameFault = if b then Ok ps else Err (OutOfRange n) in r)
by_false true ps n h = absurd cc
by_false false ps n h = refl

module _ (s : Site) (ps : List Pt) (i : ℕ) (qs : List Pt) (at : qs ≡ map (put s.frame) (take i ps) ++ drop i ps) where
  here : (p : Pt) → i < length ps → p ≡ get_or qs i p → p ≡ get_or ps i p
  here p h is = is ∙ (ap (λ (xs : List Pt). get_or xs i p) at ∙ read_at (put s.frame) (lands_in_range s.frame) ps i p h)

  pub put_stops : (p : Pt) (e : FrameFault) → i < length ps → p ≡ get_or qs i p → Err e ≡ put_at s p → Err e ≡ points_at s ps
  unfolding points_at
  put_stops p e h is told =
      let refused = put_err s p e told in
      let out : lands_in_range s.frame (get_or ps i p) ≡ false = ap (lands_in_range s.frame) (sym (here p h is)) ∙ refused.0 in
      sym (ap Err refused.1) ∙ by_false (list_all (lands_in_range s.frame) ps) (map (put s.frame) ps) s.placement (not_all (put s.frame) (lands_in_range s.frame) ps i p h out)

  pub put_goes : (p q : Pt) → i < length ps → p ≡ get_or qs i p → list_all (lands_in_range s.frame) (take i ps) ≡ true → Ok q ≡ put_at s p → (set qs i q ≡ map (put s.frame) (take (i + 1) ps) ++ drop (i + 1) ps) × (list_all (lands_in_range s.frame) (take (i + 1) ps) ≡ true)
  put_goes p q h is before told =
      let done = put_ok s p q told in
      let same = here p h is in (
        ap (λ (x : Pt). set qs i x) done.1 ∙ (ap (λ (x : Pt). set qs i (put s.frame x)) same ∙ (ap (λ (xs : List Pt). set xs i (put s.frame (get_or ps i p))) at ∙ write_at (put s.frame) (lands_in_range s.frame) ps i p h)),
        all_at (put s.frame) (lands_in_range s.frame) ps i p h before (ap (lands_in_range s.frame) (sym same) ∙ done.0),
      )

  pub put_ends : length ps ≤ i → list_all (lands_in_range s.frame) (take i ps) ≡ true → Ok qs ≡ points_at s ps
  unfolding points_at
  put_ends h before =
      ap Ok (at ∙ all_placed (put s.frame) (lands_in_range s.frame) ps i h)
      ∙ by_true (list_all (lands_in_range s.frame) ps) (map (put s.frame) ps) s.placement (all_taken (put s.frame) (lands_in_range s.frame) ps i h before)
