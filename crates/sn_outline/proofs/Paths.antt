-- Paths, edge by edge: what holds of some edge, and how a loop over the points goes along the edges.
use Rattle.std.proofs.Common.{◌≡◌, ◌⊎◌, inl, inr, ℕ, zero, suc, ◌+◌, ◌-◌, Some, slice_get, ◌<◌, ◌≤◌, List, [], ◌∷◌, ◌++◌, length, get_or, drop, refl, sym, ap, subst, arith, add-one, drop-cons}
use Rattle.std.proofs.lemmas.List.{drop_all}
use Rattle.std.specs.List.{Any}
use Rattle.sn_geom.specs.declared.units.Pt.{Pt}
use Rattle.sn_geom.specs.declared.units.Seg.{Seg}
use Rattle.sn_geom.specs.Sweep.{Near}
use Rattle.sn_outline.specs.Outline.{NearTrail}
use Rattle.sn_outline.specs.Polygon.{path, end_of, edges}

-- ---- some element of a list
pub any_here : {X : Type 0} (P : X → Type 0) (x : X) (xs : List X) → P x → Any P (x ∷ xs)
any_here P x xs h = (0, x, omega arith, refl, h)

pub any_there : {X : Type 0} (P : X → Type 0) (x : X) (xs : List X) → Any P xs → Any P (x ∷ xs)
any_there P x xs (k, y, within, e, h) = (suc k, y, omega arith, e, h)

pub any_cases : {X : Type 0} (P : X → Type 0) (x : X) (xs : List X) → Any P (x ∷ xs) → P x ⊎ Any P xs
any_cases P x xs (zero, y, within, e, h) = inl (subst P (sym e) h)
any_cases P x xs (suc k, y, within, e, h) = inr (k, y, omega arith, e, h)

pub any_none : {X : Type 0} (P : X → Type 0) → Any P [] → ⊥
any_none P (k, y, within, e, h) = omega arith

-- ---- the edges that a loop has before it
pub path_step : (from to : Pt) (points : List Pt) (i : ℕ) → i < length points → to ≡ get_or points i to →
    path from (drop i points) ≡ (record { a = from; b = to }) ∷ path to (drop (i + 1) points)
path_step from to points i h e = rw (add-one, drop-cons points i to h, ← e) refl

pub path_end : (from : Pt) (points : List Pt) (i : ℕ) → length points ≤ i → path from (drop i points) ≡ []
path_end from points i h = rw (drop_all i points h) refl

-- the last point is where the first edge begins
end_is : (p : Pt) (rest : List Pt) (last : Pt) → slice_get (p ∷ rest) (length rest) ≡ Some last → end_of p rest ≡ last
end_is p [] last e = cc
end_is p (q ∷ rest) last e = end_is q rest last e

pub edges_from_last : (points : List Pt) (last : Pt) → slice_get points (length points - 1) ≡ Some last → edges points ≡ path last points
edges_from_last [] last e = refl
edges_from_last (p ∷ rest) last e =
    let before : suc (length rest) - 1 ≡ length rest = omega arith in
    ap (λ q. path q (p ∷ rest)) (end_is p rest last (rw before at e))

-- the edges that a loop passed by have none for which P holds: it holds of some edge exactly where it does of one of the rest
pub record IsPassed (P : Seg → Type 0) (all rest : List Seg) : Type 0 where
  pub to_rest : Any P all → Any P rest
  pub to_all : Any P rest → Any P all

pub none_passed : (P : Seg → Type 0) (all : List Seg) → IsPassed P all all
none_passed P all = record { to_rest = λ h. h; to_all = λ h. h }

pub pass_one : (P : Seg → Type 0) (all : List Seg) (from to : Pt) (points : List Pt) (i : ℕ) → i < length points → to ≡ get_or points i to →
    ¬ P (record { a = from; b = to }) → IsPassed P all (path from (drop i points)) → IsPassed P all (path to (drop (i + 1) points))
pass_one P all from to points i h e not_here passed =
    let edge : Seg = record { a = from; b = to } in
    let later_edges = path to (drop (i + 1) points) in
    let step = path_step from to points i h e in
    record {
      to_rest = λ some. elim (any_cases P edge later_edges (subst (λ es. Any P es) step (passed.to_rest some))) [ inl here ↦ absurd (not_here here) | inr later ↦ later ];
      to_all = λ later. passed.to_all (subst (λ es. Any P es) (sym step) (any_there P edge later_edges later));
    }

pub found_one : (P : Seg → Type 0) (all : List Seg) (from to : Pt) (points : List Pt) (i : ℕ) → i < length points → to ≡ get_or points i to →
    P (record { a = from; b = to }) → IsPassed P all (path from (drop i points)) → Any P all
found_one P all from to points i h e here passed =
    passed.to_all (subst (λ es. Any P es) (sym (path_step from to points i h e)) (any_here P (record { a = from; b = to }) (path to (drop (i + 1) points)) here))

pub passed_all : (P : Seg → Type 0) (all : List Seg) (from : Pt) (points : List Pt) (i : ℕ) → length points ≤ i →
    IsPassed P all (path from (drop i points)) → ¬ Any P all
passed_all P all from points i h passed = λ some. any_none P (subst (λ es. Any P es) (path_end from points i h) (passed.to_rest some))

-- ---- a trail's segments
abbrev pub segments : List Pt → List Seg
segments [] = []
segments (p ∷ rest) = path p rest

abbrev pub IsNear : ℕ → Pt → Seg → Type 0
IsNear d p e = Near d e.a e.b p

segments_there : (P : Seg → Type 0) (x a b : Pt) (before after : List Pt) →
    Any P (segments (before ++ a ∷ b ∷ after)) → Any P (segments (x ∷ (before ++ a ∷ b ∷ after)))
segments_there P x a b [] after h = any_there P (record { a = x; b = a }) (path a (b ∷ after)) h
segments_there P x a b (y ∷ before) after h = any_there P (record { a = x; b = y }) (path y (before ++ a ∷ b ∷ after)) h

segments_have : (P : Seg → Type 0) (a b : Pt) (before after : List Pt) → P (record { a = a; b = b }) → Any P (segments (before ++ a ∷ b ∷ after))
segments_have P a b [] after h = any_here P (record { a = a; b = b }) (path b after) h
segments_have P a b (x ∷ before) after h = segments_there P x a b before after (segments_have P a b before after h)

pub near_segments : (points : List Pt) (d : ℕ) (p : Pt) → NearTrail points d p → Any (IsNear d p) (segments points)
near_segments points d p (before, a, b, after, e, near) =
    subst (λ ps. Any (IsNear d p) (segments ps)) (sym e) (segments_have (IsNear d p) a b before after near)

pub near_of_segments : (points : List Pt) (d : ℕ) (p : Pt) → Any (IsNear d p) (segments points) → NearTrail points d p
near_of_segments [] d p h = absurd (any_none (IsNear d p) h)
near_of_segments (a ∷ []) d p h = absurd (any_none (IsNear d p) h)
near_of_segments (a ∷ b ∷ rest) d p h =
    elim (any_cases (IsNear d p) (record { a = a; b = b }) (path b rest) h) [
      | inl near ↦ ([], a, b, rest, refl, near)
      | inr later ↦ let (before, e, f, after, is, near) = near_of_segments (b ∷ rest) d p later in (a ∷ before, e, f, after, ap (λ ps. a ∷ ps) is, near)
    ]
