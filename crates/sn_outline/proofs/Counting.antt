-- How often the edges of a polygon cross a ray, edge by edge.
use Rattle.std.proofs.Common.{◌≡◌, ℕ, ◌+◌, ◌<◌, ◌≤◌, Bool, true, false, cond, List, ◌∷◌, length, get_or, drop, ap, ◌∙◌, arith}
use Rattle.std.proofs.lemmas.List.Sums.{sum_by-cons}
use Rattle.std.specs.List.{count_by}
use Rattle.sn_geom.specs.declared.units.Pt.{Pt}
use Rattle.sn_geom.specs.declared.units.Seg.{Seg}
use Rattle.sn_outline.specs.Polygon.{path, crosses_right, crossings}
use Rattle.sn_outline.proofs.Paths.{path_step, path_end}

-- ---- counts
pub count-cons : {X : Type 0} (f : X → Bool) (x : X) (xs : List X) → count_by f (x ∷ xs) ≡ cond (f x) 1 0 + count_by f xs
count-cons f x xs = sum_by-cons (λ y. cond (f y) 1 0) x xs

-- the crossings that a loop has counted, with those of the edges that it has before it, are all
abbrev pub IsCounted : Pt → ℕ → List Seg → List Seg → Type 0
IsCounted p counted all rest = counted + crossings p rest ≡ crossings p all

pub none_counted : (p : Pt) (all : List Seg) → IsCounted p 0 all all
none_counted p all = omega arith

pub count_yes : (p : Pt) (counted next : ℕ) (all : List Seg) (from to : Pt) (points : List Pt) (i : ℕ) → i < length points → to ≡ get_or points i to →
    crosses_right p (record { a = from; b = to }) ≡ true → next ≡ counted + 1 →
    IsCounted p counted all (path from (drop i points)) → IsCounted p next all (path to (drop (i + 1) points))
count_yes p counted next all from to points i h e crosses next_is so_far =
    let edge : Seg = record { a = from; b = to } in
    let step = ap (crossings p) (path_step from to points i h e) ∙ count-cons (crosses_right p) edge (path to (drop (i + 1) points)) in
    let here = ap {B = ℕ} (λ b. cond b 1 0) crosses in
    omega (arith, step, here, so_far)

pub count_no : (p : Pt) (counted : ℕ) (all : List Seg) (from to : Pt) (points : List Pt) (i : ℕ) → i < length points → to ≡ get_or points i to →
    crosses_right p (record { a = from; b = to }) ≡ false →
    IsCounted p counted all (path from (drop i points)) → IsCounted p counted all (path to (drop (i + 1) points))
count_no p counted all from to points i h e misses so_far =
    let edge : Seg = record { a = from; b = to } in
    let step = ap (crossings p) (path_step from to points i h e) ∙ count-cons (crosses_right p) edge (path to (drop (i + 1) points)) in
    let here = ap {B = ℕ} (λ b. cond b 1 0) misses in
    omega (arith, step, here, so_far)

pub counted_all : (p : Pt) (counted : ℕ) (all : List Seg) (from : Pt) (points : List Pt) (i : ℕ) → length points ≤ i →
    IsCounted p counted all (path from (drop i points)) → counted ≡ crossings p all
counted_all p counted all from points i h so_far =
    let none = ap (crossings p) (path_end from points i h) in
    omega (arith, none, so_far)
