-- Rows of polygons and trails, from what was marked and turned.
use Rattle.std.proofs.Common.{◌≡◌, ◌↔◌, ◌⊎◌, inl, inr, ℕ, suc, ◌+◌, ◌-◌, ◌%◌, Some, None, slice_get, ℤ, Bool, true, false, cond, IsTrue, List, [], ◌∷◌, ◌++◌, length, ⊎_elim, refl, sym, ap, ◌∙◌, subst, arith}
use Rattle.std.proofs.lemmas.Bool.{false≢true}
use Rattle.std.proofs.lemmas.List.Sums.{sum_by-cons}
use Rattle.std.specs.List.{Any, count_by}
use Rattle.sn_geom.specs.declared.units.Pt.{Pt}
use Rattle.sn_geom.specs.declared.units.Seg.{Seg}
use Rattle.sn_geom.specs.Sweep.{Near}
use Rattle.sn_outline.specs.Outline.{NearTrail}
use Rattle.sn_outline.specs.OutlineLaws.{TrailIsItsSegments}
use Rattle.sn_outline.specs.Polygon.{path, end_of, edges, crosses_right, crossings, InPolygon}
use Rattle.sn_raster.specs.Grid.{Grid, Node, IsInWindow, place}
use Rattle.sn_raster.specs.Plane.{Plane, Has}
use Rattle.sn_raster.specs.RowTurns.{at, bit, differs, is_odd, is_crossed}
use Rattle.sn_raster.proofs.Marks.{in_own_window}
use Rattle.sn_raster.proofs.SegmentRows.{any_none, any_cases}
use Rattle.sn_raster.proofs.Sides.{odd_within}
use Rattle.sn_raster.proofs.RowBits.{bit_of_has}

-- ---- polygons
abbrev pub IsNearAny : ℕ → Pt → List Seg → Type 0
IsNearAny d p es = Any (λ (e : Seg). Near d e.a e.b p) es

end_is : (p : Pt) (rest : List Pt) (last : Pt) → slice_get (p ∷ rest) (length rest) ≡ Some last → end_of p rest ≡ last
end_is p [] last e = cc
end_is p (q ∷ rest) last e = end_is q rest last e

-- the edges of a polygon are the path from its last point through all
pub edges_from_last : (points : List Pt) (last : Pt) → slice_get points (length points - 1) ≡ Some last → edges points ≡ path last points
edges_from_last [] last e = refl
edges_from_last (p ∷ rest) last e =
    let before : suc (length rest) - 1 ≡ length rest = omega arith in
    ap (λ q. path q (p ∷ rest)) (end_is p rest last (rw before at e))

some_last : (p : Pt) (rest : List Pt) → slice_get (p ∷ rest) (length rest) ≡ None → ⊥
some_last p [] e = cc
some_last p (q ∷ rest) e = some_last q rest e

-- without points nothing is in the polygon
pub no_polygon : (points : List Pt) (p : Pt) → slice_get points (length points - 1) ≡ None → ¬ InPolygon points p
no_polygon [] p e inside = ⊎_elim (λ some. any_none _ some) (λ (odd : crossings p (edges []) % 2 ≡ 1). omega (arith, odd)) inside
no_polygon (q ∷ rest) p e inside =
    let before : suc (length rest) - 1 ≡ length rest = omega arith in
    some_last q rest (rw before at e)

count-cons : (f : Seg → Bool) (e : Seg) (es : List Seg) → count_by f (e ∷ es) ≡ cond (f e) 1 0 + count_by f es
count-cons f e es = sum_by-cons (λ y. cond (f y) 1 0) e es

parity_step : (b odd : Bool) (n m : ℕ) → m ≡ cond b 1 0 + n → n % 2 ≡ cond odd 1 0 → m % 2 ≡ cond (differs b odd) 1 0
parity_step true true n m e h = omega arith
parity_step true false n m e h = omega arith
parity_step false true n m e h = omega arith
parity_step false false n m e h = omega arith

parity : (f : Seg → Bool) (es : List Seg) → count_by f es % 2 ≡ cond (is_odd f es) 1 0
parity f [] = refl
parity f (e ∷ es) = parity_step (f e) (is_odd f es) (count_by f es) _ (count-cons f e es) (parity f es)

odd_iff : (b : Bool) (n : ℕ) → n % 2 ≡ cond b 1 0 → IsTrue b ↔ (n % 2 ≡ 1)
odd_iff true n e = ((λ h. e), (λ h. refl))
odd_iff false n e = ((λ h. absurd (false≢true h)), (λ h. absurd (omega (arith, e, h))))

pub in_polygon_iff : {A : Type 0} (points : List Pt) (last p : Pt) → edges points ≡ path last points → A ↔ (IsNearAny 0 p (path last points) ⊎ IsTrue (is_odd (crosses_right p) (path last points))) → A ↔ InPolygon points p
in_polygon_iff {A} points last p e iff =
    let N : List Seg → Type 0 = λ es. IsNearAny 0 p es in
    let O : List Seg → Type 0 = λ es. crossings p es % 2 ≡ 1 in
    let odd = odd_iff (is_odd (crosses_right p) (path last points)) (crossings p (path last points)) (parity (crosses_right p) (path last points)) in (
      λ a. ⊎_elim (λ near. inl (subst N (sym e) near)) (λ h. inr (subst O (sym e) (odd.0 h))) (iff.0 a),
      λ inside. iff.1 (⊎_elim (λ near. inl (subst N e near)) (λ h. inr (odd.1 (subst O e h))) inside),
    )

-- a plane that has not the node has a bit that is not set
pub not_set : (plane : Plane) (g : Grid) (n : Node) → plane.grid ≡ g → IsInWindow g n → ¬ Has plane n → bit plane n ≡ false
not_set plane g n same window none = bit_of_has plane n n false refl (in_own_window plane.grid g n same window) ((λ has. absurd (none has)), (λ h. absurd (false≢true h)))

-- the row of a polygon, from its run and its marks
pub around : (g : Grid) (run new : Plane) (i j : ℤ) (es : List Seg) → run.grid ≡ g → IsInWindow g (at i j) → bit run (at i j) ≡ is_odd (λ e. is_crossed g j e i) es
    → (Has new (at i j) ↔ (Has run (at i j) ⊎ IsNearAny 0 (place g.pitch (at i j)) es))
    → Has new (at i j) ↔ (IsNearAny 0 (place g.pitch (at i j)) es ⊎ IsTrue (is_odd (crosses_right (place g.pitch (at i j))) es))
around g run new i j es same window bit_is marked =
    let odd = bit_is ∙ odd_within g j i es window.right in (
      λ has. ⊎_elim (λ there. inr (subst IsTrue odd there.marked)) (λ near. inl near) (marked.0 has),
      λ either. marked.1 (⊎_elim (λ near. inr near) (λ h. inl (record { in_window = in_own_window run.grid g (at i j) same window; marked = subst IsTrue (sym odd) h })) either),
    )

-- ---- trails
pub trail_path : TrailIsItsSegments → (w : ℕ) (a : Pt) (rest : List Pt) (p : Pt) → NearTrail (a ∷ rest) w p ↔ IsNearAny w p (path a rest)
trail_path law w a [] p = ((λ near. absurd ((law w a a p []).1 near)), (λ some. absurd (any_none _ some)))
trail_path law w a (b ∷ rest) p =
    let first = (law w a b p rest).0 in
    let later = trail_path law w b rest p in
    let cases = any_cases (λ (e : Seg). Near w e.a e.b p) (record { a = a; b = b }) (path b rest) in (
      λ near. cases.1 (⊎_elim (λ here. inl here) (λ there. inr (later.0 there)) (first.0 near)),
      λ some. first.1 (⊎_elim (λ here. inl here) (λ there. inr (later.1 there)) (cases.0 some)),
    )

no_front : (before : List Pt) (a b : Pt) (after : List Pt) → [] ≡ before ++ a ∷ b ∷ after → ⊥
no_front [] a b after e = cc
no_front (x ∷ before) a b after e = cc

pub no_trail : (w : ℕ) (p : Pt) → ¬ NearTrail [] w p
no_trail w p (before, a, b, after, e, near) = no_front before a b after e

pub no_trail_of : (points : List Pt) (w : ℕ) (p : Pt) → length points ≡ 0 → ¬ NearTrail points w p
no_trail_of [] w p e near = no_trail w p near
no_trail_of (x ∷ xs) w p e near = absurd (omega (arith, e))

pub trail_iff : {A B : Type 0} (points rest : List Pt) (a p : Pt) (w : ℕ) → TrailIsItsSegments → points ≡ a ∷ rest → ¬ A → B ↔ (A ⊎ IsNearAny w p (path a rest)) → B ↔ NearTrail points w p
trail_iff {A} points rest a p w law e none iff =
    let P : List Pt → Type 0 = λ ps. NearTrail ps w p in
    let there = trail_path law w a rest p in (
      λ b. subst P (sym e) (there.1 (⊎_elim (λ (a : A). absurd (none a)) (λ near. near) (iff.0 b))),
      λ near. iff.1 (inr (there.0 (subst P e near))),
    )
