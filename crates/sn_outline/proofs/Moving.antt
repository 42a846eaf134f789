-- Moving outlines and points together.
use Rattle.std.proofs.Common.{◌≡◌, ◌↔◌, inl, inr, ℕ, ◌+◌, ◌%◌, cond, ℤ, ◌+ℤ◌, ◌-ℤ◌, int_le, int_lt, List, [], ◌∷◌, map, refl, sym, ap, ◌∙◌, subst, arith}
use Rattle.std.proofs.lemmas.Int.{ints}
use Rattle.std.specs.List.{Any}
use Rattle.sn_geom.specs.declared.units.Pt.{Pt}
use Rattle.sn_geom.specs.declared.units.Seg.{Seg}
use Rattle.sn_geom.specs.Sweep.{Near, offset_at}
use Rattle.sn_geom.proofs.Ring.{sums}
use Rattle.sn_outline.specs.declared.outline.Shape.{Shape}
use Rattle.sn_outline.specs.declared.outline.Shape.TheVariants.{Rect, Circle, Polygon, Trail}
use Rattle.sn_outline.specs.Outline.{InShape}
use Rattle.sn_outline.specs.Polygon.{path, end_of, edges, beside, crosses_right, crossings}
use Rattle.sn_outline.specs.OutlineLaws.{moved, moved_shape, MovingTogetherChangesNothing}
use Rattle.sn_outline.proofs.Counting.{count-cons}
use Rattle.sn_outline.proofs.Paths.{IsNear, any_here, any_there, any_cases, any_none, segments, near_segments, near_of_segments}

difference : (a b v : ℤ) → (a +ℤ v) -ℤ (b +ℤ v) ≡ a -ℤ b
difference a b v = omega (arith, sums)

le_moved : (a b v : ℤ) → int_le (a +ℤ v) (b +ℤ v) ≡ int_le a b
le_moved a b v = grind (arith, ints)

lt_moved : (a b v : ℤ) → int_lt (a +ℤ v) (b +ℤ v) ≡ int_lt a b
lt_moved a b v = grind (arith, ints)

-- ---- edges
abbrev pub moved_edge : Pt → Seg → Seg
moved_edge v e = record { a = moved v e.a; b = moved v e.b }

module _ (v : Pt) where
  path-moved : (p : Pt) (rest : List Pt) → path (moved v p) (map (moved v) rest) ≡ map (moved_edge v) (path p rest)
  path-moved p [] = refl
  path-moved p (q ∷ rest) = ap (λ es. moved_edge v (record { a = p; b = q }) ∷ es) (path-moved q rest)

  end_of-moved : (p : Pt) (rest : List Pt) → end_of (moved v p) (map (moved v) rest) ≡ moved v (end_of p rest)
  end_of-moved p [] = refl
  end_of-moved p (q ∷ rest) = end_of-moved q rest

  edges-moved : (points : List Pt) → edges (map (moved v) points) ≡ map (moved_edge v) (edges points)
  edges-moved [] = refl
  edges-moved (p ∷ rest) =
      ap (λ q. path q (moved v p ∷ map (moved v) rest)) (end_of-moved p rest) ∙ path-moved (end_of p rest) (p ∷ rest)

  segments-moved : (points : List Pt) → segments (map (moved v) points) ≡ map (moved_edge v) (segments points)
  segments-moved [] = refl
  segments-moved (p ∷ rest) = path-moved p rest

  -- ---- nearness
  offset_at-moved : (n m : ℕ) (a b p w : ℤ) → offset_at n m (a +ℤ w) (b +ℤ w) (p +ℤ w) ≡ offset_at n m a b p
  offset_at-moved n m a b p w = rw (difference p a w, difference b a w) refl

  near_moved : (d : ℕ) (a b p : Pt) → Near d (moved v a) (moved v b) (moved v p) ↔ Near d a b p
  near_moved d a b p = (
    λ (n, m, h). (n, m, record { fraction = h.fraction; close = rw (offset_at-moved n m a.x b.x p.x v.x, offset_at-moved n m a.y b.y p.y v.y) at h.close }),
    λ (n, m, h). (n, m, record { fraction = h.fraction; close = rw (offset_at-moved n m a.x b.x p.x v.x, offset_at-moved n m a.y b.y p.y v.y) h.close }),
  )

  some_moved : (d : ℕ) (p : Pt) (es : List Seg) → Any (IsNear d (moved v p)) (map (moved_edge v) es) ↔ Any (IsNear d p) es
  some_moved d p [] = (λ some. absurd (any_none (IsNear d (moved v p)) some), λ some. absurd (any_none (IsNear d p) some))
  some_moved d p (e ∷ es) = (
    λ some. elim (any_cases (IsNear d (moved v p)) (moved_edge v e) (map (moved_edge v) es) some) [
      | inl here ↦ any_here (IsNear d p) e es ((near_moved d e.a e.b p).0 here)
      | inr later ↦ any_there (IsNear d p) e es ((some_moved d p es).0 later)
    ],
    λ some. elim (any_cases (IsNear d p) e es some) [
      | inl here ↦ any_here (IsNear d (moved v p)) (moved_edge v e) (map (moved_edge v) es) ((near_moved d e.a e.b p).1 here)
      | inr later ↦ any_there (IsNear d (moved v p)) (moved_edge v e) (map (moved_edge v) es) ((some_moved d p es).1 later)
    ],
  )

  -- ---- crossings
  beside-moved : (p : Pt) (e : Seg) → beside (moved v p) (moved_edge v e) ≡ beside p e
  beside-moved p e =
      rw (difference e.b.x e.a.x v.x, difference p.y e.a.y v.y, difference e.b.y e.a.y v.y, difference p.x e.a.x v.x) refl

  crosses_right-moved : (p : Pt) (e : Seg) → crosses_right (moved v p) (moved_edge v e) ≡ crosses_right p e
  crosses_right-moved p e =
      rw (le_moved e.a.y p.y v.y, lt_moved p.y e.b.y v.y, lt_moved p.y e.a.y v.y, le_moved e.b.y p.y v.y, beside-moved p e) refl

  crossings-moved : (p : Pt) (es : List Seg) → crossings (moved v p) (map (moved_edge v) es) ≡ crossings p es
  crossings-moved p [] = refl
  crossings-moved p (e ∷ es) =
      count-cons (crosses_right (moved v p)) (moved_edge v e) (map (moved_edge v) es) ∙
      ap (λ b. cond b 1 0 + crossings (moved v p) (map (moved_edge v) es)) (crosses_right-moved p e) ∙
      ap (λ n. cond (crosses_right p e) 1 0 + n) (crossings-moved p es) ∙
      sym (count-cons (crosses_right p) e es)

  -- ---- shapes
  moved_together : (shape : Shape) (p : Pt) → InShape (moved_shape v shape) (moved v p) ↔ InShape shape p
  moved_together (Rect low high) p = (
    λ h. record {
      left = let fact = h.left in omega (arith, sums);
      right = let fact = h.right in omega (arith, sums);
      front = let fact = h.front in omega (arith, sums);
      back = let fact = h.back in omega (arith, sums);
    },
    λ h. record {
      left = let fact = h.left in omega (arith, sums);
      right = let fact = h.right in omega (arith, sums);
      front = let fact = h.front in omega (arith, sums);
      back = let fact = h.back in omega (arith, sums);
    },
  )
  moved_together (Circle centre d) p = (
    λ h. record { close = rw (difference p.x centre.x v.x, difference p.y centre.y v.y) at h.close },
    λ h. record { close = rw (difference p.x centre.x v.x, difference p.y centre.y v.y) h.close },
  )
  moved_together (Polygon points) p =
      let some = subst (λ es. Any (IsNear 0 (moved v p)) es ↔ Any (IsNear 0 p) (edges points)) (sym (edges-moved points)) (some_moved 0 p (edges points)) in
      let same = ap (crossings (moved v p)) (edges-moved points) ∙ crossings-moved p (edges points) in (
        λ inside. elim inside [ inl on ↦ inl (some.0 on) | inr odd ↦ inr (ap (λ n. n % 2) (sym same) ∙ odd) ],
        λ inside. elim inside [ inl on ↦ inl (some.1 on) | inr odd ↦ inr (ap (λ n. n % 2) same ∙ odd) ],
      )
  moved_together (Trail points width) p =
      let some = subst (λ es. Any (IsNear width (moved v p)) es ↔ Any (IsNear width p) (segments points)) (sym (segments-moved points)) (some_moved width p (segments points)) in (
        λ near. near_of_segments points width p (some.0 (near_segments (map (moved v) points) width (moved v p) near)),
        λ near. near_of_segments (map (moved v) points) width (moved v p) (some.1 (near_segments points width p near)),
      )

pub moving_together : MovingTogetherChangesNothing
moving_together outline v p = moved_together v outline.shape p
