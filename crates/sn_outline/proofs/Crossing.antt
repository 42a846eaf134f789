-- How edges cross heights and rays.
use Rattle.std.proofs.Common.{◌≡◌, inl, inr, ℕ, ◌%◌, ◌<◌, ◌≤◌, Bool, true, false, not, cond, ◌&&◌, ◌||◌, ℤ, pos, ◌-ℤ◌, ◌≤ℤ◌, ◌<ℤ◌, int_le, int_lt, unsigned_abs, List, [], ◌∷◌, refl, sym, ap, ◌∙◌, arith}
use Rattle.std.proofs.lemmas.Int.{ints}
use Rattle.std.proofs.lemmas.Bool.{and_parts, or_cases, both_ways}
use Rattle.std.specs.List.{count_by}
use Rattle.sn_geom.specs.declared.units.Pt.{Pt}
use Rattle.sn_geom.specs.declared.units.Seg.{Seg}
use Rattle.sn_geom.specs.Sweep.{Near, offset_at, square}
use Rattle.sn_geom.proofs.Ring.{sums, expand}
use Rattle.sn_geom.proofs.Nearness.{near_either_way}
use Rattle.sn_outline.specs.Polygon.{path, end_of, edges, rises, falls, crosses, beside, crosses_right, crossings, IsOnBorder}
use Rattle.sn_outline.specs.PolygonLaws.{crosses_left}
use Rattle.sn_outline.proofs.IntTests.{lt-le, le_true, lt_true, false_lt}
use Rattle.sn_outline.proofs.Parity.{differs, is_odd, parity, differs-middle, differs_same, differs_parts, same_from_differs}
use Rattle.sn_outline.proofs.Paths.{IsNear, any_here, any_there}

-- ---- heights
crosses_by_ends : (a b : Bool) → (a && not b || not a && b) ≡ differs a b
crosses_by_ends true true = refl
crosses_by_ends true false = refl
crosses_by_ends false true = refl
crosses_by_ends false false = refl

-- an edge crosses a height exactly where one of its ends is at most that high and the other is not
pub crosses-differs : (y : ℤ) (e : Seg) → crosses y e ≡ differs (int_le e.a.y y) (int_le e.b.y y)
crosses-differs y e =
    rw (lt-le y e.b.y, lt-le y e.a.y) (crosses_by_ends (int_le e.a.y y) (int_le e.b.y y))

pub odd_along : (y : ℤ) (p : Pt) (rest : List Pt) → is_odd (crosses y) (path p rest) ≡ differs (int_le p.y y) (int_le (end_of p rest).y y)
odd_along y p [] = sym (differs_same (int_le p.y y))
odd_along y p (q ∷ rest) =
    ap (λ b. differs b (is_odd (crosses y) (path q rest))) (crosses-differs y (record { a = p; b = q })) ∙
    ap (differs (differs (int_le p.y y) (int_le q.y y))) (odd_along y q rest) ∙
    differs-middle (int_le p.y y) (int_le q.y y) (int_le (end_of q rest).y y)

pub even_around : (y : ℤ) (points : List Pt) → is_odd (crosses y) (edges points) ≡ false
even_around y [] = refl
even_around y (p ∷ rest) = odd_along y (end_of p rest) (p ∷ rest) ∙ differs_same (int_le (end_of p rest).y y)

pub each_height_evenly : (points : List Pt) (y : ℤ) → count_by (crosses y) (edges points) % 2 ≡ 0
each_height_evenly points y = parity (crosses y) (edges points) ∙ ap (λ b. cond b 1 0) (even_around y points)

-- ---- on the line of an edge that crosses the height of p is its own point at that height
pub offset_zero : (z : ℤ) → z ≡ pos 0 → square z ≡ 0
offset_zero z e = rw e refl

near_at_height : (n m : ℕ) (a b p : Pt) → 0 < m → n ≤ m → pos n ≡ p.y -ℤ a.y → pos m ≡ b.y -ℤ a.y →
    beside p (record { a = a; b = b }) ≡ pos 0 → Near 0 a b p
near_at_height n m a b p some within n_is m_is on =
    let x : offset_at n m a.x b.x p.x ≡ pos 0 =
    rw (n_is, m_is) (let line = simp expand at on in simp expand (omega (arith, sums))) in
    let y : offset_at n m a.y b.y p.y ≡ pos 0 = rw (n_is, m_is) (simp expand (omega (arith, sums))) in
    (n, m, record { fraction = record { some_parts = some; within = within }; close = omega (arith, offset_zero _ x, offset_zero _ y) })

pub rising_on_line : (a b p : Pt) → a.y ≤ℤ p.y → p.y <ℤ b.y → beside p (record { a = a; b = b }) ≡ pos 0 → Near 0 a b p
rising_on_line a b p from to on =
    let n = unsigned_abs (p.y -ℤ a.y) in
    let m = unsigned_abs (b.y -ℤ a.y) in
    let n_is : pos n ≡ p.y -ℤ a.y = omega (arith, ints) in
    let m_is : pos m ≡ b.y -ℤ a.y = omega (arith, ints) in
    near_at_height n m a b p (omega (arith, ints)) (omega (arith, ints)) n_is m_is on

pub beside-turned : (p a b : Pt) → beside p (record { a = b; b = a }) ≡ pos 0 -ℤ beside p (record { a = a; b = b })
beside-turned p a b = simp expand (omega (arith, sums))

pub crossing_on_line : (p : Pt) (e : Seg) → crosses p.y e ≡ true → beside p e ≡ pos 0 → Near 0 e.a e.b p
crossing_on_line p e crosses_height on =
    elim (or_cases (rises p.y e) (falls p.y e) crosses_height) [
      | inl up ↦
          let parts = and_parts (int_le e.a.y p.y) (int_lt p.y e.b.y) up in
          rising_on_line e.a e.b p (le_true _ _ parts.0) (lt_true _ _ parts.1) on
      | inr down ↦
          let parts = and_parts (int_lt p.y e.a.y) (int_le e.b.y p.y) down in
          let turned : beside p (record { a = e.b; b = e.a }) ≡ pos 0 = beside-turned p e.a e.b ∙ ap (λ z. pos 0 -ℤ z) on in
          (near_either_way 0 e.b e.a p).0 (rising_on_line e.b e.a p (le_true _ _ parts.1) (lt_true _ _ parts.0) turned)
    ]

-- ---- rays to both sides
sides : (up down left right : Bool) → (up ≡ true → down ≡ false) → ((up || down) ≡ true → right ≡ not left) →
    differs (up && left || down && right) (up && right || down && left) ≡ (up || down)
sides true true left right apart h = absurd (both_ways true (apart refl) refl)
sides true false true right apart h = ap (λ r. differs (true || false) (r || false)) (h refl)
sides true false false right apart h = ap (λ r. differs (false || false) (r || false)) (h refl)
sides false true true right apart h = ap (λ r. differs r true) (h refl)
sides false true false right apart h = ap (λ r. differs r false) (h refl)
sides false false left right apart h = refl

not_both : (y : ℤ) (e : Seg) → rises y e ≡ true → falls y e ≡ false
not_both y e up =
    let parts = and_parts (int_le e.a.y y) (int_lt y e.b.y) up in
    let low : int_lt y e.a.y ≡ false = false_lt y e.a.y (le_true _ _ parts.0) in
    ap (λ b. b && int_le e.b.y y) low

other_side : (z : ℤ) → (z ≡ pos 0 → ⊥) → int_lt z (pos 0) ≡ not (int_lt (pos 0) z)
other_side z off = grind (arith, ints)

-- off the edge a crossing lies on one side or the other
pub crosses_one_side : (p : Pt) (e : Seg) → (Near 0 e.a e.b p → ⊥) → differs (crosses_right p e) (crosses_left p e) ≡ crosses p.y e
crosses_one_side p e off =
    sides (rises p.y e) (falls p.y e) (int_lt (pos 0) (beside p e)) (int_lt (beside p e) (pos 0)) (not_both p.y e)
    (λ crosses_height. other_side (beside p e) (λ on. off (crossing_on_line p e crosses_height on)))

both_sides : (p : Pt) (es : List Seg) → (IsOnBorder p es → ⊥) →
    differs (is_odd (crosses_right p) es) (is_odd (crosses_left p) es) ≡ is_odd (crosses p.y) es
both_sides p [] off = refl
both_sides p (e ∷ es) off =
    differs_parts (crosses_right p e) (is_odd (crosses_right p) es) (crosses_left p e) (is_odd (crosses_left p) es) ∙
    ap (λ b. differs b (differs (is_odd (crosses_right p) es) (is_odd (crosses_left p) es)))
    (crosses_one_side p e (λ near. off (any_here (IsNear 0 p) e es near))) ∙
    ap (differs (crosses p.y e)) (both_sides p es (λ some. off (any_there (IsNear 0 p) e es some)))

pub left_ray_tells_the_same : (points : List Pt) (p : Pt) → (IsOnBorder p (edges points) → ⊥) →
    crossings p (edges points) % 2 ≡ count_by (crosses_left p) (edges points) % 2
left_ray_tells_the_same points p off =
    let es = edges points in
    let same = same_from_differs (is_odd (crosses_right p) es) (is_odd (crosses_left p) es) (both_sides p es off ∙ even_around p.y points) in
    parity (crosses_right p) es ∙ ap (λ b. cond b 1 0) same ∙ sym (parity (crosses_left p) es)
