-- The polygon of the four corners of a rectangle.
use Rattle.std.proofs.Common.{◌≡◌, inl, inr, ℕ, zero, suc, ◌<◌, ◌≤◌, Bool, true, false, cond, ◌&&◌, ℤ, pos, negsuc, ◌-ℤ◌, ◌*ℤ◌, ◌≤ℤ◌, ◌<ℤ◌, int_le, int_lt, unsigned_abs, [], ◌∷◌, refl, sym, ap, ◌∙◌, arith}
use Rattle.std.proofs.lemmas.Int.{ints, by_lt_z}
use Rattle.std.proofs.lemmas.Bool.{cases_Bool, and_parts, or_cases, or_parts, both_ways}
use Rattle.std.specs.List.{Any}
use Rattle.sn_geom.specs.declared.units.Pt.{Pt}
use Rattle.sn_geom.specs.declared.units.Seg.{Seg}
use Rattle.sn_geom.specs.Sweep.{Near, IsNearAt, offset_at, square}
use Rattle.sn_geom.proofs.Ring.{sums, expand, product_positive, product_not_negative, le_of_product_le}
use Rattle.sn_geom.proofs.Nearness.{near_either_way}
use Rattle.sn_outline.specs.Outline.{InRectangle}
use Rattle.sn_outline.specs.Polygon.{rises, falls, crosses, beside, crosses_right, InPolygon}
use Rattle.sn_outline.specs.PolygonLaws.{corners, RectangleIsItsCorners}
use Rattle.sn_outline.proofs.IntTests.{le_true, lt_true, true_le, true_lt}
use Rattle.sn_outline.proofs.Parity.{differs, is_odd, parity, differs_same}
use Rattle.sn_outline.proofs.Paths.{IsNear, any_here, any_there, any_cases, any_none}
use Rattle.sn_outline.proofs.Crossing.{crosses-differs, rising_on_line, offset_zero}
use Rattle.sn_outline.proofs.Around.{crosses_right-turned}

-- ---- a point at no distance of a segment is between its ends
square-zero : (z : ℤ) → square z ≤ 0 → z ≡ pos 0
square-zero (pos zero) h = refl
square-zero (pos (suc n)) h = absurd (omega arith)
square-zero (negsuc n) h = absurd (omega arith)

between : (n m : ℕ) (a b p low : ℤ) → 0 < m → n ≤ m → pos m *ℤ (p -ℤ a) -ℤ pos n *ℤ (b -ℤ a) ≡ pos 0 → low ≤ℤ a → low ≤ℤ b → low ≤ℤ p
between n m a b p low some within at from_a from_b =
    let first = simp expand at (product_not_negative (pos m -ℤ pos n) (a -ℤ low) (omega (arith, sums)) (omega (arith, sums))) in
    let second = simp expand at (product_not_negative (pos n) (b -ℤ low) (omega (arith, sums)) (omega (arith, sums))) in
    let on = simp expand at at in
    le_of_product_le (pos m) low p (omega (arith, sums)) (simp expand (omega (arith, sums)))

below : (n m : ℕ) (a b p high : ℤ) → 0 < m → n ≤ m → pos m *ℤ (p -ℤ a) -ℤ pos n *ℤ (b -ℤ a) ≡ pos 0 → a ≤ℤ high → b ≤ℤ high → p ≤ℤ high
below n m a b p high some within at to_a to_b =
    let first = simp expand at (product_not_negative (pos m -ℤ pos n) (high -ℤ a) (omega (arith, sums)) (omega (arith, sums))) in
    let second = simp expand at (product_not_negative (pos n) (high -ℤ b) (omega (arith, sums)) (omega (arith, sums))) in
    let on = simp expand at at in
    le_of_product_le (pos m) p high (omega (arith, sums)) (simp expand (omega (arith, sums)))

on_edge : (low high a b p : Pt) → InRectangle low high a → InRectangle low high b → Near 0 a b p → InRectangle low high p
on_edge low high a b p in_a in_b (n, m, h) =
    let x = square-zero (offset_at n m a.x b.x p.x) (omega (arith, h.close)) in
    let y = square-zero (offset_at n m a.y b.y p.y) (omega (arith, h.close)) in
    let some = h.fraction.some_parts in
    let within = h.fraction.within in
    record {
      left = between n m a.x b.x p.x low.x some within x in_a.left in_b.left;
      right = below n m a.x b.x p.x high.x some within x in_a.right in_b.right;
      front = between n m a.y b.y p.y low.y some within y in_a.front in_b.front;
      back = below n m a.y b.y p.y high.y some within y in_a.back in_b.back;
    }

-- ---- level and vertical edges
level_never : (p : Pt) (e : Seg) → e.a.y ≡ e.b.y → crosses_right p e ≡ false
level_never p e level =
    let never : crosses p.y e ≡ false =
    crosses-differs p.y e ∙ ap (λ y. differs (int_le e.a.y p.y) (int_le y p.y)) (sym level) ∙ differs_same (int_le e.a.y p.y) in
    let parts = or_parts (rises p.y e) (falls p.y e) never in
    rw (parts.0, parts.1) refl

on_level : (a b p : Pt) → a.y ≡ p.y → b.y ≡ p.y → a.x ≤ℤ p.x → p.x ≤ℤ b.x → Near 0 a b p
on_level a b p a_level b_level from to =
    by_lt_z a.x b.x
    (λ long.
    let n = unsigned_abs (p.x -ℤ a.x) in
    let m = unsigned_abs (b.x -ℤ a.x) in
    let n_is : pos n ≡ p.x -ℤ a.x = omega (arith, ints) in
    let m_is : pos m ≡ b.x -ℤ a.x = omega (arith, ints) in
    let x : offset_at n m a.x b.x p.x ≡ pos 0 = rw (n_is, m_is) (simp expand (omega (arith, sums))) in
    let y : offset_at n m a.y b.y p.y ≡ pos 0 = rw (a_level, b_level) (simp expand (omega (arith, sums))) in
    let near : IsNearAt n m 0 a b p = record {
      fraction = record { some_parts = omega (arith, ints); within = omega (arith, ints) };
      close = omega (arith, offset_zero _ x, offset_zero _ y);
    } in
    (n, m, near))
    (λ short.
    let here : p.x ≡ a.x = omega (arith, sums) in
    let x : offset_at 0 1 a.x b.x p.x ≡ pos 0 = rw here (simp expand (omega (arith, sums))) in
    let y : offset_at 0 1 a.y b.y p.y ≡ pos 0 = rw (a_level, b_level) (simp expand (omega (arith, sums))) in
    let near : IsNearAt 0 1 0 a b p = record {
      fraction = record { some_parts = omega arith; within = omega arith };
      close = omega (arith, offset_zero _ x, offset_zero _ y);
    } in
    (0, 1, near))

vertical_side : (ax bx ay by px py : ℤ) → bx ≡ ax → (bx -ℤ ax) *ℤ (py -ℤ ay) -ℤ (by -ℤ ay) *ℤ (px -ℤ ax) ≡ (by -ℤ ay) *ℤ (ax -ℤ px)
vertical_side ax bx ay by px py vertical = rw vertical (simp expand (omega (arith, sums)))

module _ (p a b : Pt) (vertical : b.x ≡ a.x) (up : a.y ≤ℤ b.y) where
  abbrev e : Seg
  e = record { a = a; b = b }

  beside_is : beside p e ≡ (b.y -ℤ a.y) *ℤ (a.x -ℤ p.x)
  beside_is = vertical_side a.x b.x a.y b.y p.x p.y vertical

  never_falls : falls p.y e ≡ false
  never_falls =
      elim (cases_Bool (falls p.y e)) [
        | inl down ↦
            let ends = and_parts (int_lt p.y a.y) (int_le b.y p.y) down in
            let from = lt_true p.y a.y ends.0 in
            let to = le_true b.y p.y ends.1 in
            absurd (omega (arith, sums))
        | inr not_down ↦ not_down
      ]

  left_of_vertical : a.y ≤ℤ p.y → p.y <ℤ b.y → p.x <ℤ a.x → crosses_right p e ≡ true
  left_of_vertical from to left =
      let side : pos 0 <ℤ beside p e = rw beside_is (product_positive (b.y -ℤ a.y) (a.x -ℤ p.x) (omega (arith, sums)) (omega (arith, sums))) in
      rw (true_le _ _ from, true_lt _ _ to, true_lt _ _ side) refl

  pub vertical_crosses : crosses_right p e ≡ true → (a.y ≤ℤ p.y) × (p.y <ℤ b.y) × (p.x <ℤ a.x)
  vertical_crosses h =
      elim (or_cases (rises p.y e && int_lt (pos 0) (beside p e)) (falls p.y e && int_lt (beside p e) (pos 0)) h) [
        | inl rising ↦
            let both = and_parts (rises p.y e) (int_lt (pos 0) (beside p e)) rising in
            let ends = and_parts (int_le a.y p.y) (int_lt p.y b.y) both.0 in
            let side : pos 0 <ℤ ((b.y -ℤ a.y) *ℤ (a.x -ℤ p.x)) = rw beside_is at (lt_true (pos 0) (beside p e) both.1) in
            let left : p.x <ℤ a.x =
            by_lt_z p.x a.x (λ left. left)
            (λ right.
            let product = simp expand at (product_not_negative (b.y -ℤ a.y) (p.x -ℤ a.x) (omega (arith, sums)) (omega (arith, sums))) in
            let positive = simp expand at side in
            absurd (omega (arith, sums))) in
            (le_true a.y p.y ends.0, lt_true p.y b.y ends.1, left)
        | inr falling ↦ absurd (both_ways (falls p.y e) never_falls (and_parts (falls p.y e) (int_lt (beside p e) (pos 0)) falling).0)
      ]

-- ---- Bools
differs_false : (a b : Bool) → differs a (differs false (differs b (differs false false))) ≡ differs a b
differs_false true true = refl
differs_false true false = refl
differs_false false true = refl
differs_false false false = refl

one_is_true : (b : Bool) → cond {A = ℕ} b 1 0 ≡ 1 → b ≡ true
one_is_true true e = refl
one_is_true false e = absurd (omega arith)

-- ---- the four edges
module _ (low high p : Pt) (wide : low.x ≤ℤ high.x) (deep : low.y ≤ℤ high.y) where
  abbrev se : Pt
  se = record { x = high.x; y = low.y }

  abbrev nw : Pt
  nw = record { x = low.x; y = high.y }

  abbrev west : Seg
  west = record { a = nw; b = low }

  abbrev south : Seg
  south = record { a = low; b = se }

  abbrev east : Seg
  east = record { a = se; b = high }

  abbrev north : Seg
  north = record { a = high; b = nw }

  abbrev f : Seg → Bool
  f = crosses_right p

  abbrev P : Seg → Type 0
  P = IsNear 0 p

  -- only the two vertical edges cross
  odd_is : is_odd f (west ∷ south ∷ east ∷ north ∷ []) ≡ differs (f west) (f east)
  odd_is = rw (level_never p south refl, level_never p north refl) (differs_false (f west) (f east))

  west_crosses : f west ≡ true → (low.y ≤ℤ p.y) × (p.y <ℤ high.y) × (p.x <ℤ low.x)
  west_crosses h = vertical_crosses p low nw refl deep (sym (crosses_right-turned p low nw) ∙ h)

  -- the corners are in the rectangle
  in_low : InRectangle low high low
  in_low = record { left = omega (arith, sums); right = wide; front = omega (arith, sums); back = deep }

  in_high : InRectangle low high high
  in_high = record { left = wide; right = omega (arith, sums); front = deep; back = omega (arith, sums) }

  in_se : InRectangle low high se
  in_se = record { left = wide; right = omega (arith, sums); front = omega (arith, sums); back = deep }

  in_nw : InRectangle low high nw
  in_nw = record { left = omega (arith, sums); right = wide; front = deep; back = omega (arith, sums) }

  border_inside : Any P (west ∷ south ∷ east ∷ north ∷ []) → InRectangle low high p
  border_inside some =
      elim (any_cases P west (south ∷ east ∷ north ∷ []) some) [
        | inl on ↦ on_edge low high nw low p in_nw in_low on
        | inr some ↦ elim (any_cases P south (east ∷ north ∷ []) some) [
          | inl on ↦ on_edge low high low se p in_low in_se on
          | inr some ↦ elim (any_cases P east (north ∷ []) some) [
            | inl on ↦ on_edge low high se high p in_se in_high on
            | inr some ↦ elim (any_cases P north [] some) [
              | inl on ↦ on_edge low high high nw p in_high in_nw on
              | inr none ↦ absurd (any_none P none)
            ]
          ]
        ]
      ]

  -- of the two vertical edges the east one alone crosses
  one_inside : f west ≡ false → f east ≡ true → InRectangle low high p
  one_inside no_west crosses_east =
      let (from, to, left) = vertical_crosses p se high refl deep crosses_east in
      let east_of_west : low.x ≤ℤ p.x =
      by_lt_z p.x low.x
      (λ west_too. absurd (both_ways (f west) no_west (crosses_right-turned p low nw ∙ left_of_vertical p low nw refl deep from to west_too)))
      (λ right. right) in
      record { left = east_of_west; right = omega (arith, sums); front = from; back = omega (arith, sums) }

  odd_inside : differs (f west) (f east) ≡ true → InRectangle low high p
  odd_inside odd =
      elim (cases_Bool (f west)) [
        | inl crosses_west ↦
            let (from, to, left) = west_crosses crosses_west in
            let crosses_east : f east ≡ true = left_of_vertical p se high refl deep from to (omega (arith, sums)) in
            absurd (both_ways (differs (f west) (f east)) (ap (λ b. differs b (f east)) crosses_west ∙ ap (differs true) crosses_east) odd)
        | inr no_west ↦ one_inside no_west (sym (ap (λ b. differs b (f east)) no_west) ∙ odd)
      ]

  inside_odd : InRectangle low high p → p.y <ℤ high.y → p.x <ℤ high.x → differs (f west) (f east) ≡ true
  inside_odd h below_top left_of_east =
      let crosses_east : f east ≡ true = left_of_vertical p se high refl deep h.front below_top left_of_east in
      let no_west : f west ≡ false =
      elim (cases_Bool (f west)) [
        | inl crosses_west ↦ let left = (west_crosses crosses_west).2 in let right = h.left in absurd (omega (arith, sums))
        | inr no_west ↦ no_west
      ] in
      ap (λ b. differs b (f east)) no_west ∙ crosses_east

  on_north : InRectangle low high p → high.y ≤ℤ p.y → Near 0 high nw p
  on_north h top =
      let level : high.y ≡ p.y = let back = h.back in omega (arith, sums) in
      (near_either_way 0 nw high p).0 (on_level nw high p level level h.left h.right)

  on_east : InRectangle low high p → p.y <ℤ high.y → high.x ≤ℤ p.x → Near 0 se high p
  on_east h below_top at_east =
      let here : high.x ≡ p.x = let right = h.right in omega (arith, sums) in
      let line : beside p east ≡ pos 0 = rw here (simp expand (omega (arith, sums))) in
      rising_on_line se high p h.front below_top line

  rectangle_from : InPolygon (corners low high) p → InRectangle low high p
  rectangle_from inside =
      elim inside [
        | inl on ↦ border_inside on
        | inr odd ↦
            let is = parity f (west ∷ south ∷ east ∷ north ∷ []) in
            odd_inside (sym odd_is ∙ one_is_true (is_odd f (west ∷ south ∷ east ∷ north ∷ [])) (sym is ∙ odd))
      ]

  rectangle_to : InRectangle low high p → InPolygon (corners low high) p
  rectangle_to h =
      by_lt_z p.y high.y
      (λ below_top.
      by_lt_z p.x high.x
      (λ left_of_east. inr (parity f (west ∷ south ∷ east ∷ north ∷ []) ∙ ap {B = ℕ} (λ b. cond b 1 0) (odd_is ∙ inside_odd h below_top left_of_east)))
      (λ at_east. inl (any_there P west (south ∷ east ∷ north ∷ []) (any_there P south (east ∷ north ∷ []) (any_here P east (north ∷ []) (on_east h below_top at_east))))))
      (λ top. inl (any_there P west (south ∷ east ∷ north ∷ []) (any_there P south (east ∷ north ∷ []) (any_there P east (north ∷ []) (any_here P north [] (on_north h top))))))

pub rectangle_is_its_corners : RectangleIsItsCorners
rectangle_is_its_corners low high p wide deep = (rectangle_from low high p wide deep, rectangle_to low high p wide deep)
