-- Nearness to a segment by the projection onto it. With the offset w of b from a, the offset v of p from a, L = w·w, t = v·w and the cross product c of v and w:
-- L·|m·v - n·w|² = (m·t - n·L)² + m²·c² for all m and n. So where 0 < t < L the fraction t / L of the segment is nearest to p, and 4·c² ≤ d²·L decides; where t ≤ 0 it is a, and where L ≤ t it is b.
use Rattle.std.proofs.Common.{◌≡◌, ◌↔◌, ℕ, zero, suc, ◌+◌, ◌-◌, ◌*◌, ◌<◌, ◌≤◌, ℤ, pos, negsuc, ◌+ℤ◌, ◌-ℤ◌, ◌*ℤ◌, neg_ℤ, ◌≤ℤ◌, ◌<ℤ◌, unsigned_abs, refl, sym, ap, ◌∙◌, arith}
use Rattle.std.proofs.lemmas.Int.{ints, unsigned_abs-mul}
use Rattle.std.proofs.lemmas.Nat.{mul-le, mul-lt}
use Rattle.sn_geom.specs.declared.units.Pt.{Pt}
use Rattle.sn_geom.specs.Sweep.{Disc, square, offset_at, IsNearAt, Near}
use Rattle.sn_geom.proofs.Ring.{sums, expand, square_not_negative, product_not_negative, product_positive, product_le, le_of_product_le, unit-*ℤ, *ℤ-unit, *ℤ_left_comm}

-- ---- squares as naturals and as integers
pos-square : (z : ℤ) → pos (square z) ≡ z *ℤ z
pos-square (pos n) = refl
pos-square (negsuc n) = refl

pos-squares : (x y : ℤ) → pos (square x + square y) ≡ x *ℤ x +ℤ y *ℤ y
pos-squares x y = ap (λ z. z +ℤ pos (square y)) (pos-square x) ∙ ap (λ z. x *ℤ x +ℤ z) (pos-square y)

-- an order of naturals that are two integers is their order
to_ℤ : (m n : ℕ) (x y : ℤ) → pos m ≡ x → pos n ≡ y → m ≤ n → x ≤ℤ y
to_ℤ m n x y e f h = omega (arith, sums)

to_ℕ : (m n : ℕ) (x y : ℤ) → pos m ≡ x → pos n ≡ y → x ≤ℤ y → m ≤ n
to_ℕ m n x y e f h = omega (arith, sums)

-- ---- the least distance, by whole numbers
-- behind a the end a is nearest
least-behind : (m n wx wy vx vy : ℤ) → pos 0 ≤ℤ m → pos 0 ≤ℤ n → (vx *ℤ wx +ℤ vy *ℤ wy) ≤ℤ pos 0 →
    (m *ℤ m *ℤ (vx *ℤ vx +ℤ vy *ℤ vy)) ≤ℤ ((m *ℤ vx -ℤ n *ℤ wx) *ℤ (m *ℤ vx -ℤ n *ℤ wx) +ℤ (m *ℤ vy -ℤ n *ℤ wy) *ℤ (m *ℤ vy -ℤ n *ℤ wy))
least-behind m n wx wy vx vy p q h =
    let f = simp expand at (product_not_negative (m *ℤ n) (neg_ℤ (vx *ℤ wx +ℤ vy *ℤ wy)) (product_not_negative m n p q) (omega (arith, sums))) in
    let g = simp expand at (square_not_negative (n *ℤ wx)) in
    let k = simp expand at (square_not_negative (n *ℤ wy)) in
    simp expand (omega (arith, sums))

-- beside the segment the foot of the perpendicular is
least-beside : (m n wx wy vx vy : ℤ) →
    (m *ℤ m *ℤ ((vx *ℤ wy -ℤ vy *ℤ wx) *ℤ (vx *ℤ wy -ℤ vy *ℤ wx)))
    ≤ℤ ((wx *ℤ wx +ℤ wy *ℤ wy) *ℤ ((m *ℤ vx -ℤ n *ℤ wx) *ℤ (m *ℤ vx -ℤ n *ℤ wx) +ℤ (m *ℤ vy -ℤ n *ℤ wy) *ℤ (m *ℤ vy -ℤ n *ℤ wy)))
least-beside m n wx wy vx vy =
    let h = simp expand at (square_not_negative (m *ℤ (vx *ℤ wx +ℤ vy *ℤ wy) -ℤ n *ℤ (wx *ℤ wx +ℤ wy *ℤ wy))) in
    simp expand (omega (arith, sums))

-- which is reached there
foot : (wx wy vx vy : ℤ) →
    let l = wx *ℤ wx +ℤ wy *ℤ wy in
    let t = vx *ℤ wx +ℤ vy *ℤ wy in
    let c = vx *ℤ wy -ℤ vy *ℤ wx in
    (l *ℤ vx -ℤ t *ℤ wx) *ℤ (l *ℤ vx -ℤ t *ℤ wx) +ℤ (l *ℤ vy -ℤ t *ℤ wy) *ℤ (l *ℤ vy -ℤ t *ℤ wy) ≡ l *ℤ (c *ℤ c)
foot wx wy vx vy = simp expand (omega (arith, sums))

-- a positive square cancels
cancelled : (k l v w d : ℤ) → pos 0 <ℤ k → pos 0 ≤ℤ l → (k *ℤ v) ≤ℤ (l *ℤ w) → (pos 4 *ℤ w) ≤ℤ (d *ℤ k) → (pos 4 *ℤ v) ≤ℤ (d *ℤ l)
cancelled k l v w d p q h g =
    let f = simp expand at (product_le l (pos 4 *ℤ w) (d *ℤ k) q g) in
    le_of_product_le k (pos 4 *ℤ v) (d *ℤ l) p (simp expand (let e = simp expand at (product_le (pos 4) (k *ℤ v) (l *ℤ w) (omega (arith, sums)) h) in omega (arith, sums)))

-- ---- from a fraction to the test
module _ (d n m : ℕ) (wx wy vx vy : ℤ) (some : 0 < m)
    (close : 4 * (square (pos m *ℤ vx -ℤ pos n *ℤ wx) + square (pos m *ℤ vy -ℤ pos n *ℤ wy)) ≤ d * d * (m * m)) where
  abbrev off : ℤ → ℤ → ℤ
  off v w = pos m *ℤ v -ℤ pos n *ℤ w

  abbrev distance : ℤ
  distance = off vx wx *ℤ off vx wx +ℤ off vy wy *ℤ off vy wy

  close_ℤ : (pos 4 *ℤ distance) ≤ℤ (pos (d * d) *ℤ pos (m * m))
  close_ℤ = to_ℤ _ _ _ _ (ap (λ z. pos 4 *ℤ z) (pos-squares (off vx wx) (off vy wy))) refl close

  parts_positive : pos 0 <ℤ pos (m * m)
  parts_positive = product_positive (pos m) (pos m) (omega (arith, sums)) (omega (arith, sums))

  -- behind a no fraction is nearer than a
  within-from_near : (vx *ℤ wx +ℤ vy *ℤ wy) ≤ℤ pos 0 → 4 * (square vx + square vy) ≤ d * d
  within-from_near behind =
      let least = least-behind (pos m) (pos n) wx wy vx vy (omega (arith, sums)) (omega (arith, sums)) behind in
      let h = cancelled (pos (m * m)) (pos 1) (vx *ℤ vx +ℤ vy *ℤ vy) distance (pos (d * d)) parts_positive (omega (arith, sums)) (rw (unit-*ℤ distance) least) close_ℤ in
      to_ℕ _ _ _ _ (ap (λ z. pos 4 *ℤ z) (pos-squares vx vy)) (sym (*ℤ-unit (pos (d * d)))) h

  -- no fraction is nearer than the line is
  beside-from_near : 4 * square (vx *ℤ wy -ℤ vy *ℤ wx) ≤ d * d * (square wx + square wy)
  beside-from_near =
      let c = vx *ℤ wy -ℤ vy *ℤ wx in
      let l = wx *ℤ wx +ℤ wy *ℤ wy in
      let l_is = pos-squares wx wy in
      let h = cancelled (pos (m * m)) l (c *ℤ c) distance (pos (d * d)) parts_positive (omega (arith, sums)) (least-beside (pos m) (pos n) wx wy vx vy) close_ℤ in
      to_ℕ _ _ _ _ (ap (λ z. pos 4 *ℤ z) (pos-square c)) (ap (λ z. pos (d * d) *ℤ z) l_is) h

-- ---- from the test to a fraction
-- at the foot of the perpendicular, after t of l equal parts
near_at_foot : (d t l : ℕ) (wx wy vx vy : ℤ) → pos t ≡ vx *ℤ wx +ℤ vy *ℤ wy → l ≡ square wx + square wy →
    4 * square (vx *ℤ wy -ℤ vy *ℤ wx) ≤ d * d * (square wx + square wy) →
    4 * (square (pos l *ℤ vx -ℤ pos t *ℤ wx) + square (pos l *ℤ vy -ℤ pos t *ℤ wy)) ≤ d * d * (l * l)
near_at_foot d t l wx wy vx vy t_is l_is h =
    let c = vx *ℤ wy -ℤ vy *ℤ wx in
    let x = pos l *ℤ vx -ℤ pos t *ℤ wx in
    let y = pos l *ℤ vy -ℤ pos t *ℤ wy in
    let l_ℤ : pos l ≡ wx *ℤ wx +ℤ wy *ℤ wy = ap pos l_is ∙ pos-squares wx wy in
    let at_foot : x *ℤ x +ℤ y *ℤ y ≡ pos l *ℤ (c *ℤ c) = rw (← l_ℤ, ← t_is) at (foot wx wy vx vy) in
    let h_ℤ : (pos 4 *ℤ (c *ℤ c)) ≤ℤ (pos (d * d) *ℤ pos l) = to_ℤ _ _ _ _ (ap (λ z. pos 4 *ℤ z) (pos-square c)) (ap (λ k. pos (d * d * k)) (sym l_is)) h in
    let close = product_le (pos l) _ _ (omega (arith, sums)) h_ℤ in
    to_ℕ _ _ _ _
    (ap (λ z. pos 4 *ℤ z) (pos-squares x y ∙ at_foot) ∙ *ℤ_left_comm (pos 4) (pos l) (c *ℤ c))
    (ap pos (omega arith))
    close

-- ---- the two directions of a segment
offset-turn : (n m : ℕ) (a b p : ℤ) → n ≤ m → offset_at (m - n) m b a p ≡ offset_at n m a b p
offset-turn n m a b p h =
    let rest : pos (m - n) ≡ pos m -ℤ pos n = omega (arith, sums) in
    rw rest (simp expand (omega (arith, sums)))

pub IsNearAt-turn : (n m d : ℕ) (a b p : Pt) → IsNearAt n m d a b p → IsNearAt (m - n) m d b a p
IsNearAt-turn n m d a b p h = record {
  fraction = record { some_parts = h.fraction.some_parts; within = omega arith };
  close = rw (offset-turn n m a.x b.x p.x h.fraction.within, offset-turn n m a.y b.y p.y h.fraction.within) h.close;
}

pub Near-turn : (d : ℕ) (a b p : Pt) → Near d a b p → Near d b a p
Near-turn d a b p (n, m, h) = (m - n, m, IsNearAt-turn n m d a b p h)

-- ---- the three cases of the test
none-passed : (v w : ℤ) → pos 1 *ℤ v -ℤ pos 0 *ℤ w ≡ v
none-passed v w = simp expand (omega (arith, sums))

pub near_at_start : (d : ℕ) (a b p : Pt) → 4 * (square (p.x -ℤ a.x) + square (p.y -ℤ a.y)) ≤ d * d → IsNearAt 0 1 d a b p
near_at_start d a b p h = record {
  fraction = record { some_parts = omega arith; within = omega arith };
  close = rw (none-passed (p.x -ℤ a.x) (b.x -ℤ a.x), none-passed (p.y -ℤ a.y) (b.y -ℤ a.y)) (omega arith);
}

-- the end a is nearest
pub near_behind : (d : ℕ) (a b p : Pt) (wx wy vx vy : ℤ) → wx ≡ b.x -ℤ a.x → wy ≡ b.y -ℤ a.y → vx ≡ p.x -ℤ a.x → vy ≡ p.y -ℤ a.y →
    (vx *ℤ wx +ℤ vy *ℤ wy) ≤ℤ pos 0 → (4 * (square vx + square vy) ≤ d * d) ↔ Near d a b p
near_behind d a b p wx wy vx vy wx_is wy_is vx_is vy_is behind = (
  λ h. (0, 1, near_at_start d a b p (rw (← vx_is, ← vy_is) h)),
  λ (n, m, h). within-from_near d n m wx wy vx vy h.fraction.some_parts (rw (wx_is, wy_is, vx_is, vy_is) h.close) behind,
)

-- the end b is nearest: seen from b, p is behind it
pub near_past : (d : ℕ) (a b p : Pt) (wx wy vx vy ux uy t : ℤ) → wx ≡ b.x -ℤ a.x → wy ≡ b.y -ℤ a.y → vx ≡ p.x -ℤ a.x → vy ≡ p.y -ℤ a.y →
    ux ≡ p.x -ℤ b.x → uy ≡ p.y -ℤ b.y → t ≡ vx *ℤ wx +ℤ vy *ℤ wy → pos 0 <ℤ t → square wx + square wy ≤ unsigned_abs t →
    (4 * (square ux + square uy) ≤ d * d) ↔ Near d a b p
near_past d a b p wx wy vx vy ux uy t wx_is wy_is vx_is vy_is ux_is uy_is t_is ahead past =
    let x : ux ≡ vx -ℤ wx = omega (arith, sums) in
    let y : uy ≡ vy -ℤ wy = omega (arith, sums) in
    let back_x : a.x -ℤ b.x ≡ neg_ℤ wx = omega (arith, sums) in
    let back_y : a.y -ℤ b.y ≡ neg_ℤ wy = omega (arith, sums) in
    let length = pos-squares wx wy in
    let past_ℤ : (wx *ℤ wx +ℤ wy *ℤ wy) ≤ℤ (vx *ℤ wx +ℤ vy *ℤ wy) = omega (arith, ints) in
    let past_sorted = simp expand at past_ℤ in
    let behind : (ux *ℤ (a.x -ℤ b.x) +ℤ uy *ℤ (a.y -ℤ b.y)) ≤ℤ pos 0 = rw (x, y, back_x, back_y) (simp expand (omega (arith, sums))) in
    let from_b = near_behind d b a p (a.x -ℤ b.x) (a.y -ℤ b.y) ux uy refl refl ux_is uy_is behind in
    (λ h. Near-turn d b a p (from_b.0 h), λ h. from_b.1 (Near-turn d a b p h))

-- the foot of the perpendicular is nearest
pub near_beside : (d : ℕ) (a b p : Pt) (wx wy vx vy t : ℤ) → wx ≡ b.x -ℤ a.x → wy ≡ b.y -ℤ a.y → vx ≡ p.x -ℤ a.x → vy ≡ p.y -ℤ a.y →
    t ≡ vx *ℤ wx +ℤ vy *ℤ wy → pos 0 <ℤ t → unsigned_abs t < square wx + square wy →
    (4 * square (vx *ℤ wy -ℤ vy *ℤ wx) ≤ d * d * (square wx + square wy)) ↔ Near d a b p
near_beside d a b p wx wy vx vy t wx_is wy_is vx_is vy_is t_is ahead before = (
  λ h. (
    unsigned_abs t,
    square wx + square wy,
    record {
      fraction = record { some_parts = omega arith; within = omega arith };
      close = rw (← wx_is, ← wy_is, ← vx_is, ← vy_is) (near_at_foot d (unsigned_abs t) (square wx + square wy) wx wy vx vy (omega (arith, ints)) refl h);
    },
  ),
  λ (n, m, h). beside-from_near d n m wx wy vx vy h.fraction.some_parts (rw (wx_is, wy_is, vx_is, vy_is) h.close),
)

-- ---- laws
-- a segment of no length
pub near_one_place : (d : ℕ) (a p : Pt) → Near d a a p ↔ Disc d a p
near_one_place d a p =
    let none_x : a.x -ℤ a.x ≡ pos 0 = omega (arith, sums) in
    let none_y : a.y -ℤ a.y ≡ pos 0 = omega (arith, sums) in
    let behind : ((p.x -ℤ a.x) *ℤ (a.x -ℤ a.x) +ℤ (p.y -ℤ a.y) *ℤ (a.y -ℤ a.y)) ≤ℤ pos 0 =
    rw (none_x, none_y) (simp expand (omega (arith, sums))) in (
      λ h. record { close = (near_behind d a a p _ _ _ _ refl refl refl refl behind).1 h },
      λ h. (0, 1, near_at_start d a a p h.close),
    )

pub near_either_way : (d : ℕ) (a b p : Pt) → Near d a b p ↔ Near d b a p
near_either_way d a b p = (Near-turn d a b p, Near-turn d b a p)

pub near_of_larger : (d d' : ℕ) (a b p : Pt) → d ≤ d' → Near d a b p → Near d' a b p
near_of_larger d d' a b p h (n, m, near) =
    (n, m, record { fraction = near.fraction; close = omega (arith, near.close, mul-le (d * d) (m * m) (d' * d') (m * m) (mul-le d d d' d' h h) (omega arith)) })

-- what is at no distance is on the segment
square-zero : (z : ℤ) → square z ≤ 0 → z ≡ pos 0
square-zero (pos zero) h = refl
square-zero (pos (suc n)) h = absurd (omega arith)
square-zero (negsuc n) h = absurd (omega arith)

on_segment : (n m : ℕ) (a b p : Pt) → IsNearAt n m 0 a b p → (offset_at n m a.x b.x p.x ≡ pos 0) × (offset_at n m a.y b.y p.y ≡ pos 0)
on_segment n m a b p h =
    let x = square-zero (offset_at n m a.x b.x p.x) (omega (arith, h.close)) in
    let y = square-zero (offset_at n m a.y b.y p.y) (omega (arith, h.close)) in
    (x, y)

-- the place after n of m parts from e to f, where e is after i of j parts and f after k of l parts from a to b
parts_of_parts : (i j k l n m a b e f p : ℤ) → j *ℤ (e -ℤ a) -ℤ i *ℤ (b -ℤ a) ≡ pos 0 → l *ℤ (f -ℤ a) -ℤ k *ℤ (b -ℤ a) ≡ pos 0 →
    m *ℤ (j *ℤ l) *ℤ (p -ℤ a) -ℤ ((m -ℤ n) *ℤ (l *ℤ i) +ℤ n *ℤ (j *ℤ k)) *ℤ (b -ℤ a) ≡ j *ℤ l *ℤ (m *ℤ (p -ℤ e) -ℤ n *ℤ (f -ℤ e))
parts_of_parts i j k l n m a b e f p at_e at_f =
    let u = simp expand at (ap (λ z. m *ℤ l *ℤ z) at_e) in
    let v = simp expand at (ap (λ z. n *ℤ l *ℤ z) at_e) in
    let w = simp expand at (ap (λ z. n *ℤ j *ℤ z) at_f) in
    simp expand (omega (arith, sums))

-- how many of the m·j·l parts of the whole segment are passed there
abbrev passed : ℕ → ℕ → ℕ → ℕ → ℕ → ℕ → ℕ
passed i j k l n m = (m - n) * (l * i) + n * (j * k)

offset-parts : (i j k l n m : ℕ) (a b e f p : ℤ) → n ≤ m → offset_at i j a b e ≡ pos 0 → offset_at k l a b f ≡ pos 0 →
    offset_at (passed i j k l n m) (m * (j * l)) a b p ≡ pos (j * l) *ℤ offset_at n m e f p
offset-parts i j k l n m a b e f p h at_e at_f =
    let rest : pos (m - n) ≡ pos m -ℤ pos n = omega (arith, sums) in
    let passed_is = ap (λ z. z *ℤ pos (l * i) +ℤ pos (n * (j * k))) rest in
    ap (λ z. pos (m * (j * l)) *ℤ (p -ℤ a) -ℤ z *ℤ (b -ℤ a)) passed_is ∙ parts_of_parts (pos i) (pos j) (pos k) (pos l) (pos n) (pos m) a b e f p at_e at_f

passed_within : (i j k l n m : ℕ) → i ≤ j → k ≤ l → n ≤ m → passed i j k l n m ≤ m * (j * l)
passed_within i j k l n m p q h =
    let r = m - n in
    let m_is : m ≡ n + r = omega arith in
    let parts = ap (λ (z : ℕ). z * (j * l)) m_is in
    omega (arith, mul-le r (l * i) r (l * j) (omega arith) (mul-le l i l j (omega arith) p), mul-le n (j * k) n (j * l) (omega arith) (mul-le j k j l (omega arith) q))

pub near_of_longer : (d : ℕ) (a b e f p : Pt) → Near 0 a b e → Near 0 a b f → Near d e f p → Near d a b p
near_of_longer d a b e f p (i, j, at_e) (k, l, at_f) (n, m, h) =
    let on_e = on_segment i j a b e at_e in
    let on_f = on_segment k l a b f at_f in
    let x = offset-parts i j k l n m a.x b.x e.x f.x p.x h.fraction.within on_e.0 on_f.0 in
    let y = offset-parts i j k l n m a.y b.y e.y f.y p.y h.fraction.within on_e.1 on_f.1 in
    let scaled = mul-le (j * l * (j * l)) _ (j * l * (j * l)) _ (omega arith) h.close in (
      passed i j k l n m,
      m * (j * l),
      record {
        fraction = record {
          some_parts = mul-lt 0 0 m (j * l) h.fraction.some_parts (mul-lt 0 0 j l at_e.fraction.some_parts at_f.fraction.some_parts);
          within = passed_within i j k l n m at_e.fraction.within at_f.fraction.within h.fraction.within;
        };
        close = rw (x, y, unsigned_abs-mul (pos (j * l)) (offset_at n m e.x f.x p.x), unsigned_abs-mul (pos (j * l)) (offset_at n m e.y f.y p.y)) (omega (arith, scaled));
      },
    )
