-- What lies along the stroke of a run of nodes: the nodes in the discs about the nodes of the run.
use Rattle.std.proofs.Common.{ℕ, zero, suc, ◌≡◌, ◌+◌, ◌-◌, ◌*◌, ◌<◌, ◌≤◌, min, max, ◌⊎◌, inl, inr, ⊎_elim, ℤ, pos, ◌+ℤ◌, ◌-ℤ◌, ◌*ℤ◌, neg_ℤ, ◌≤ℤ◌, ◌<ℤ◌, unsigned_abs, refl, sym, ap, subst, arith}
use Rattle.std.proofs.lemmas.Int.{ints, by_lt_z, unsigned_abs-mul}
use Rattle.std.proofs.lemmas.Bool.{cases_lt}
use Rattle.std.proofs.Math.IntN.{*ℤ-zero}
use Rattle.sn_geom.proofs.Ring.{sums, expand, pos-le, le-pos, product_not_negative, product_le, le_of_product_le}
use Rattle.sn_geom.proofs.Nearness.{near_behind, near_one_place, near_either_way, near_of_longer}
use Rattle.sn_geom.specs.declared.units.Pt.{Pt}
use Rattle.sn_geom.specs.Sweep.{Disc, square, offset_at, Near}
use Rattle.sn_raster.specs.Grid.{Grid, Node, place, InDisc}
use Rattle.sn_clear.specs.Window.{node_at}

-- Numbers.

-- p is beyond a, seen from b
abbrev IsBehind : ℤ → ℤ → ℤ → Type 0
IsBehind a b p = ((p ≤ℤ a) × (a ≤ℤ b)) ⊎ ((b ≤ℤ a) × (a ≤ℤ p))

abbrev IsBetween : ℤ → ℤ → ℤ → Type 0
IsBetween a b p = ((a <ℤ p) × (p <ℤ b)) ⊎ ((b <ℤ p) × (p <ℤ a))

not_under : (a b : ℤ) → a <ℤ b → a ≤ℤ b
not_under a b h = omega (arith, sums)

side_of : (a b p : ℤ) → IsBetween a b p ⊎ (IsBehind a b p ⊎ IsBehind b a p)
side_of a b p =
    by_lt_z a p
    (λ after_a. by_lt_z p b
    (λ before_b. inl (inl (after_a, before_b)))
    (λ past_b. by_lt_z b a
    (λ turned. inr (inl (inr (not_under b a turned, not_under a p after_a))))
    (λ rising. inr (inr (inr (rising, past_b))))))
    (λ to_a. by_lt_z b p
    (λ after_b. by_lt_z p a
    (λ before_a. inl (inr (after_b, before_a)))
    (λ at_a. inr (inl (inr (past b p a after_b to_a, at_a)))))
    (λ to_b. by_lt_z b a
    (λ turned. inr (inr (inl (to_b, not_under b a turned))))
    (λ rising. inr (inl (inl (to_a, rising))))))
  where
    past : (x y z : ℤ) → x <ℤ y → y ≤ℤ z → x ≤ℤ z
    past x y z h k = omega (arith, sums)

opposite : (v w : ℤ) → ((v ≤ℤ pos 0) × (pos 0 ≤ℤ w)) ⊎ ((w ≤ℤ pos 0) × (pos 0 ≤ℤ v)) → (v *ℤ w) ≤ℤ pos 0
opposite v w (inl (h, k)) = let more = simp expand at (product_not_negative (neg_ℤ v) w (omega (arith, sums)) k) in omega (arith, sums)
opposite v w (inr (h, k)) = let more = simp expand at (product_not_negative v (neg_ℤ w) k (omega (arith, sums))) in omega (arith, sums)

with_none : (v w u : ℤ) → (v *ℤ w) ≤ℤ pos 0 → (v *ℤ w +ℤ u *ℤ pos 0) ≤ℤ pos 0
with_none v w u h = let none = *ℤ-zero u in rw none (omega (arith, sums))

signs : (a b p : ℤ) → IsBehind a b p
    → (((p -ℤ a) ≤ℤ pos 0) × (pos 0 ≤ℤ (b -ℤ a))) ⊎ (((b -ℤ a) ≤ℤ pos 0) × (pos 0 ≤ℤ (p -ℤ a)))
signs a b p (inl (h, k)) = inl (omega (arith, sums), omega (arith, sums))
signs a b p (inr (h, k)) = inr (omega (arith, sums), omega (arith, sums))

none_apart : (a b : ℤ) → a ≡ b → b -ℤ a ≡ pos 0
none_apart a b same = omega (arith, sums)

cancelled : (k a b : ℕ) → 0 < k → k * a ≤ k * b → a ≤ b
cancelled k a b some h = le-pos a b (le_of_product_le (pos k) (pos a) (pos b) (omega (arith, sums)) (pos-le (k * a) (k * b) h))

positive : (m : ℕ) → 0 < m → 0 < m * m
positive (suc k) some = omega arith
positive zero some = absurd (omega arith)

-- Level segments.

flat_offset : (n m : ℕ) (a b p : ℤ) → a ≡ b → offset_at n m a b p ≡ pos m *ℤ (p -ℤ a)
flat_offset n m a b p same = let none = none_apart a b same in rw none (simp expand (omega (arith, sums)))

-- what is near such a segment is not further from its line
from_line : (d : ℕ) (a b p : Pt) → a.y ≡ b.y → Near d a b p → 4 * square (p.y -ℤ a.y) ≤ d * d
from_line d a b p level (n, m, h) =
    let v = p.y -ℤ a.y in
    let flat = flat_offset n m a.y b.y p.y level in
    let close : 4 * (square (offset_at n m a.x b.x p.x) + square (pos m *ℤ v)) ≤ d * d * (m * m) =
    subst (λ z. 4 * (square (offset_at n m a.x b.x p.x) + square z) ≤ d * d * (m * m)) flat h.close in
    let parts = unsigned_abs-mul (pos m) v in
    let scaled = ap (λ (k : ℕ). k * k) parts in
    cancelled (m * m) (4 * square v) (d * d) (positive m h.fraction.some_parts) (omega (arith, close, scaled))

disc_beside : (d : ℕ) (a b p : Pt) → a.y ≡ b.y → Near d a b p → Disc d (record { x = p.x; y = a.y }) p
disc_beside d a b p level near =
    let none = none_apart p.x p.x refl in
    record { close = (rw none (omega (arith, from_line d a b p level near))) }

disc_behind : (d : ℕ) (a b p : Pt) → a.y ≡ b.y → IsBehind a.x b.x p.x → Near d a b p → Disc d a p
disc_behind d a b p level behind near =
    let none = none_apart a.y b.y level in
    let across = opposite (p.x -ℤ a.x) (b.x -ℤ a.x) (signs a.x b.x p.x behind) in
    let product : ((p.x -ℤ a.x) *ℤ (b.x -ℤ a.x) +ℤ (p.y -ℤ a.y) *ℤ (b.y -ℤ a.y)) ≤ℤ pos 0 =
    rw none (with_none (p.x -ℤ a.x) (b.x -ℤ a.x) (p.y -ℤ a.y) across) in
    record { close = (near_behind d a b p (b.x -ℤ a.x) (b.y -ℤ a.y) (p.x -ℤ a.x) (p.y -ℤ a.y) refl refl refl refl product).1 near }

-- Axes turned.

abbrev turned : Pt → Pt
turned p = record { x = p.y; y = p.x }

near_turned : (d : ℕ) (a b p : Pt) → Near d a b p → Near d (turned a) (turned b) (turned p)
near_turned d a b p (n, m, h) = (n, m, record { fraction = h.fraction; close = omega (arith, h.close) })

disc_turned : (d : ℕ) (a p : Pt) → Disc d a p → Disc d (turned a) (turned p)
disc_turned d a p h = record { close = omega (arith, h.close) }

-- Places on the grid.

below_scaled : (k : ℕ) (a b : ℤ) → 0 < k → (a *ℤ pos k) <ℤ (b *ℤ pos k) → a <ℤ b
below_scaled k a b some h =
    by_lt_z a b (λ below. below)
    (λ not_below. let more = simp expand at (product_le (pos k) b a (omega (arith, sums)) not_below) in absurd (omega (arith, sums)))

-- the place strictly between two others, counted from the first
abbrev IsCounted : ℤ → ℕ → ℕ → ℤ → ℕ → Type 0
IsCounted first f t i k = (i ≡ first +ℤ pos k) × (min f t ≤ k) × (k ≤ max f t)

counted : (first : ℤ) (f t : ℕ) (i : ℤ) → ((first +ℤ pos f) <ℤ i) × (i <ℤ (first +ℤ pos t)) → IsCounted first f t i (unsigned_abs (i -ℤ first))
counted first f t i (h, k) = (omega (arith, ints), omega (arith, ints), omega (arith, ints))

counted_back : (first : ℤ) (f t : ℕ) (i : ℤ) → ((first +ℤ pos t) <ℤ i) × (i <ℤ (first +ℤ pos f)) → IsCounted first f t i (unsigned_abs (i -ℤ first))
counted_back first f t i (h, k) = (omega (arith, ints), omega (arith, ints), omega (arith, ints))

place_between : (pitch : ℕ) (first : ℤ) (f t : ℕ) (i : ℤ) → 0 < pitch
    → IsBetween ((first +ℤ pos f) *ℤ pos pitch) ((first +ℤ pos t) *ℤ pos pitch) (i *ℤ pos pitch)
    → IsCounted first f t i (unsigned_abs (i -ℤ first))
place_between pitch first f t i some (inl (h, k)) =
    counted first f t i (below_scaled pitch (first +ℤ pos f) i some h, below_scaled pitch i (first +ℤ pos t) some k)
place_between pitch first f t i some (inr (h, k)) =
    counted_back first f t i (below_scaled pitch (first +ℤ pos t) i some h, below_scaled pitch i (first +ℤ pos f) some k)

-- Runs, from the column fc and the row fr of a window to the column tc and the row tr.

abbrev pub point : Grid → ℕ → ℕ → Pt
point g c r = place g.pitch (node_at g c r)

-- the number is one from a to b, or from b to a
abbrev pub IsFromTo : ℕ → ℕ → ℕ → Type 0
IsFromTo a b k = (min a b ≤ k) × (k ≤ max a b)

-- a node of the run in whose disc the node is
abbrev pub HasCentre : Grid → ℕ → ℕ → ℕ → ℕ → ℕ → Node → Type 0
HasCentre g d fc fr tc tr n = (c : ℕ) × (r : ℕ) × IsFromTo fc tc c × IsFromTo fr tr r × InDisc g.pitch d (point g c r) n

the_first : (a b : ℕ) → IsFromTo a b a
the_first a b = (omega arith, omega arith)

the_last : (a b : ℕ) → IsFromTo a b b
the_last a b = (omega arith, omega arith)

module _ (g : Grid) (d fc fr tc tr : ℕ) where
  abbrev from : Pt
  from = point g fc fr

  abbrev to : Pt
  to = point g tc tr

  -- the node itself is beside a node of the run, or beyond an end
  centre_in_row : 0 < g.pitch → (n : Node) → fr ≡ tr → Near d from to (place g.pitch n) → HasCentre g d fc fr tc tr n
  centre_in_row some n same near =
      let p = place g.pitch n in
      let level : from.y ≡ to.y = ap (λ (r : ℕ). (g.j0 +ℤ pos r) *ℤ pos g.pitch) same in
      let k = unsigned_abs (n.i -ℤ g.i0) in
      ⊎_elim
      (λ between.
      let (is, low, high) = place_between g.pitch g.i0 fc tc n.i some between in
      let disc = disc_beside d from to p level near in
      (k, fr, (low, high), the_first fr tr, subst (λ (i : ℤ). Disc d (record { x = i *ℤ pos g.pitch; y = (g.j0 +ℤ pos fr) *ℤ pos g.pitch }) p) is disc))
      (λ beyond.
      ⊎_elim
      (λ behind. (fc, fr, the_first fc tc, the_first fr tr, disc_behind d from to p level behind near))
      (λ ahead. (tc, tr, the_last fc tc, the_last fr tr, disc_behind d to from p (sym level) ahead ((near_either_way d from to p).0 near)))
      beyond)
      (side_of from.x to.x p.x)

  centre_in_column : 0 < g.pitch → (n : Node) → fc ≡ tc → Near d from to (place g.pitch n) → HasCentre g d fc fr tc tr n
  centre_in_column some n same near =
      let p = place g.pitch n in
      let near' = near_turned d from to p near in
      let level : from.x ≡ to.x = ap (λ (c : ℕ). (g.i0 +ℤ pos c) *ℤ pos g.pitch) same in
      let k = unsigned_abs (n.j -ℤ g.j0) in
      ⊎_elim
      (λ between.
      let (is, low, high) = place_between g.pitch g.j0 fr tr n.j some between in
      let disc = disc_turned d (record { x = p.y; y = from.x }) (turned p) (disc_beside d (turned from) (turned to) (turned p) level near') in
      (fc, k, the_first fc tc, (low, high), subst (λ (j : ℤ). Disc d (record { x = (g.i0 +ℤ pos fc) *ℤ pos g.pitch; y = j *ℤ pos g.pitch }) p) is disc))
      (λ beyond.
      ⊎_elim
      (λ behind. (fc, fr, the_first fc tc, the_first fr tr, disc_turned d (turned from) (turned p) (disc_behind d (turned from) (turned to) (turned p) level behind near')))
      (λ ahead. (
        tc,
        tr,
        the_last fc tc,
        the_last fr tr,
        disc_turned d (turned to) (turned p)
            (disc_behind d (turned to) (turned from) (turned p) (sym level) ahead ((near_either_way d (turned from) (turned to) (turned p)).0 near')),
      ))
      beyond)
      (side_of from.y to.y p.y)

  pub centre_near : 0 < g.pitch → (n : Node) → (fr ≡ tr) ⊎ (fc ≡ tc) → Near d from to (place g.pitch n) → HasCentre g d fc fr tc tr n
  centre_near some n straight near =
      ⊎_elim (λ row. centre_in_row some n row near) (λ column. centre_in_column some n column near) straight

-- Nodes of a run are on its stroke.

on_axis : (first scale : ℤ) (f c t : ℕ) → f ≤ c → c ≤ t
    → offset_at (c - f) (t - f) ((first +ℤ pos f) *ℤ scale) ((first +ℤ pos t) *ℤ scale) ((first +ℤ pos c) *ℤ scale) ≡ pos 0
on_axis first scale f c t h k =
    let near : pos (c - f) ≡ pos c -ℤ pos f = omega (arith, sums) in
    let far : pos (t - f) ≡ pos t -ℤ pos f = omega (arith, sums) in
    rw (near, far) (simp expand (omega (arith, sums)))

at_line : (n m : ℕ) (a b p : ℤ) → a ≡ b → a ≡ p → offset_at n m a b p ≡ pos 0
at_line n m a b p same here =
    let none = none_apart a b same in
    let none' = none_apart a p here in
    rw (none, none') (simp expand (omega (arith, sums)))

-- at no distance
at_none : (n m : ℕ) (a b p : Pt) → n ≤ m → 0 < m → offset_at n m a.x b.x p.x ≡ pos 0 → offset_at n m a.y b.y p.y ≡ pos 0 → Near 0 a b p
at_none n m a b p within some x y = (n, m, record { fraction = record { some_parts = some; within = within }; close = (rw (x, y) (omega arith)) })

one_place : (a b p : Pt) → a ≡ b → a ≡ p → Near 0 a b p
one_place a b p same here =
    let none_x = none_apart a.x a.x refl in
    let none_y = none_apart a.y a.y refl in
    let self : Near 0 a a a = (near_one_place 0 a a).1 (record { close = (rw (none_x, none_y) (omega arith)) }) in
    subst (λ (q : Pt). Near 0 a b q) here (subst (λ (q : Pt). Near 0 a q a) same self)

on_row : (g : Grid) (f c t r : ℕ) → f ≤ c → c ≤ t → Near 0 (point g f r) (point g t r) (point g c r)
on_row g f c t r h k =
    elim (cases_lt f t) [
      | inl long ↦
          at_none (c - f) (t - f) (point g f r) (point g t r) (point g c r) (omega arith) (omega arith)
          (on_axis g.i0 (pos g.pitch) f c t h k) (at_line (c - f) (t - f) (point g f r).y (point g t r).y (point g c r).y refl refl)
      | inr short ↦
          let same : f ≡ t = omega arith in
          let here : f ≡ c = omega arith in
          one_place (point g f r) (point g t r) (point g c r) (ap (λ (x : ℕ). point g x r) same) (ap (λ (x : ℕ). point g x r) here)
    ]

on_column : (g : Grid) (f r t c : ℕ) → f ≤ r → r ≤ t → Near 0 (point g c f) (point g c t) (point g c r)
on_column g f r t c h k =
    elim (cases_lt f t) [
      | inl long ↦
          at_none (r - f) (t - f) (point g c f) (point g c t) (point g c r) (omega arith) (omega arith)
          (at_line (r - f) (t - f) (point g c f).x (point g c t).x (point g c r).x refl refl) (on_axis g.j0 (pos g.pitch) f r t h k)
      | inr short ↦
          let same : f ≡ t = omega arith in
          let here : f ≡ r = omega arith in
          one_place (point g c f) (point g c t) (point g c r) (ap (λ (x : ℕ). point g c x) same) (ap (λ (x : ℕ). point g c x) here)
    ]

row_either_way : (g : Grid) (f c t r : ℕ) → min f t ≤ c → c ≤ max f t → Near 0 (point g f r) (point g t r) (point g c r)
row_either_way g f c t r low high =
    elim (cases_lt t f) [
      | inl back ↦ (near_either_way 0 (point g t r) (point g f r) (point g c r)).0 (on_row g t c f r (omega arith) (omega arith))
      | inr rising ↦ on_row g f c t r (omega arith) (omega arith)
    ]

column_either_way : (g : Grid) (f r t c : ℕ) → min f t ≤ r → r ≤ max f t → Near 0 (point g c f) (point g c t) (point g c r)
column_either_way g f r t c low high =
    elim (cases_lt t f) [
      | inl back ↦ (near_either_way 0 (point g c t) (point g c f) (point g c r)).0 (on_column g t r f c (omega arith) (omega arith))
      | inr rising ↦ on_column g f r t c (omega arith) (omega arith)
    ]

centre_on_stroke : (g : Grid) (fc fr tc tr c r : ℕ) → (fr ≡ tr) ⊎ (fc ≡ tc) → IsFromTo fc tc c → IsFromTo fr tr r
    → Near 0 (point g fc fr) (point g tc tr) (point g c r)
centre_on_stroke g fc fr tc tr c r (inl same) across up =
    let here : fr ≡ r = omega (arith, up.0, up.1) in
    let along = row_either_way g fc c tc fr across.0 across.1 in
    subst (λ (k : ℕ). Near 0 (point g fc fr) (point g tc tr) (point g c k)) here
    (subst (λ (k : ℕ). Near 0 (point g fc fr) (point g tc k) (point g c fr)) same along)
centre_on_stroke g fc fr tc tr c r (inr same) across up =
    let here : fc ≡ c = omega (arith, across.0, across.1) in
    let along = column_either_way g fr r tr fc up.0 up.1 in
    subst (λ (k : ℕ). Near 0 (point g fc fr) (point g tc tr) (point g k r)) here
    (subst (λ (k : ℕ). Near 0 (point g fc fr) (point g k tr) (point g fc r)) same along)

-- so what is in the disc about one is along the stroke
pub near_centre : (g : Grid) (d fc fr tc tr c r : ℕ) (n : Node) → (fr ≡ tr) ⊎ (fc ≡ tc) → IsFromTo fc tc c → IsFromTo fr tr r
    → InDisc g.pitch d (point g c r) n → Near d (point g fc fr) (point g tc tr) (place g.pitch n)
near_centre g d fc fr tc tr c r n straight across up disc =
    let e = point g c r in
    let on = centre_on_stroke g fc fr tc tr c r straight across up in
    near_of_longer d (point g fc fr) (point g tc tr) e e (place g.pitch n) on on ((near_one_place d e (place g.pitch n)).1 disc)
