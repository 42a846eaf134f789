-- How far the places of a row lie to the left of edges, and which edges cross their rays.
use Rattle.std.proofs.Common.{◌≡◌, ◌↔◌, ℕ, zero, suc, ◌+◌, ◌*◌, ◌<◌, ◌≤◌, ℤ, pos, negsuc, ◌+ℤ◌, ◌-ℤ◌, ◌*ℤ◌, ◌≤ℤ◌, ◌<ℤ◌, int_le, int_lt, unsigned_abs, Bool, true, false, not, ◌&&◌, ◌||◌, List, [], ◌∷◌, w64, to_z, of_z, refl, sym, ap, ◌∙◌, subst, arith}
use Rattle.std.specs.Int.{int_div_euclid}
use Rattle.std.proofs.lemmas.Int.{ints, by_lt_z, to_z-of_z}
use lib.Signed.{mag}
use Rattle.std.proofs.Math.IntN.{*ℤ_comm, *ℤ-zero}
use Rattle.sn_geom.proofs.Ring.{sums, expand, le_of_product_le}
use Rattle.sn_geom.specs.declared.limits.TheConstants.{REACH}
use Rattle.sn_geom.specs.Sweep.{Near, offset_at, square}
use Rattle.sn_geom.specs.declared.units.Pt.{Pt}
use Rattle.sn_geom.specs.declared.units.Seg.{Seg}
use Rattle.sn_outline.specs.Polygon.{beside, rises, falls, crosses_right}
use Rattle.sn_raster.specs.Grid.{Grid, Node, IsInWindow, place, last_place}
use Rattle.sn_raster.specs.Plane.{Plane, Has}
use Rattle.sn_raster.specs.RowTurns.{at, bit, differs, is_odd, is_left, is_crossed}
use Rattle.sn_raster.proofs.Marks.{in_own_window}
use Rattle.sn_raster.proofs.HeightMaps.{same_place}
use Rattle.sn_raster.proofs.Axis.{up_to}
use Rattle.sn_raster.proofs.RowBits.{le_true, le_false, lt_true, lt_false, two_tests, tests_differ, tests_turn, turned_here, turned_not, bit_same}

-- ---- numbers of 64 bits
pub kept_long : (z : ℤ) → mag z < 9223372036854775808 → to_z w64 (of_z w64 z) ≡ z
kept_long (pos n) h = to_z-of_z w64 (pos n) (record { sfits = omega arith })
kept_long (negsuc n) h = to_z-of_z w64 (negsuc n) (record { sfits = omega arith })

pub long_size : (z : ℤ) (n : ℕ) → unsigned_abs z ≤ n → n < 9223372036854775808 → mag z < 9223372036854775808
long_size (pos k) n h less = omega arith
long_size (negsuc k) n h less = omega arith

pub kept_within : (z : ℤ) → unsigned_abs z ≤ 4611686018427387904 → to_z w64 (of_z w64 z) ≡ z
kept_within z h = kept_long z (long_size z 4611686018427387904 h (omega arith))

one_less_size : (z : ℤ) → unsigned_abs z ≤ 8 * (REACH * REACH) → unsigned_abs (z -ℤ pos 1) ≤ 4611686018427387904
one_less_size z h = omega (arith, ints)

pub one_less : (lead : ℤ) → unsigned_abs lead ≤ 8 * (REACH * REACH) → to_z w64 (of_z w64 (to_z w64 (of_z w64 lead) -ℤ pos 1)) ≡ lead -ℤ pos 1
one_less lead h = ap (λ z. to_z w64 (of_z w64 (z -ℤ pos 1))) (kept_within lead (omega arith)) ∙ kept_within (lead -ℤ pos 1) (one_less_size lead h)

-- ---- leads
pub beside_at : (low high : Pt) (i y g : ℤ)
    → beside (record { x = i *ℤ g; y = y }) (record { a = low; b = high }) ≡ beside (record { x = pos 0; y = y }) (record { a = low; b = high }) -ℤ i *ℤ ((high.y -ℤ low.y) *ℤ g)
beside_at low high i y g = simp expand (omega (arith, sums))

as_natural : (z : ℤ) → pos 0 <ℤ z → z ≡ pos (unsigned_abs z)
as_natural z h = omega (arith, ints)

some_natural : (z : ℤ) → pos 0 <ℤ z → 0 < unsigned_abs z
some_natural z h = omega (arith, ints)

pub left_of : (lead step q i side : ℤ) → pos 0 <ℤ step → q ≡ int_div_euclid (lead -ℤ pos 1) step → side ≡ lead -ℤ i *ℤ step → i ≤ℤ q ↔ (pos 0 <ℤ side)
left_of lead step q i side positive is side_is =
    let s = unsigned_abs step in
    let e = as_natural step positive in
    let iff = up_to i (lead -ℤ pos 1) s (some_natural step positive) in
    let q_is : q ≡ last_place s (lead -ℤ pos 1) = is ∙ ap (int_div_euclid (lead -ℤ pos 1)) e in
    let product : i *ℤ step ≡ i *ℤ pos s = ap (λ z. i *ℤ z) e in (
      (λ h. let below = iff.0 (subst (λ z. i ≤ℤ z) q_is h) in omega (arith, sums)),
      (λ h. subst (λ z. i ≤ℤ z) (sym q_is) (iff.1 (omega (arith, sums)))),
    )

pub division : (x y x' y' q : ℤ) → x' ≡ x → y' ≡ y → q ≡ int_div_euclid x' y' → q ≡ int_div_euclid x y
division x y x' y' q e f is = is ∙ ap (λ z. int_div_euclid z y') e ∙ ap (int_div_euclid x) f

pub lead_at : (low high : Pt) (g g' : ℕ) (i j y lead step : ℤ) → y ≡ j *ℤ pos g → g' ≡ g → lead ≡ beside (record { x = pos 0; y = y }) (record { a = low; b = high })
    → step ≡ (high.y -ℤ low.y) *ℤ pos g' → beside (place g (at i j)) (record { a = low; b = high }) ≡ lead -ℤ i *ℤ step
lead_at low high g g' i j y lead step row pitch lead_is step_is =
    let e : Seg = record { a = low; b = high } in
    beside_at low high i (j *ℤ pos g) (pos g)
    ∙ ap (λ y. beside (record { x = pos 0; y = y }) e -ℤ i *ℤ ((high.y -ℤ low.y) *ℤ pos g)) (sym row)
    ∙ ap (λ z. z -ℤ i *ℤ ((high.y -ℤ low.y) *ℤ pos g)) (sym lead_is)
    ∙ ap (λ z. lead -ℤ i *ℤ z) (ap (λ n. (high.y -ℤ low.y) *ℤ pos n) (sym pitch) ∙ sym step_is)

-- ---- crossings
test_up : (r f up down : Bool) → r ≡ true → f ≡ false → (r && up || f && down) ≡ up
test_up r f up down e h = ap (λ x. x && up || f && down) e ∙ ap (λ x. up || x && down) h ∙ or_false up
  where
    or_false : (b : Bool) → (b || false) ≡ b
    or_false true = refl
    or_false false = refl

test_down : (r f up down : Bool) → r ≡ false → f ≡ true → (r && up || f && down) ≡ down
test_down r f up down e h = ap (λ x. x && up || f && down) e ∙ ap (λ x. x && down) h

and_true : (a b : Bool) → a ≡ true → b ≡ true → (a && b) ≡ true
and_true a b e f = ap (λ x. x && b) e ∙ f

and_first : (a b : Bool) → a ≡ false → (a && b) ≡ false
and_first a b e = ap (λ x. x && b) e

pub crossed_up : (g : Grid) (j : ℤ) (e : Seg) (i : ℤ) → e.a.y ≤ℤ (j *ℤ pos g.pitch) → (j *ℤ pos g.pitch) <ℤ e.b.y → is_crossed g j e i ≡ is_left g j (record { a = e.a; b = e.b }) i
crossed_up g j e i from to =
    let p = place g.pitch (at i j) in
    ap (λ t. int_le i g.i1 && t)
    (test_up (rises p.y e) (falls p.y e) (int_lt (pos 0) (beside p e)) (int_lt (beside p e) (pos 0)) (and_true _ _ (le_true e.a.y p.y from) (lt_true p.y e.b.y to)) (and_first (int_lt p.y e.a.y) (int_le e.b.y p.y) (lt_false p.y e.a.y from)))

beside_turned : (p a b : Pt) → beside p (record { a = b; b = a }) ≡ pos 0 -ℤ beside p (record { a = a; b = b })
beside_turned p a b = simp expand (omega (arith, sums))

other_side : (z w : ℤ) → w ≡ pos 0 -ℤ z → int_lt z (pos 0) ≡ int_lt (pos 0) w
other_side z w e = grind (arith, ints)

pub crossed_down : (g : Grid) (j : ℤ) (e : Seg) (i : ℤ) → e.b.y ≤ℤ (j *ℤ pos g.pitch) → (j *ℤ pos g.pitch) <ℤ e.a.y → is_crossed g j e i ≡ is_left g j (record { a = e.b; b = e.a }) i
crossed_down g j e i from to =
    let p = place g.pitch (at i j) in
    ap (λ t. int_le i g.i1 && t)
    (test_down (rises p.y e) (falls p.y e) (int_lt (pos 0) (beside p e)) (int_lt (beside p e) (pos 0)) (and_first (int_le e.a.y p.y) (int_lt p.y e.b.y) (le_false e.a.y p.y to)) (and_true (int_lt p.y e.a.y) (int_le e.b.y p.y) (lt_true p.y e.a.y to) (le_true e.b.y p.y from))
    ∙ other_side (beside p e) (beside p (record { a = e.b; b = e.a })) (beside_turned p e.a e.b))

-- ---- one edge
-- the row after the last node to the left of a rising edge was turned over
pub turned_row : (g : Grid) (e : Seg) (old new : Plane) (i j m last last' : ℤ) (n : Node) → last' ≡ last → n ≡ at m j → new.grid ≡ g → old.grid ≡ g → IsInWindow g (at i j)
    → ((k : ℤ) → k ≤ℤ last ↔ (pos 0 <ℤ beside (place g.pitch (at k j)) e)) → m ≤ℤ last' → m ≤ℤ g.i1 → ((k : ℤ) → k ≤ℤ last' → k ≤ℤ g.i1 → k ≤ℤ m)
    → bit new n ≡ not (bit old n) → ((k : Node) → ¬ (k ≡ n) → Has new k ↔ Has old k)
    → bit new (at i j) ≡ differs (bit old (at i j)) (differs (is_left g j e i) (is_left g j e (i +ℤ pos 1)))
turned_row g e old new i j m last last' n same here new_grid old_grid window iff at_most within greatest turned others =
    let L : ℤ → Type 0 = λ l. m ≤ℤ l in
    let at_most' : m ≤ℤ last = subst L same at_most in
    let G : ℤ → Type 0 = λ l. (k : ℤ) → k ≤ℤ l → k ≤ℤ g.i1 → k ≤ℤ m in
    let greatest' : (k : ℤ) → k ≤ℤ last → k ≤ℤ g.i1 → k ≤ℤ m = subst G same greatest in
    let test = two_tests i g.i1 last m (beside (place g.pitch (at i j)) e) (iff i) at_most' within (greatest' i) in
    let next = two_tests (i +ℤ pos 1) g.i1 last m (beside (place g.pitch (at (i +ℤ pos 1) j)) e) (iff (i +ℤ pos 1)) at_most' within (greatest' (i +ℤ pos 1)) in
    let off : (m ≡ i → ⊥) → bit new (at i j) ≡ differs (bit old (at i j)) (differs (is_left g j e i) (is_left g j e (i +ℤ pos 1))) =
    λ apart.
    turned_not (bit old (at i j)) (bit new (at i j)) _ _ _ _ test next (tests_differ i m apart)
    (bit_same new old (at i j) (new_grid ∙ sym old_grid) (in_own_window old.grid g (at i j) old_grid window) (others (at i j) (λ is. apart (sym (ap (λ k. k.i) (is ∙ here)))))) in
    by_lt_z m i (λ less. off (λ same. omega (arith, sums)))
    (λ not_less.
    by_lt_z i m (λ more. off (λ same. omega (arith, sums)))
    (λ not_more.
    let on : m ≡ i = omega (arith, sums) in
    let N : Node → Type 0 = λ k. bit new k ≡ not (bit old k) in
    turned_here (bit old (at i j)) (bit new (at i j)) _ _ _ _ test next (tests_turn i m on) (subst N (here ∙ same_place m i j j on refl) turned)))

below_from_test : (a b : ℤ) → int_le a b ≡ false → b <ℤ a
below_from_test a b h = grind (arith, ints)

and_false : (a b : Bool) → b ≡ false → (a && b) ≡ false
and_false true b h = h
and_false false b h = refl

-- no node of the row is to the left of the edge
pub not_turned_row : (g : Grid) (e : Seg) (old : Plane) (i j first last first' last' : ℤ) → first' ≡ first → last' ≡ last → first ≤ℤ i → int_le first' last' ≡ false
    → ((k : ℤ) → k ≤ℤ last ↔ (pos 0 <ℤ beside (place g.pitch (at k j)) e))
    → bit old (at i j) ≡ differs (bit old (at i j)) (differs (is_left g j e i) (is_left g j e (i +ℤ pos 1)))
not_turned_row g e old i j first last first' last' a b from test iff =
    let below = below_from_test first' last' test in
    let none : (k : ℤ) → last <ℤ k → is_left g j e k ≡ false =
    λ k past.
    let side = beside (place g.pitch (at k j)) e in
    by_lt_z (pos 0) side (λ left. let upto = (iff k).1 left in absurd (omega (arith, sums)))
    (λ right. and_false (int_le k g.i1) (int_lt (pos 0) side) (lt_false (pos 0) side right)) in
    turned_not (bit old (at i j)) (bit old (at i j)) _ _ false false (none i (omega (arith, sums))) (none (i +ℤ pos 1) (omega (arith, sums))) refl refl

-- ---- rows of edges
pub odd_beyond : (g : Grid) (j : ℤ) (es : List Seg) → is_odd (λ e. is_crossed g j e (g.i1 +ℤ pos 1)) es ≡ false
odd_beyond g j [] = refl
odd_beyond g j (e ∷ es) = ap (λ b. differs b (is_odd (λ e. is_crossed g j e (g.i1 +ℤ pos 1)) es)) (and_first (int_le (g.i1 +ℤ pos 1) g.i1) (crosses_right (place g.pitch (at (g.i1 +ℤ pos 1) j)) e) (le_false (g.i1 +ℤ pos 1) g.i1 (omega (arith, sums)))) ∙ odd_beyond g j es

pub odd_within : (g : Grid) (j i : ℤ) (es : List Seg) → i ≤ℤ g.i1 → is_odd (λ e. is_crossed g j e i) es ≡ is_odd (crosses_right (place g.pitch (at i j))) es
odd_within g j i [] high = refl
odd_within g j i (e ∷ es) high =
    ap (λ b. differs b (is_odd (λ e. is_crossed g j e i) es)) (ap (λ b. b && crosses_right (place g.pitch (at i j)) e) (le_true i g.i1 high))
    ∙ ap (differs (crosses_right (place g.pitch (at i j)) e)) (odd_within g j i es high)

-- ---- lines
-- the column whose place is on the line of a rising edge
pub on_line : (lead step q i side : ℤ) → pos 0 <ℤ step → q ≡ int_div_euclid lead step → side ≡ lead -ℤ i *ℤ step → side ≡ pos 0 → q ≡ i
on_line lead step q i side positive is side_is none =
    let s = unsigned_abs step in
    let e = as_natural step positive in
    let some = some_natural step positive in
    let q_is : q ≡ last_place s lead = is ∙ ap (int_div_euclid lead) e in
    let product : i *ℤ step ≡ i *ℤ pos s = ap (λ z. i *ℤ z) e in
    let upto : i ≤ℤ last_place s lead = (up_to i lead s some).1 (omega (arith, sums)) in
    let itself : (last_place s lead *ℤ pos s) ≤ℤ lead = (up_to (last_place s lead) lead s some).0 (same_le (last_place s lead)) in
    let turned = *ℤ_comm (pos s) (last_place s lead) in
    let turned_i = *ℤ_comm (pos s) i in
    let from : last_place s lead ≤ℤ i = le_of_product_le (pos s) (last_place s lead) i (omega (arith, sums)) (omega (arith, sums)) in
    q_is ∙ antisym (last_place s lead) i from upto
  where
    same_le : (z : ℤ) → z ≤ℤ z
    same_le z = omega (arith, sums)

    antisym : (a b : ℤ) → a ≤ℤ b → b ≤ℤ a → a ≡ b
    antisym a b h k = omega (arith, sums)

no_offset : (x : ℤ) (y : ℕ) → 4 * (square x + y) ≤ 0 → x ≡ pos 0
no_offset (pos zero) y h = refl
no_offset (pos (suc n)) y h = absurd (grind arith)
no_offset (negsuc n) y h = absurd (grind arith)

level_with : (m n bx by px py : ℤ) → m *ℤ px ≡ n *ℤ bx → m *ℤ py ≡ n *ℤ by → m *ℤ (bx *ℤ py -ℤ by *ℤ px) ≡ pos 0
level_with m n bx by px py e f =
    let g = ap (λ z. bx *ℤ z) f in
    let h = ap (λ z. by *ℤ z) e in
    let g' = simp expand at g in
    let h' = simp expand at h in
    simp expand (omega (arith, sums))

zero_factor : (m z : ℤ) → pos 0 <ℤ m → m *ℤ z ≡ pos 0 → z ≡ pos 0
zero_factor m z some e =
    let none = *ℤ-zero m in
    let up : z ≤ℤ pos 0 = le_of_product_le m z (pos 0) some (omega (arith, sums)) in
    let down : pos 0 ≤ℤ z = le_of_product_le m (pos 0) z some (omega (arith, sums)) in
    omega (arith, sums)

-- what is on a segment is on its line
pub near_on_line : (a b p : Pt) → Near 0 a b p → beside p (record { a = a; b = b }) ≡ pos 0
near_on_line a b p (n, m, near) =
    let x = offset_at n m a.x b.x p.x in
    let y = offset_at n m a.y b.y p.y in
    let close : 4 * (square x + square y) ≤ 0 = (let h = near.close in omega (arith, h)) in
    let close' : 4 * (square y + square x) ≤ 0 = omega (arith, close) in
    let x_none = no_offset x (square y) close in
    let y_none = no_offset y (square x) close' in
    let some : pos 0 <ℤ pos m = (let h = near.fraction.some_parts in omega (arith, ints, h)) in
    zero_factor (pos m) (beside p (record { a = a; b = b })) some
    (level_with (pos m) (pos n) (b.x -ℤ a.x) (b.y -ℤ a.y) (p.x -ℤ a.x) (p.y -ℤ a.y) (difference_none _ _ x_none) (difference_none _ _ y_none))
  where
    difference_none : (u v : ℤ) → (u -ℤ v) ≡ pos 0 → u ≡ v
    difference_none u v e = omega (arith, sums)

pub near_on_turned : (a b p : Pt) → Near 0 a b p → beside p (record { a = b; b = a }) ≡ pos 0
near_on_turned a b p near =
    let e = near_on_line a b p near in
    let t = beside_turned p a b in
    omega (arith, sums, e, t)
