-- The marks of runs of nodes in a row.
use Rattle.std.proofs.Common.{ℕ, ◌≡◌, ◌+◌, ◌-◌, ◌*◌, ◌<◌, ◌≤◌, ◌↔◌, ⊎_elim, ℤ, pos, ◌+ℤ◌, ◌-ℤ◌, ◌≤ℤ◌, unsigned_abs, Bool, false, IsTrue, List, get_or, refl, sym, ap, ◌∙◌, subst, arith}
use Rattle.std.proofs.lemmas.Bool.{cases_lt}
use Rattle.std.proofs.lemmas.Int.{ints, by_lt_z}
use Rattle.sn_raster.specs.Grid.{Grid, Node, IsInWindow, places}
use Rattle.sn_raster.specs.Plane.{Plane, Has, mark_of}
use Rattle.sn_raster.specs.RowTurns.{at, IsInRun}
use Rattle.sn_raster.proofs.HeightMaps.{same_place}
use Rattle.sn_raster.proofs.Marks.{one_node, in_own_window}
use lib.Signed.{lt_z}

offset_from : (i0 first k : ℤ) → i0 ≤ℤ first → first ≤ℤ k → unsigned_abs (k -ℤ i0) ≡ unsigned_abs (first -ℤ i0) + unsigned_abs (k -ℤ first)
offset_from i0 first k h l = omega (arith, ints)

shifted : (base a b c : ℕ) → b ≡ a + c → base + b ≡ base + a + c
shifted base a b c e = omega (arith, e)

-- the marks of a row go by its columns
mark_after : (g : Grid) (first i j : ℤ) → g.i0 ≤ℤ first → first ≤ℤ i → mark_of g (at i j) ≡ mark_of g (at first j) + unsigned_abs (i -ℤ first)
mark_after g first i j h l = shifted (unsigned_abs (j -ℤ g.j0) * places g.i0 g.i1) _ _ _ (offset_from g.i0 first i h l)

in_run_at : (first last j : ℤ) (n : Node) → IsInRun first last j n → n ≡ at n.i j
in_run_at first last j n run = same_place n.i n.i n.j j refl run.row

no_further : (first last k : ℤ) → first ≤ℤ k → k ≤ℤ last → unsigned_abs (k -ℤ first) ≤ unsigned_abs (last -ℤ first)
no_further first last k low high = omega (arith, ints)

steps_after : (first : ℤ) (t : ℕ) → unsigned_abs (first +ℤ pos t -ℤ first) ≡ t
steps_after first t = omega (arith, ints)

from_first : (first : ℤ) (t : ℕ) → first ≤ℤ (first +ℤ pos t)
from_first first t = omega (arith, ints)

to_last : (first last : ℤ) (t : ℕ) → first ≤ℤ last → t ≤ unsigned_abs (last -ℤ first) → (first +ℤ pos t) ≤ℤ last
to_last first last t some h = omega (arith, ints)

through : (a b c : ℤ) → a ≤ℤ b → b ≤ℤ c → a ≤ℤ c
through a b c h l = omega (arith, ints)

-- A run of nodes in a row of the window, and the marks from its first to its last.
pub record IsRun (g : Grid) (first last j : ℤ) (from end : ℕ) : Type 0 where
  pub some : first ≤ℤ last
  pub low : IsInWindow g (at first j)
  pub high : IsInWindow g (at last j)
  pub from_is : from ≡ mark_of g (at first j)
  pub end_is : end ≡ mark_of g (at last j) + 1

pub ordered : (first last f l : ℤ) → f ≡ first → l ≡ last → lt_z l f ≡ false → first ≤ℤ last
ordered first last f l e e' test = by_lt_z last first (λ below. absurd (grind (arith, ints))) (λ above. above)

at_ends : (g h : Grid) (i j : ℤ) → g ≡ h → h.i0 ≤ℤ i → i ≤ℤ h.i1 → h.j0 ≤ℤ j → j ≤ℤ h.j1 → IsInWindow g (at i j)
at_ends g h i j same left right front back = in_own_window g h (at i j) same (record { left = left; right = right; front = front; back = back })

-- the first and the last node, as they are passed on
pub ends_in_window : (g h : Grid) (first last f l j j' : ℤ) → g ≡ h → f ≡ first → l ≡ last → j' ≡ j → lt_z l f ≡ false → h.i0 ≤ℤ first → last ≤ℤ h.i1 → h.j0 ≤ℤ j → j ≤ℤ h.j1
    → IsInWindow g (at f j') × IsInWindow g (at l j')
ends_in_window g h first last f l j j' same e e' e'' test left right front back =
    let some = ordered first last f l e e' test in
    rw (e, e', e'') (at_ends g h first j same left (through first last h.i1 some right) front back, at_ends g h last j same (through h.i0 first last left some) right front back)

pub run_of : (g h : Grid) (first last f l j j' : ℤ) (from to : ℕ) → g ≡ h → f ≡ first → l ≡ last → j' ≡ j → lt_z l f ≡ false → h.i0 ≤ℤ first → last ≤ℤ h.i1 → h.j0 ≤ℤ j → j ≤ℤ h.j1
    → from ≡ mark_of g (at f j') → to ≡ mark_of g (at l j') → IsRun g first last j from (to + 1)
run_of g h first last f l j j' from to same e e' e'' test left right front back from_is to_is =
    let some = ordered first last f l e e' test in
    record {
      some = some;
      low = at_ends g h first j same left (through first last h.i1 some right) front back;
      high = at_ends g h last j same (through h.i0 first last left some) right front back;
      from_is = from_is ∙ ap (mark_of g) (same_place f first j' j e e'');
      end_is = ap (λ k. k + 1) (to_is ∙ ap (mark_of g) (same_place l last j' j e' e''));
    }

pub in_order : (g : Grid) (first last j : ℤ) (from end : ℕ) → IsRun g first last j from end → from ≤ end
in_order g first last j from end run =
    let most = mark_after g first last j run.low.left run.some in
    below (mark_of g (at first j)) (mark_of g (at last j)) _ from end most run.from_is run.end_is
  where
    below : (a b y from end : ℕ) → b ≡ a + y → from ≡ a → end ≡ b + 1 → from ≤ end
    below a b y from end e f g = omega arith

pub run_in_window : (g : Grid) (first last j : ℤ) (from end : ℕ) (n : Node) → IsRun g first last j from end → IsInRun first last j n → IsInWindow g n
run_in_window g first last j from end n run inside =
    let window : IsInWindow g (at n.i j) = record { left = through g.i0 first n.i run.low.left inside.left; right = through n.i last g.i1 inside.right run.high.right; front = run.low.front; back = run.low.back } in
    subst (λ (m : Node). IsInWindow g m) (sym (in_run_at first last j n inside)) window

pub marks_of_run : (g : Grid) (first last j : ℤ) (from end : ℕ) (n : Node) → IsRun g first last j from end → IsInRun first last j n → (from ≤ mark_of g n) × (mark_of g n < end)
marks_of_run g first last j from end n run inside =
    let here = ap (mark_of g) (in_run_at first last j n inside) ∙ mark_after g first n.i j run.low.left inside.left in
    let most = mark_after g first last j run.low.left run.some in
    let further = no_further first last n.i inside.left inside.right in
    between (mark_of g n) (mark_of g (at first j)) (mark_of g (at last j)) (unsigned_abs (n.i -ℤ first)) (unsigned_abs (last -ℤ first)) from end here most further run.from_is run.end_is
  where
    between : (k a b x y from end : ℕ) → k ≡ a + x → b ≡ a + y → x ≤ y → from ≡ a → end ≡ b + 1 → (from ≤ k) × (k < end)
    between k a b x y from end e f h g i = (omega arith, omega arith)

pub run_of_marks : (g : Grid) (first last j : ℤ) (from end : ℕ) (n : Node) → IsRun g first last j from end → IsInWindow g n → from ≤ mark_of g n → mark_of g n < end → IsInRun first last j n
run_of_marks g first last j from end n run window low high =
    let t = mark_of g n - from in
    let most = mark_after g first last j run.low.left run.some in
    let reach = to_last first last t run.some (within (mark_of g n) (mark_of g (at last j)) (mark_of g (at first j)) (unsigned_abs (last -ℤ first)) from end most run.from_is run.end_is low high) in
    let i = first +ℤ pos t in
    let there : IsInWindow g (at i j) = record { left = through g.i0 first i run.low.left (from_first first t); right = through i last g.i1 reach run.high.right; front = run.low.front; back = run.low.back } in
    let after = mark_after g first i j run.low.left (from_first first t) in
    let same = one_node g n (at i j) window there (sym (reached (mark_of g n) (mark_of g (at i j)) (mark_of g (at first j)) _ from (steps_after first t) after run.from_is low)) in
    subst (λ (m : Node). IsInRun first last j m) (sym same) (record { row = refl; left = from_first first t; right = reach })
  where
    within : (k b a y from end : ℕ) → b ≡ a + y → from ≡ a → end ≡ b + 1 → from ≤ k → k < end → k - from ≤ y
    within k b a y from end e f h l m = omega arith

    reached : (k m a x from : ℕ) → x ≡ k - from → m ≡ a + x → from ≡ a → from ≤ k → m ≡ k
    reached k m a x from e f h l = omega arith

abbrev plane : Grid → List Bool → Plane
plane g marks = record { grid = g; marks = marks }

-- a run is put in or taken out with its marks
pub run_set : (g : Grid) (new : List Bool) (first last j : ℤ) (from end : ℕ) (on : Bool) → IsRun g first last j from end
    → ((k : ℕ) → from ≤ k → k < end → get_or new k false ≡ on) → (n : Node) → IsInRun first last j n → Has (plane g new) n ↔ IsTrue on
run_set g new first last j from end on run between n inside =
    let marks = marks_of_run g first last j from end n run inside in
    let is = between (mark_of g n) marks.0 marks.1 in
    ((λ has. subst IsTrue is has.marked), (λ t. record { in_window = run_in_window g first last j from end n run inside; marked = subst IsTrue (sym is) t }))

pub run_kept : (old : Plane) (g : Grid) (marks new : List Bool) (first last j : ℤ) (from end : ℕ) → plane g marks ≡ old → IsRun g first last j from end
    → ((k : ℕ) → k < from → get_or new k false ≡ get_or marks k false) → ((k : ℕ) → end ≤ k → get_or new k false ≡ get_or marks k false)
    → (n : Node) → ¬ IsInRun first last j n → Has (plane g new) n ↔ Has old n
run_kept old g marks new first last j from end view run before after n off =
    let k = mark_of g n in
    let is : IsInWindow g n → get_or new k false ≡ get_or marks k false =
    λ window. ⊎_elim (λ (low : k < from). before k low)
    (λ (high : from ≤ k). ⊎_elim (λ (low : k < end). absurd (off (run_of_marks g first last j from end n run window high low))) (λ (past : end ≤ k). after k past) (cases_lt k end)) (cases_lt k from) in
    subst (λ (p : Plane). Has (plane g new) n ↔ Has p n) view (
      (λ has. record { in_window = has.in_window; marked = subst IsTrue (is has.in_window) has.marked }),
      (λ has. record { in_window = has.in_window; marked = subst IsTrue (sym (is has.in_window)) has.marked }),
    )
