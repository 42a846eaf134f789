-- The marks of nodes: each node of the window has one of its own.
use Rattle.std.proofs.Common.{ℕ, ◌≡◌, ◌+◌, ◌*◌, ◌<◌, ◌↔◌, ◌⊎◌, inl, inr, ⊎_elim, ◌||◌, not, ℤ, ◌-ℤ◌, ◌≤ℤ◌, unsigned_abs, Bool, true, false, IsTrue, List, length, get_or, set, refl, sym, ap, ◌∙◌, subst, get_or-set_same, get_or-set_other, w32, to_z, of_z, arith}
use Rattle.std.proofs.lemmas.Bool.{false≢true}
use Rattle.std.proofs.lemmas.Nat.{mul-add-lt, same_from_place}
use Rattle.std.proofs.lemmas.Int.{ints, clamps, to_z-of_z}
use mir.Val.{SFits}
use Rattle.sn_raster.specs.Grid.{Grid, Node, IsInWindow, places}
use Rattle.sn_raster.specs.Plane.{Plane, Has, mark_of}

-- a place is one of those from the first to the last
pub which_place : (first last k : ℤ) → first ≤ℤ k → k ≤ℤ last → unsigned_abs (k -ℤ first) < places first last
which_place first last k low high = omega (arith, ints, clamps)

same_place : (first k m : ℤ) → first ≤ℤ k → first ≤ℤ m → unsigned_abs (k -ℤ first) ≡ unsigned_abs (m -ℤ first) → k ≡ m
same_place first k m low low' same = omega (arith, ints)

pub mark_below : (g : Grid) (n : Node) → IsInWindow g n → mark_of g n < places g.i0 g.i1 * places g.j0 g.j1
mark_below g n window =
    mul-add-lt (unsigned_abs (n.j -ℤ g.j0)) (places g.i0 g.i1) (unsigned_abs (n.i -ℤ g.i0)) (places g.j0 g.j1)
    (which_place g.j0 g.j1 n.j window.front window.back) (which_place g.i0 g.i1 n.i window.left window.right)

same_node : (n m : Node) → n.i ≡ m.i → n.j ≡ m.j → n ≡ m
same_node n m column row = λ k. record { i = column k; j = row k }

-- nodes of one mark are one
pub one_node : (g : Grid) (n m : Node) → IsInWindow g n → IsInWindow g m → mark_of g n ≡ mark_of g m → n ≡ m
one_node g n m first second same =
    let both = same_from_place (unsigned_abs (n.j -ℤ g.j0)) (unsigned_abs (n.i -ℤ g.i0)) (unsigned_abs (m.j -ℤ g.j0)) (unsigned_abs (m.i -ℤ g.i0)) (places g.i0 g.i1)
    (which_place g.i0 g.i1 n.i first.left first.right) (which_place g.i0 g.i1 m.i second.left second.right) same in
    same_node n m (same_place g.i0 n.i m.i first.left second.left both.1) (same_place g.j0 n.j m.j first.front second.front both.0)

-- the mark of a node, computed
pub mark_value : (g : Grid) (i j i' j' i0 i1 j0 : ℤ) (rows columns width : ℕ) → i' ≡ i → j' ≡ j → i0 ≡ g.i0 → i1 ≡ g.i1 → j0 ≡ g.j0
    → rows ≡ unsigned_abs (j' -ℤ j0) → columns ≡ unsigned_abs (i' -ℤ i0) → width ≡ places i0 i1
    → rows * width + columns ≡ mark_of g (record { i = i; j = j })
mark_value g i j i' j' i0 i1 j0 rows columns width a b d e f r s w = rw (r, s, w, a, b, d, e, f) refl

-- the mark of a node that was passed on
pub passed_mark : (g : Grid) (i j : ℤ) (k : ℕ) → SFits w32 i → SFits w32 j
    → k ≡ mark_of g (record { i = to_z w32 (of_z w32 i); j = to_z w32 (of_z w32 j) }) → k ≡ mark_of g (record { i = i; j = j })
passed_mark g i j k column row is = is ∙ ap (λ n. mark_of g n) (same_node _ _ (to_z-of_z w32 i column) (to_z-of_z w32 j row))

pub in_own_window : (g h : Grid) (n : Node) → g ≡ h → IsInWindow h n → IsInWindow g n
in_own_window g h n same window = let P : Grid → Type 0 = λ grid. IsInWindow grid n in subst P (sym same) window

-- a mark that is set is that of its node
pub set_node : (g : Grid) (marks : List Bool) (n : Node) (k : ℕ) (on : Bool) → k ≡ mark_of g n → k < length marks → IsInWindow g n
    → Has (record { grid = g; marks = set marks k on }) n ↔ IsTrue on
set_node g marks n k on is below window =
    let same : get_or (set marks k on) (mark_of g n) false ≡ on = rw (← is) (get_or-set_same marks k on false below) in
    ((λ has. rw same at has.marked), (λ on_is. record { in_window = window; marked = rw same on_is }))

-- and of no other
pub set_others : (g : Grid) (marks : List Bool) (n m : Node) (k : ℕ) (on : Bool) → k ≡ mark_of g n → IsInWindow g n → ¬ (m ≡ n)
    → Has (record { grid = g; marks = set marks k on }) m ↔ Has (record { grid = g; marks = marks }) m
set_others g marks n m k on is window other =
    let kept : IsInWindow g m → get_or (set marks k on) (mark_of g m) false ≡ get_or marks (mark_of g m) false =
    λ in_window. get_or-set_other marks k (mark_of g m) on false (λ same. other (one_node g m n in_window window (same ∙ is))) in (
      (λ has. record { in_window = has.in_window; marked = rw (kept has.in_window) at has.marked }),
      (λ has. record { in_window = has.in_window; marked = rw (kept has.in_window) has.marked }),
    )

-- a plane by its grid and marks
abbrev plane : Grid → List Bool → Plane
plane g marks = record { grid = g; marks = marks }

pub with_marks : (g : Grid) (a b : List Bool) → a ≡ b → plane g a ≡ plane g b
with_marks g a b same = ap (plane g) same

-- Planes whose marks were all flipped.
flipped_test : (x y : Bool) → y ≡ not x → (IsTrue y ↔ ¬ IsTrue x)
flipped_test true y is = ((λ on. absurd (false≢true (sym is ∙ on))), (λ none. absurd (none refl)))
flipped_test false y is = ((λ _ on. false≢true on), (λ _. is))

flipped_marks : (g : Grid) (marks new : List Bool) → length marks ≡ places g.i0 g.i1 * places g.j0 g.j1
    → ((k : ℕ) → k < length marks → get_or new k false ≡ not (get_or marks k false))
    → (n : Node) → Has (plane g new) n ↔ (IsInWindow g n × ¬ Has (plane g marks) n)
flipped_marks g marks new full each n =
    let test : IsInWindow g n → IsTrue (get_or new (mark_of g n) false) ↔ ¬ IsTrue (get_or marks (mark_of g n) false) =
    λ window. flipped_test (get_or marks (mark_of g n) false) _ (each (mark_of g n) (rw full (mark_below g n window))) in (
      (λ has. (has.in_window, λ was. (test has.in_window).0 has.marked was.marked)),
      (λ (window, none). record { in_window = window; marked = (test window).1 (λ on. none (record { in_window = window; marked = on })) }),
    )

pub flipped : (old : Plane) (g : Grid) (marks new : List Bool) → plane g marks ≡ old
    → length marks ≡ places g.i0 g.i1 * places g.j0 g.j1 → ((k : ℕ) → k < length marks → get_or new k false ≡ not (get_or marks k false))
    → (n : Node) → Has (plane g new) n ↔ (IsInWindow old.grid n × ¬ Has old n)
flipped old g marks new view full each n =
    let P : Plane → Type 0 = λ p. Has (plane g new) n ↔ (IsInWindow p.grid n × ¬ Has p n) in
    subst P view (flipped_marks g marks new full each n)

-- Planes that gained the marks of another.
either_test : (x y z : Bool) → z ≡ x || y → (IsTrue z ↔ (IsTrue x ⊎ IsTrue y))
either_test true y z is = ((λ _. inl refl), (λ _. is))
either_test false y z is = ((λ on. inr (sym is ∙ on)), (λ e. ⊎_elim (λ (x : IsTrue false). absurd (false≢true x)) (λ (on : IsTrue y). is ∙ on) e))

joined_marks : (g : Grid) (marks other new : List Bool) → length marks ≡ places g.i0 g.i1 * places g.j0 g.j1
    → ((k : ℕ) → k < length marks → get_or new k false ≡ get_or marks k false || get_or other k false)
    → (n : Node) → Has (plane g new) n ↔ (Has (plane g marks) n ⊎ Has (plane g other) n)
joined_marks g marks other new full each n =
    let test : IsInWindow g n → IsTrue (get_or new (mark_of g n) false) ↔ (IsTrue (get_or marks (mark_of g n) false) ⊎ IsTrue (get_or other (mark_of g n) false)) =
    λ window. either_test (get_or marks (mark_of g n) false) (get_or other (mark_of g n) false) _ (each (mark_of g n) (rw full (mark_below g n window))) in (
      (λ has.
          ⊎_elim (λ (on : IsTrue (get_or marks (mark_of g n) false)). inl (record { in_window = has.in_window; marked = on }))
          (λ (on : IsTrue (get_or other (mark_of g n) false)). inr (record { in_window = has.in_window; marked = on })) ((test has.in_window).0 has.marked)),
      (λ e.
          ⊎_elim (λ (was : Has (plane g marks) n). record { in_window = was.in_window; marked = (test was.in_window).1 (inl was.marked) })
          (λ (there : Has (plane g other) n). record { in_window = there.in_window; marked = (test there.in_window).1 (inr there.marked) }) e),
    )

pub joined : (old second : Plane) (g h : Grid) (marks other new : List Bool) → plane g marks ≡ old
    → plane h other ≡ second → second.grid ≡ old.grid
    → length marks ≡ places g.i0 g.i1 * places g.j0 g.j1 → ((k : ℕ) → k < length marks → get_or new k false ≡ get_or marks k false || get_or other k false)
    → (n : Node) → Has (plane g new) n ↔ (Has old n ⊎ Has second n)
joined old second g h marks other new view view' grids full each n =
    let same : h ≡ g = ap (λ p. p.grid) view' ∙ grids ∙ sym (ap (λ p. p.grid) view) in
    let Q : Plane → Plane → Type 0 = λ a b. Has (plane g new) n ↔ (Has a n ⊎ Has b n) in
    let second_is : plane g other ≡ second = (λ k. plane (sym same k) other) ∙ view' in
    subst (λ a. Q a second) view (subst (λ b. Q (plane g marks) b) second_is (joined_marks g marks other new full each n))
