-- The window by columns and rows.
use Rattle.std.proofs.Common.{ℕ, ◌≡◌, ◌<◌, ◌↔◌, ℤ, pos, ◌+ℤ◌, ◌-ℤ◌, ◌≤ℤ◌, unsigned_abs, refl, sym, ap, ◌∙◌, subst, inl, inr, Bool, true, false, IsTrue, negsuc, w32, Fits, to_z, of_z, ◌≤◌, ◌*ℤ◌, ◌+◌, ◌*◌, List, [], ◌∷◌, ◌++◌, length, get_or, arith}
use lib.Signed.{mag}
use Rattle.sn_geom.specs.declared.limits.TheConstants.{REACH}
use Rattle.sn_geom.specs.Length.{IsLength}
use Rattle.std.proofs.lemmas.Int.{ints, clamps, to_z-of_z}
use Rattle.std.proofs.lemmas.List.{length_push, get_or_push, get_or_append_left}
use Rattle.std.proofs.lemmas.Bool.{false≢true, cases_lt}
use Rattle.sn_raster.specs.Grid.{Grid, Node, IsGrid, IsInWindow, places}
use Rattle.sn_raster.specs.Plane.{Plane, Has, mark_of}
use Rattle.sn_clear.specs.Window.{columns, rows, node_at, AreMarks}

place_low : (first last : ℤ) (k : ℕ) → k < places first last → first ≤ℤ (first +ℤ pos k)
place_low first last k h = omega (arith, ints)

place_high : (first last : ℤ) (k : ℕ) → k < places first last → (first +ℤ pos k) ≤ℤ last
place_high first last k h = omega (arith, ints, clamps)

-- a column and a row of the window are those of a node of it
pub in_window_at : (g : Grid) (column row : ℕ) → column < columns g → row < rows g → IsInWindow g (node_at g column row)
in_window_at g column row c r = record {
  left = place_low g.i0 g.i1 column c;
  right = place_high g.i0 g.i1 column c;
  front = place_low g.j0 g.j1 row r;
  back = place_high g.j0 g.j1 row r;
}

which : (first last z : ℤ) → first ≤ℤ z → z ≤ℤ last → unsigned_abs (z -ℤ first) < places first last
which first last z low high = omega (arith, ints, clamps)

back : (first z : ℤ) → first ≤ℤ z → z ≡ first +ℤ pos (unsigned_abs (z -ℤ first))
back first z low = omega (arith, ints)

-- a node of the window, by its column and row
pub record IsAt (g : Grid) (n : Node) (column row : ℕ) : Type 0 where
  pub column_in : column < columns g
  pub row_in : row < rows g
  pub is : n ≡ node_at g column row

pub column_of : Grid → Node → ℕ
column_of g n = unsigned_abs (n.i -ℤ g.i0)

pub row_of : Grid → Node → ℕ
row_of g n = unsigned_abs (n.j -ℤ g.j0)

pub at_window : (g : Grid) (n : Node) → IsInWindow g n → IsAt g n (column_of g n) (row_of g n)
unfolding column_of row_of
at_window g n window = record {
  column_in = which g.i0 g.i1 n.i window.left window.right;
  row_in = which g.j0 g.j1 n.j window.front window.back;
  is = λ k. record { i = back g.i0 n.i window.left k; j = back g.j0 n.j window.front k };
}

abbrev pub node : ℤ → ℤ → Node
node i j = record { i = i; j = j }

pub same_place : (i i' j j' : ℤ) → i ≡ i' → j ≡ j' → node i j ≡ node i' j'
same_place i i' j j' column row = λ k. record { i = column k; j = row k }

-- Places that were passed on.

pub small : (z : ℤ) → mag z < 2147483648 → to_z w32 (of_z w32 z) ≡ z
small (pos n) h = to_z-of_z w32 (pos n) (record { sfits = omega arith })
small (negsuc n) h = to_z-of_z w32 (negsuc n) (record { sfits = omega arith })

pub kept : (z : ℤ) → IsLength z → to_z w32 (of_z w32 z) ≡ z
kept (pos n) length = to_z-of_z w32 (pos n) (record { sfits = omega (arith, length) })
kept (negsuc n) length = to_z-of_z w32 (negsuc n) (record { sfits = omega (arith, length) })

pub passed_place : (first inside place : ℤ) (k : ℕ) → inside ≡ first → IsLength first → mag place < 2147483648 → place ≡ to_z w32 (of_z w32 inside) +ℤ pos k
    → to_z w32 (of_z w32 place) ≡ first +ℤ pos k
passed_place first inside place k same length fit is =
    small place fit ∙ is ∙ ap (λ z. z +ℤ pos k) (ap (λ z. to_z w32 (of_z w32 z)) same ∙ kept first length)

-- a node by its passed places
pub passed_node : (g : Grid) (i0 j0 i j : ℤ) (column row : ℕ) → IsGrid g → i0 ≡ g.i0 → j0 ≡ g.j0 → mag i < 2147483648 → mag j < 2147483648
    → i ≡ to_z w32 (of_z w32 i0) +ℤ pos column → j ≡ to_z w32 (of_z w32 j0) +ℤ pos row
    → node (to_z w32 (of_z w32 i)) (to_z w32 (of_z w32 j)) ≡ node_at g column row
passed_node g i0 j0 i j column row rule first_column first_row fit_i fit_j is_i is_j =
    same_place _ _ _ _ (passed_place g.i0 i0 i column first_column rule.ends.columns.0 fit_i is_i) (passed_place g.j0 j0 j row first_row rule.ends.rows.0 fit_j is_j)

pub in_own_window : (g h : Grid) (n : Node) → g ≡ h → IsInWindow h n → IsInWindow g n
in_own_window g h n same window = let P : Grid → Type 0 = λ grid. IsInWindow grid n in subst P (sym same) window

-- what holds of a node holds of the one that it is
pub of_node : (P : Node → Type 0) (n m : Node) → n ≡ m → P m → P n
of_node P n m is p = subst P (sym is) p

-- Marks.

place_after : (first : ℤ) (k : ℕ) → unsigned_abs (first +ℤ pos k -ℤ first) ≡ k
place_after first k = omega (arith, ints)

-- the number of a node's mark
pub mark_number : (g : Grid) (column row : ℕ) → mark_of g (node_at g column row) ≡ row * columns g + column
mark_number g column row = rw (place_after g.j0 row, place_after g.i0 column) refl

same_test : (x y : Bool) → (IsTrue x ↔ IsTrue y) → x ≡ y
same_test true true both = refl
same_test true false both = absurd (false≢true (both.0 refl))
same_test false true both = absurd (false≢true (both.1 refl))
same_test false false both = refl

pub has_mark : (p : Plane) (g : Grid) (column row : ℕ) → p.grid ≡ g → column < columns g → row < rows g
    → Has p (node_at g column row) ↔ IsTrue (get_or p.marks (row * columns g + column) false)
has_mark p g column row same c r =
    let P : ℕ → Type 0 = λ m. IsTrue (get_or p.marks m false) in
    let number : mark_of p.grid (node_at g column row) ≡ row * columns g + column =
    ap (λ h. mark_of h (node_at g column row)) same ∙ mark_number g column row in (
      (λ has. subst P number has.marked),
      (λ marked. record { in_window = in_own_window p.grid g (node_at g column row) same (in_window_at g column row c r); marked = subst P (sym number) marked }),
    )

pub mark_is : (p : Plane) (g : Grid) (column row : ℕ) (on : Bool) → p.grid ≡ g → column < columns g → row < rows g
    → (IsTrue on ↔ Has p (node_at g column row)) → on ≡ get_or p.marks (row * columns g + column) false
mark_is p g column row on same c r told =
    let both = has_mark p g column row same c r in
    same_test on _ ((λ t. both.0 (told.0 t)), (λ t. told.1 (both.1 t)))

pub no_marks : (p : Plane) (marks : List Bool) → marks ≡ [] → AreMarks p 0 marks
no_marks p marks is = record { full = ap length is; same = λ k below. absurd (omega (arith, below)) }

pub mark_pushed : (p : Plane) (count : ℕ) (on : Bool) (old new : List Bool) → AreMarks p count old → on ≡ get_or p.marks count false
    → new ≡ old ++ on ∷ [] → AreMarks p (count + 1) new
mark_pushed p count on old new so_far is more = record {
  full = ap length more ∙ length_push old on ∙ ap (λ n. n + 1) so_far.full;
  same = λ k below.
      elim (cases_lt k count) [
        | inl before ↦
            ap (λ xs. get_or xs k false) more ∙ get_or_append_left old (on ∷ []) false k (omega (arith, before, so_far.full)) ∙ so_far.same k before
        | inr last ↦
            let here : k ≡ count = omega (arith, last, below) in
            ap (λ xs. get_or xs k false) more ∙ get_or_push old on false k (so_far.full ∙ sym here) ∙ is ∙ ap (λ n. get_or p.marks n false) (sym here)
      ];
}

pub as_many : (p : Plane) (m n : ℕ) (marks : List Bool) → m ≡ n → AreMarks p m marks → AreMarks p n marks
as_many p m n marks same are = let P : ℕ → Type 0 = λ k. AreMarks p k marks in subst P same are

pub passed_length : (k k' : ℤ) (pitch pitch' : ℕ) → k' ≡ k → pitch' ≡ pitch → IsLength (k *ℤ pos pitch) → IsLength (k' *ℤ pos pitch')
passed_length k k' pitch pitch' e f h = rw (e, f) h

-- an axis has not many places
pub few_places : (first last : ℤ) → IsLength first → IsLength last → places first last ≤ 2 * REACH + 1
few_places first last low high = omega (arith, ints, clamps)

pub fits_place : (first last : ℤ) (k : ℕ) → IsLength first → IsLength last → k < places first last → Fits w32 k
fits_place first last k low high below = let few = few_places first last low high in record { fits = omega (arith, few, below) }
