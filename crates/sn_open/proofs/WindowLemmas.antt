-- The window by columns and rows.
use Rattle.std.proofs.Common.{ℕ, ◌≡◌, ◌*◌, ◌<◌, ◌≤◌, ◌↔◌, ℤ, pos, ◌+ℤ◌, ◌-ℤ◌, ◌*ℤ◌, ◌≤ℤ◌, unsigned_abs, refl, sym, ap, ◌∙◌, subst, ◌⊎◌, inl, inr, Bool, true, IsTrue, negsuc, w32, to_z, of_z, ⊎_elim, arith}
use lib.Signed.{mag}
use Rattle.sn_geom.specs.declared.limits.TheConstants.{REACH}
use Rattle.sn_geom.proofs.Ring.{sums}
use Rattle.sn_geom.specs.Length.{IsLength}
use Rattle.std.proofs.lemmas.Int.{ints, clamps, by_lt_z, to_z-of_z}
use Rattle.sn_raster.specs.Grid.{Grid, Node, IsGrid, IsInWindow, IsInRaw, places}
use Rattle.sn_raster.specs.Plane.{Plane, Has}
use Rattle.sn_open.specs.Window.{columns, rows, node_at}

pub place_low : (first last : ℤ) (k : ℕ) → k < places first last → first ≤ℤ (first +ℤ pos k)
place_low first last k h = omega (arith, ints)

pub place_high : (first last : ℤ) (k : ℕ) → k < places first last → (first +ℤ pos k) ≤ℤ last
place_high first last k h = omega (arith, ints, clamps)

-- a column and a row of the window are those of a node of it
pub in_window_at : (g : Grid) (column row : ℕ) → column < columns g → row < rows g → IsInWindow g (node_at g column row)
in_window_at g column row c r = record {
  left = place_low g.i0 g.i1 column c;
  right = place_high g.i0 g.i1 column c;
  front = place_low g.j0 g.j1 row r;
  back = place_high g.j0 g.j1 row r;
}

which : (first last z : ℤ) → first ≤ℤ z → z ≤ℤ last → unsigned_abs (z -ℤ first) < places first last
which first last z low high = omega (arith, ints, clamps)

back : (first z : ℤ) → first ≤ℤ z → z ≡ first +ℤ pos (unsigned_abs (z -ℤ first))
back first z low = omega (arith, ints)

-- a node of the window, by its column and row
pub record IsAt (g : Grid) (n : Node) (column row : ℕ) : Type 0 where
  pub column_in : column < columns g
  pub row_in : row < rows g
  pub is : n ≡ node_at g column row

pub column_of : Grid → Node → ℕ
column_of g n = unsigned_abs (n.i -ℤ g.i0)

pub row_of : Grid → Node → ℕ
row_of g n = unsigned_abs (n.j -ℤ g.j0)

pub at_window : (g : Grid) (n : Node) → IsInWindow g n → IsAt g n (column_of g n) (row_of g n)
unfolding column_of row_of
at_window g n window = record {
  column_in = which g.i0 g.i1 n.i window.left window.right;
  row_in = which g.j0 g.j1 n.j window.front window.back;
  is = λ k. record { i = back g.i0 n.i window.left k; j = back g.j0 n.j window.front k };
}

abbrev pub node : ℤ → ℤ → Node
node i j = record { i = i; j = j }

pub same_place : (i i' j j' : ℤ) → i ≡ i' → j ≡ j' → node i j ≡ node i' j'
same_place i i' j j' column row = λ k. record { i = column k; j = row k }

-- Places that were passed on.

pub small : (z : ℤ) → mag z < 2147483648 → to_z w32 (of_z w32 z) ≡ z
small (pos n) h = to_z-of_z w32 (pos n) (record { sfits = omega arith })
small (negsuc n) h = to_z-of_z w32 (negsuc n) (record { sfits = omega arith })

pub kept : (z : ℤ) → IsLength z → to_z w32 (of_z w32 z) ≡ z
kept (pos n) length = to_z-of_z w32 (pos n) (record { sfits = omega (arith, length) })
kept (negsuc n) length = to_z-of_z w32 (negsuc n) (record { sfits = omega (arith, length) })

pub passed_place : (first inside place : ℤ) (k : ℕ) → inside ≡ first → IsLength first → mag place < 2147483648 → place ≡ to_z w32 (of_z w32 inside) +ℤ pos k
    → to_z w32 (of_z w32 place) ≡ first +ℤ pos k
passed_place first inside place k same length fit is =
    small place fit ∙ is ∙ ap (λ z. z +ℤ pos k) (ap (λ z. to_z w32 (of_z w32 z)) same ∙ kept first length)

-- a node by its passed places
pub passed_node : (g : Grid) (i0 j0 i j : ℤ) (column row : ℕ) → IsGrid g → i0 ≡ g.i0 → j0 ≡ g.j0 → mag i < 2147483648 → mag j < 2147483648
    → i ≡ to_z w32 (of_z w32 i0) +ℤ pos column → j ≡ to_z w32 (of_z w32 j0) +ℤ pos row
    → node (to_z w32 (of_z w32 i)) (to_z w32 (of_z w32 j)) ≡ node_at g column row
passed_node g i0 j0 i j column row rule first_column first_row fit_i fit_j is_i is_j =
    same_place _ _ _ _ (passed_place g.i0 i0 i column first_column rule.ends.columns.0 fit_i is_i) (passed_place g.j0 j0 j row first_row rule.ends.rows.0 fit_j is_j)

pub in_own_window : (g h : Grid) (n : Node) → g ≡ h → IsInWindow h n → IsInWindow g n
in_own_window g h n same window = let P : Grid → Type 0 = λ grid. IsInWindow grid n in subst P (sym same) window

-- what holds of a node holds of the one that it is
pub of_node : (P : Node → Type 0) (n m : Node) → n ≡ m → P m → P n
of_node P n m is p = subst P (sym is) p

-- Nodes are one or others.

pub same_number_or_other : (a b : ℤ) → (a ≡ b) ⊎ (¬ a ≡ b)
same_number_or_other a b =
    by_lt_z a b (λ less. inr (λ same. absurd (omega (arith, ints)))) (λ above. by_lt_z b a (λ more. inr (λ same. absurd (omega (arith, ints)))) (λ below. inl (omega (arith, ints))))

pub same_or_other : (n m : Node) → (n ≡ m) ⊎ (¬ n ≡ m)
same_or_other n m =
    ⊎_elim
    (λ (column : n.i ≡ m.i). ⊎_elim (λ (row : n.j ≡ m.j). inl (same_place n.i m.i n.j m.j column row)) (λ (other : ¬ n.j ≡ m.j). inr (λ same. other (ap (λ k. k.j) same))) (same_number_or_other n.j m.j))
    (λ (other : ¬ n.i ≡ m.i). inr (λ same. other (ap (λ k. k.i) same))) (same_number_or_other n.i m.i)

-- a node that was put in, and the others
pub put_in : (old new : Plane) (m m' : Node) → m' ≡ m → (Has new m' ↔ IsTrue true) → ((n : Node) → ¬ n ≡ m' → Has new n ↔ Has old n)
    → (n : Node) → Has new n ↔ (Has old n ⊎ (n ≡ m))
put_in old new m m' same here others n =
    let added : n ≡ m → Has new n = λ is. subst (λ k. Has new k) (same ∙ sym is) (here.1 refl) in (
      λ has. ⊎_elim (λ (is : n ≡ m'). inr (is ∙ same)) (λ (other : ¬ n ≡ m'). inl ((others n other).0 has)) (same_or_other n m'),
      λ either.
          ⊎_elim (λ (before : Has old n). ⊎_elim (λ (is : n ≡ m'). added (is ∙ same)) (λ (other : ¬ n ≡ m'). (others n other).1 before) (same_or_other n m'))
          (λ (is : n ≡ m). added is) either,
    )

-- a passed place, between others
pub between_passed : (first last from place : ℤ) (first' last' from' place' : ℤ) (k : ℕ) → first' ≡ first → last' ≡ last → from' ≡ from → place' ≡ place → place ≡ from' +ℤ pos k
    → (((first ≤ℤ (from +ℤ pos k)) × ((from +ℤ pos k) ≤ℤ last)) → (first' ≤ℤ place') × (place' ≤ℤ last'))
    × ((first' ≤ℤ place') × (place' ≤ℤ last') → ((first ≤ℤ (from +ℤ pos k)) × ((from +ℤ pos k) ≤ℤ last)))
between_passed first last from place first' last' from' place' k a b c d e = (
  (λ h. (omega (arith, sums, h.0, h.1), omega (arith, sums, h.0, h.1))),
  (λ h. (omega (arith, sums, h.0, h.1), omega (arith, sums, h.0, h.1))),
)

pub place_within : (first last : ℤ) (k : ℕ) → IsLength first → IsLength last → k < places first last → k ≤ 2 * REACH
place_within first last k low high below = omega (arith, ints, clamps)

-- whether a node is a raw one, by its places
abbrev pub IsFromTo : ℤ → ℤ → ℕ → ℤ → Type 0
IsFromTo first from k last = (first ≤ℤ (from +ℤ pos k)) × ((from +ℤ pos k) ≤ℤ last)

pub raw_test : (g : Grid) (column row : ℕ) (ri0 i0 ri1 rj0 j0 rj1 : ℤ) (across along : Bool)
    → ri0 ≡ g.ri0 → i0 ≡ g.i0 → ri1 ≡ g.ri1 → rj0 ≡ g.rj0 → j0 ≡ g.j0 → rj1 ≡ g.rj1
    → IsTrue across ↔ IsFromTo ri0 i0 column ri1 → IsTrue along ↔ IsFromTo rj0 j0 row rj1 → across ≡ true → IsTrue along ↔ IsInRaw g (node_at g column row)
raw_test g column row ri0 i0 ri1 rj0 j0 rj1 across along a b c d e f first second yes_across =
    let columns_in = first.0 yes_across in (
      λ t. let rows_in = second.0 t in record {
        left = omega (arith, sums, columns_in.0);
        right = omega (arith, sums, columns_in.1);
        front = omega (arith, sums, rows_in.0);
        back = omega (arith, sums, rows_in.1);
      },
      λ raw. let front = raw.front in let back_in = raw.back in second.1 (omega (arith, sums), omega (arith, sums)),
    )

pub passed_coordinate : (first first' : ℤ) (k pitch pitch' : ℕ) → first' ≡ first → pitch' ≡ pitch → IsLength ((first +ℤ pos k) *ℤ pos pitch) → IsLength ((first' +ℤ pos k) *ℤ pos pitch')
passed_coordinate first first' k pitch pitch' same scale length = rw (same, scale) length
