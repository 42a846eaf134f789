-- Planes that are put row by row.
use Rattle.std.proofs.Common.{ℕ, ◌≡◌, ◌+◌, ◌<◌, ◌≤◌, ◌↔◌, Bool, IsTrue, ℤ, pos, ◌+ℤ◌, sym, ap, subst, ⊎_elim, arith}
use Rattle.std.proofs.lemmas.Bool.{cases_lt}
use Rattle.std.proofs.lemmas.Int.{ints}
use Rattle.sn_raster.specs.Grid.{Grid, Node, Nodes, IsInWindow}
use Rattle.sn_raster.specs.Plane.{Plane, Has}
use Rattle.sn_open.specs.Window.{columns, rows, node_at}
use Rattle.sn_open.specs.Update.{IsRowPut, AreRowsPut, IsAlone}
use Rattle.sn_open.proofs.MorphologyLemmas.{has_or_lacks}
use Rattle.sn_open.proofs.WindowLemmas.{column_of, row_of, at_window, in_own_window}

-- nodes in other columns or rows are others
same_offset : (first : ℤ) (k m : ℕ) → first +ℤ pos k ≡ first +ℤ pos m → k ≡ m
same_offset first k m same = omega (arith, ints)

pub same_column : (g : Grid) (k m r s : ℕ) → node_at g k r ≡ node_at g m s → k ≡ m
same_column g k m r s same = same_offset g.i0 k m (ap (λ n. n.i) same)

pub same_row : (g : Grid) (k m r s : ℕ) → node_at g k r ≡ node_at g m s → r ≡ s
same_row g k m r s same = same_offset g.j0 r s (ap (λ n. n.j) same)

-- Rows.

pub no_column : (P : Nodes) (g : Grid) (row : ℕ) (plane : Plane) → plane.grid ≡ g → IsRowPut P g row plane plane 0
no_column P g row plane same = record { grid = same; done = λ k below. absurd (omega arith); rest = λ n others. ((λ has. has), (λ has. has)) }

pub one_column : (P : Nodes) (g : Grid) (row column : ℕ) (on : Bool) (old mid new : Plane) → IsRowPut P g row old mid column → new.grid ≡ g
    → (IsTrue on ↔ P (node_at g column row)) → (Has new (node_at g column row) ↔ IsTrue on)
    → ((n : Node) → ¬ (n ≡ node_at g column row) → Has new n ↔ Has mid n) → IsRowPut P g row old new (column + 1)
one_column P g row column on old mid new before same test here others = record {
  grid = same;
  done = λ k below.
      ⊎_elim
      (λ (earlier : k < column).
      let kept = others (node_at g k row) (λ e. let is = same_column g k column row row e in absurd (omega arith)) in
      let was = before.done k earlier in (λ has. was.0 (kept.0 has), λ p. kept.1 (was.1 p)))
      (λ (late : column ≤ k).
      let is : k ≡ column = omega arith in
      let now : Has new (node_at g column row) ↔ P (node_at g column row) = (λ has. test.0 (here.0 has), λ p. here.1 (test.1 p)) in
      subst (λ m. Has new (node_at g m row) ↔ P (node_at g m row)) (sym is) now) (cases_lt k column);
  rest = λ n off.
      let kept = others n (off column (omega arith)) in
      let was = before.rest n (λ k below. off k (omega arith)) in (λ has. was.0 (kept.0 has), λ has. kept.1 (was.1 has));
}

-- the node at which a row is going on is as it was
pub not_yet : (P : Nodes) (g : Grid) (row column : ℕ) (old mid : Plane) → IsRowPut P g row old mid column → Has mid (node_at g column row) ↔ Has old (node_at g column row)
not_yet P g row column old mid before = before.rest (node_at g column row) (λ k below e. let is = same_column g column k row row e in omega arith)

-- All rows.

pub no_row : (P : Nodes) (g : Grid) (plane : Plane) → plane.grid ≡ g → AreRowsPut P g plane plane 0
no_row P g plane same = record { grid = same; done = λ k r c below. absurd (omega arith); rest = λ k r c after r_in. ((λ has. has), (λ has. has)) }

pub one_row : (P Q : Nodes) (g : Grid) (row column : ℕ) (old mid new : Plane) → columns g ≤ column → row < rows g
    → ((k : ℕ) → k < columns g → Q (node_at g k row) ↔ P (node_at g k row))
    → AreRowsPut P g old mid row → IsRowPut Q g row mid new column → AreRowsPut P g old new (row + 1)
one_row P Q g row column old mid new end inside alike before here = record {
  grid = here.grid;
  done = λ k r c below.
      ⊎_elim
      (λ (earlier : r < row).
      let kept = here.rest (node_at g k r) (λ m m_in e. let is = same_row g k m r row e in absurd (omega arith)) in
      let was = before.done k r c earlier in (λ has. was.0 (kept.0 has), λ p. kept.1 (was.1 p)))
      (λ (late : row ≤ r).
      let is : r ≡ row = omega arith in
      let done = here.done k (omega arith) in
      let same = alike k c in
      let now : Has new (node_at g k row) ↔ P (node_at g k row) = (λ has. same.0 (done.0 has), λ p. done.1 (same.1 p)) in
      subst (λ m. Has new (node_at g k m) ↔ P (node_at g k m)) (sym is) now) (cases_lt r row);
  rest = λ k r c after r_in.
      let kept = here.rest (node_at g k r) (λ m m_in e. let is = same_row g k m r row e in absurd (omega arith)) in
      let was = before.rest k r c (omega arith) r_in in (λ has. was.0 (kept.0 has), λ has. kept.1 (was.1 has));
}

pub all_rows : (P : Nodes) (g : Grid) (row : ℕ) (old new : Plane) → rows g ≤ row → AreRowsPut P g old new row → (n : Node) → Has new n ↔ (IsInWindow g n × P n)
all_rows P g row old new end put n = (
  λ has.
      let window = in_own_window g new.grid n (sym put.grid) has.in_window in
      let at = at_window g n window in
      let row_in = at.row_in in
      (window, subst P (sym at.is) ((put.done _ _ at.column_in (omega arith)).0 (subst (λ m. Has new m) at.is has))),
  λ (window, p).
      let at = at_window g n window in
      let row_in = at.row_in in
      subst (λ m. Has new m) (sym at.is) ((put.done _ _ at.column_in (omega arith)).1 (subst P at.is p)),
)

pub whole_row : (P : Nodes) (g : Grid) (row column end : ℕ) (old new : Plane) → end ≡ columns g → column ≤ end → end ≤ column
    → IsRowPut P g row old new column → IsRowPut P g row old new (columns g)
whole_row P g row column end old new e below above put = let same : column ≡ columns g = omega arith in subst (λ k. IsRowPut P g row old new k) same put

-- in the window of an equal grid
pub of_grid : (P : Nodes) (new : Plane) (g h : Grid) → g ≡ h → ((n : Node) → Has new n ↔ (IsInWindow g n × P n)) → (n : Node) → Has new n ↔ (IsInWindow h n × P n)
of_grid P new g h same nodes = subst (λ k. (n : Node) → Has new n ↔ (IsInWindow k n × P n)) same nodes

-- where no node of a row before the end is alone, none is
pub none_alone : (plane other : Plane) (g : Grid) (end row : ℕ) → g ≡ plane.grid → other.grid ≡ plane.grid → end ≡ rows g → end ≤ row
    → ((k r : ℕ) → k < columns g → r < row → ¬ IsAlone plane other (node_at g k r)) → (n : Node) → Has plane n → Has other n
none_alone plane other g end row same same' e past none n has =
    let window = in_own_window g plane.grid n same has.in_window in
    let at = at_window g n window in
    let row_in = at.row_in in
    ⊎_elim (λ (there : Has other n). there)
    (λ (lacks : ¬ Has other n).
    absurd (none (column_of g n) (row_of g n) at.column_in (omega arith) (subst (λ m. Has plane m) at.is has, λ there. lacks (subst (λ m. Has other m) (sym at.is) there))))
    (has_or_lacks other n (in_own_window other.grid plane.grid n same' has.in_window))
