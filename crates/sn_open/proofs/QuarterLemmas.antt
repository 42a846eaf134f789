-- The four quarters about a node, and how far nodes of the window are apart.
use Rattle.std.proofs.Common.{ℕ, ◌≡◌, ◌-◌, ◌<◌, ◌≤◌, ◌↔◌, Bool, List, get_or, ℤ, pos, ◌+ℤ◌, ◌-ℤ◌, unsigned_abs, refl, sym, ap, ◌∙◌, subst, ⊎_elim, arith}
use Rattle.std.proofs.lemmas.Bool.{cases_lt}
use Rattle.std.proofs.lemmas.Int.{ints}
use Rattle.sn_raster.specs.Grid.{Grid, Node, IsInWindow}
use Rattle.sn_raster.specs.Plane.{Plane, Has, IsEmpty}
use Rattle.sn_open.specs.declared.spread.Direction.{Direction}
use Rattle.sn_open.specs.declared.spread.Direction.TheVariants.{Rising, Falling}
use Rattle.sn_open.specs.Window.{columns, rows, node_at, IsMarked}
use Rattle.sn_open.specs.Spread.{Quarter, quarter_of, place_in, node_by, IsTakenIn, IsCovered, Gains, HasAllTakenIn}
use Rattle.sn_open.proofs.WindowLemmas.{at_window, column_of, row_of, in_own_window}

apart_rising : (first : ℤ) (k' k : ℕ) → k' ≤ k → unsigned_abs ((first +ℤ pos k) -ℤ (first +ℤ pos k')) ≡ k - k'
apart_rising first k' k before = omega (arith, ints)

apart_falling : (first : ℤ) (n k' k : ℕ) → k < n → k' ≤ k → unsigned_abs ((first +ℤ pos (n - 1 - k)) -ℤ (first +ℤ pos (n - 1 - k'))) ≡ k - k'
apart_falling first n k' k inside before = omega (arith, ints)

-- how far two places in a direction are apart
pub apart : (direction : Direction) (first : ℤ) (n k' k : ℕ) → k < n → k' ≤ k
    → unsigned_abs ((first +ℤ pos (place_in direction n k)) -ℤ (first +ℤ pos (place_in direction n k'))) ≡ k - k'
apart Rising first n k' k inside before = apart_rising first k' k before
apart Falling first n k' k inside before = apart_falling first n k' k inside before

-- what is taken in is covered
pub covered_of_taken : (plane : Plane) (on : Bool) (quarter : Quarter) (widths : List ℕ) (column row : ℕ) → column < columns plane.grid → row < rows plane.grid
    → IsTakenIn plane on quarter widths column row → IsCovered plane on widths (node_by quarter plane.grid column row)
covered_of_taken plane on quarter widths column row c r (column', row', takes) =
    let across = apart quarter.columns plane.grid.i0 (columns plane.grid) column' column c takes.column_before in
    let along = apart quarter.rows plane.grid.j0 (rows plane.grid) row' row r takes.row_before in
    let near = takes.near in
    let before = takes.column_before in
    let width = ap (λ k. get_or widths k 0) along in
    (node_by quarter plane.grid column' row', record { marked = takes.marked; near = omega arith })

-- two places of an axis, in the direction from one to the other
record IsOrdered (direction : Direction) (n a b k' k : ℕ) : Type 0 where
  from : a ≡ place_in direction n k'
  to : b ≡ place_in direction n k
  ordered : k' ≤ k

abbrev HasOrder : ℕ → ℕ → ℕ → Type 0
HasOrder n a b = (direction : Direction) × (k' : ℕ) × (k : ℕ) × IsOrdered direction n a b k' k × (k < n)

order_of : (n a b : ℕ) → a < n → b < n → HasOrder n a b
order_of n a b first second =
    ⊎_elim (λ (falls : b < a). (Falling, n - 1 - a, n - 1 - b, record { from = omega arith; to = omega arith; ordered = omega arith }, omega arith))
    (λ (rises : a ≤ b). (Rising, a, b, record { from = refl; to = refl; ordered = rises }, second)) (cases_lt b a)

-- the node is the one in this column and row of the quarter, and a mark takes it in
pub record IsTakenAt (plane : Plane) (on : Bool) (quarter : Quarter) (widths : List ℕ) (n : Node) (column row : ℕ) : Type 0 where
  pub column_in : column < columns plane.grid
  pub row_in : row < rows plane.grid
  pub is : n ≡ node_by quarter plane.grid column row
  pub taken : IsTakenIn plane on quarter widths column row

-- A covered node of the window is taken in, in one of the quarters.

pub taken_of_covered : (plane : Plane) (on : Bool) (widths : List ℕ) (n : Node) → IsInWindow plane.grid n → IsCovered plane on widths n
    → (quarter : Quarter) × (column : ℕ) × (row : ℕ) × IsTakenAt plane on quarter widths n column row
taken_of_covered plane on widths n window (mark, covers) =
    let g = plane.grid in
    let at = at_window g n window in
    let at' = at_window g mark covers.marked.window in
    let (across, c', c, columns_order, c_in) = order_of (columns g) (column_of g mark) (column_of g n) at'.column_in at.column_in in
    let (along, r', r, rows_order, r_in) = order_of (rows g) (row_of g mark) (row_of g n) at'.row_in at.row_in in
    let quarter : Quarter = record { columns = across; rows = along } in
    let here : n ≡ node_by quarter g c r = at.is ∙ same_node g _ _ _ _ columns_order.to rows_order.to in
    let there : mark ≡ node_by quarter g c' r' = at'.is ∙ same_node g _ _ _ _ columns_order.from rows_order.from in
    let i_apart = apart across g.i0 (columns g) c' c c_in columns_order.ordered in
    let j_apart = apart along g.j0 (rows g) r' r r_in rows_order.ordered in
    let ordered = columns_order.ordered in
    let i_is : unsigned_abs (n.i -ℤ mark.i) ≡ c - c' = apart_of n.i mark.i _ _ (c - c') (ap (λ m. m.i) here) (ap (λ m. m.i) there) i_apart in
    let j_is : unsigned_abs (n.j -ℤ mark.j) ≡ r - r' = apart_of n.j mark.j _ _ (r - r') (ap (λ m. m.j) here) (ap (λ m. m.j) there) j_apart in
    let near : c - c' < get_or widths (r - r') 0 = near_at widths _ _ _ _ i_is j_is covers.near in (
      quarter,
      c,
      r,
      record {
        column_in = c_in;
        row_in = r_in;
        is = here;
        taken = (
          c',
          r',
          record {
            column_before = columns_order.ordered;
            row_before = rows_order.ordered;
            marked = subst (λ m. IsMarked plane on m) there covers.marked;
            near = omega arith;
          },
        );
      },
    )
  where
    same_node : (g : Grid) (c c' r r' : ℕ) → c ≡ c' → r ≡ r' → node_at g c r ≡ node_at g c' r'
    same_node g c c' r r' column row = λ k. record { i = g.i0 +ℤ pos (column k); j = g.j0 +ℤ pos (row k) }

    apart_of : (a b x y : ℤ) (k : ℕ) → a ≡ x → b ≡ y → unsigned_abs (x -ℤ y) ≡ k → unsigned_abs (a -ℤ b) ≡ k
    apart_of a b x y k e f h = rw (e, f) h

    near_at : (widths : List ℕ) (a b k m : ℕ) → a ≡ k → b ≡ m → a < get_or widths b 0 → k < get_or widths m 0
    near_at widths a b k m e f h = let w = ap (λ r. get_or widths r 0) f in omega arith

-- where all quarters are taken in, the plane has what is covered
all_quarters : (from : Plane) (on : Bool) (widths : List ℕ) (to : Plane)
    → HasAllTakenIn from on (quarter_of Rising Rising) widths to (rows from.grid) → HasAllTakenIn from on (quarter_of Falling Rising) widths to (rows from.grid)
    → HasAllTakenIn from on (quarter_of Rising Falling) widths to (rows from.grid) → HasAllTakenIn from on (quarter_of Falling Falling) widths to (rows from.grid)
    → (across along : Direction) → HasAllTakenIn from on (quarter_of across along) widths to (rows from.grid)
all_quarters from on widths to a b c d Rising Rising = a
all_quarters from on widths to a b c d Falling Rising = b
all_quarters from on widths to a b c d Rising Falling = c
all_quarters from on widths to a b c d Falling Falling = d

-- a plane that gained from none, and took all in
pub has_covered : (from : Plane) (on : Bool) (widths : List ℕ) (empty to : Plane) → IsEmpty empty → Gains from on widths empty to
    → HasAllTakenIn from on (quarter_of Rising Rising) widths to (rows from.grid) → HasAllTakenIn from on (quarter_of Falling Rising) widths to (rows from.grid)
    → HasAllTakenIn from on (quarter_of Rising Falling) widths to (rows from.grid) → HasAllTakenIn from on (quarter_of Falling Falling) widths to (rows from.grid)
    → (n : Node) → Has to n ↔ (IsInWindow from.grid n × IsCovered from on widths n)
has_covered from on widths empty to none gains a b c d n = (
  λ has. (
    in_own_window from.grid to.grid n (sym gains.grid) has.in_window,
    ⊎_elim (λ (before : Has empty n). absurd (none n before)) (λ (covered : IsCovered from on widths n). covered) (gains.gained n has),
  ),
  λ (window, covered).
      let (quarter, column, row, at) = taken_of_covered from on widths n window covered in
      subst (λ m. Has to m) (sym at.is) (all_quarters from on widths to a b c d quarter.columns quarter.rows row at.row_in column at.column_in at.taken),
)
