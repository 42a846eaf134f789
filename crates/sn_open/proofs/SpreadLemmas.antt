-- How marks spread over the rows.
use Rattle.std.proofs.Common.{ℕ, ◌≡◌, ◌+◌, ◌-◌, ◌<◌, ◌≤◌, ◌↔◌, ◌⊎◌, inl, inr, max, refl, Bool, true, false, IsTrue, List, length, replicate, get_or, set, sym, ap, ◌∙◌, subst, ⊎_elim, get_or-set_same, get_or-set_other, arith}
use Rattle.std.proofs.lemmas.List.{length-set, length-replicate, get_or-replicate}
use Rattle.std.proofs.lemmas.Bool.{cases_lt, false≢true}
use Rattle.sn_raster.specs.Grid.{Grid, Node}
use Rattle.sn_raster.specs.Plane.{Plane, Has}
use Rattle.sn_open.specs.declared.spread.Direction.{Direction}
use Rattle.sn_open.specs.declared.spread.Direction.TheVariants.{Rising, Falling}
use Rattle.sn_open.specs.Window.{columns, rows, node_at, IsMarked}
use Rattle.sn_open.specs.Spread.{place_in, node_along, node_by, quarter_of, AreHalfWidths, IsGap, AreGaps, ArePassing, IsTakenIn, width_in, IsReach, IsInReach, GainsInRow, Gains, IsCovered, HasTakenIn}
use Rattle.sn_open.proofs.QuarterLemmas.{covered_of_taken}

pub one_more : (P : ℕ → Type 0) (n : ℕ) → ((k : ℕ) → k < n → P k) → P n → (k : ℕ) → k < n + 1 → P k
one_more P n before here k below =
    ⊎_elim (λ (earlier : k < n). before k earlier) (λ (late : n ≤ k). let same : k ≡ n = omega arith in subst P (sym same) here) (cases_lt k n)

pub none_yet : (P : ℕ → Type 0) (k : ℕ) → k < 0 → P k
none_yet P k below = absurd (omega arith)

-- Gaps.

-- the gap after one more row
pub gap_next : (plane : Plane) (on marked : Bool) (along : Direction) (column r gap next : ℕ) → (IsTrue marked ↔ IsMarked plane on (node_along along plane.grid column r))
    → IsGap plane on along column r gap → (IsTrue marked → next ≡ 0) → next ≤ gap + 1 → (¬ IsTrue marked → next < rows plane.grid → next ≡ gap + 1) → next ≤ rows plane.grid
    → IsGap plane on along column (r + 1) next
gap_next plane on true along column r gap next reads is zero most exact few =
    let none = zero refl in
    record { least = λ row below m. omega arith; found = λ some. (r, reads.0 refl, omega arith); few = few }
gap_next plane on false along column r gap next reads is zero most exact few = record {
  least = λ row below m.
      ⊎_elim (λ (earlier : row < r). let h = is.least row earlier m in omega arith)
      (λ (late : r ≤ row).
      let same : row ≡ r = omega arith in absurd (false≢true (reads.1 (subst (λ k. IsMarked plane on (node_along along plane.grid column k)) same m)))) (cases_lt row r);
  found = λ some.
      let e = exact false≢true some in
      let (row, m, there) = is.found (omega arith) in (row, m, omega arith);
  few = few;
}

gap_at : (plane : Plane) (on : Bool) (along : Direction) (column r : ℕ) (gap gap' : ℕ) → gap ≡ gap' → IsGap plane on along column r gap → IsGap plane on along column r gap'
gap_at plane on along column r gap gap' same is = subst (λ k. IsGap plane on along column r k) same is

-- the gaps after one more column was passed
pub passed_one : (plane : Plane) (on : Bool) (along : Direction) (r column gap : ℕ) (gaps : List ℕ) → column < columns plane.grid
    → IsGap plane on along column (r + 1) gap → ArePassing plane on along r column gaps → ArePassing plane on along r (column + 1) (set gaps column gap)
passed_one plane on along r column gap gaps inside is passing = record {
  full = length-set gaps column gap ∙ passing.full;
  passed = λ k below.
      ⊎_elim
      (λ (earlier : k < column). gap_at plane on along k (r + 1) _ _ (sym (get_or-set_other gaps column k gap 0 (omega arith))) (passing.passed k earlier))
      (λ (late : column ≤ k).
      let same : k ≡ column = omega arith in
      let here : get_or (set gaps column gap) k 0 ≡ gap = ap (λ m. get_or (set gaps column gap) m 0) same ∙ get_or-set_same gaps column gap 0 (rw passing.full inside) in
      gap_at plane on along k (r + 1) _ _ (sym here) (subst (λ m. IsGap plane on along m (r + 1) gap) (sym same) is)) (cases_lt k column);
  ahead = λ k after within. gap_at plane on along k r _ _ (sym (get_or-set_other gaps column k gap 0 (omega arith))) (passing.ahead k (omega arith) within);
}

pub none_passed : (plane : Plane) (on : Bool) (along : Direction) (r : ℕ) (gaps : List ℕ) → AreGaps plane on along r gaps → ArePassing plane on along r 0 gaps
none_passed plane on along r gaps are = record { full = are.full; passed = λ k below. absurd (omega arith); ahead = λ k after within. are.each k within }

pub all_passed : (plane : Plane) (on : Bool) (along : Direction) (r column : ℕ) (gaps : List ℕ) → columns plane.grid ≤ column
    → ArePassing plane on along r column gaps → AreGaps plane on along (r + 1) gaps
all_passed plane on along r column gaps end passing = record { full = passing.full; each = λ k within. passing.passed k (omega arith) }

-- no row is passed yet: each gap is the count of all rows
pub no_rows : (plane : Plane) (on : Bool) (along : Direction) (n : ℕ) (gaps : List ℕ) → gaps ≡ replicate (columns plane.grid) n → n ≡ rows plane.grid
    → AreGaps plane on along 0 gaps
no_rows plane on along n gaps e all = record {
  full = ap length e ∙ length-replicate (columns plane.grid) n;
  each = λ column within.
      let is : n ≡ get_or gaps column 0 = sym (ap (λ xs. get_or xs column 0) e ∙ get_or-replicate (columns plane.grid) column n 0 within) in
      record { least = λ row below. absurd (omega arith); found = λ some. absurd (omega arith); few = omega arith };
}

-- Reach.

pub reach_one : (widths gaps : List ℕ) (across : Direction) (n column reach next : ℕ) → IsReach widths gaps across n column reach
    → next ≡ max reach (column + width_in widths gaps across n column) → IsReach widths gaps across n (column + 1) next
reach_one widths gaps across n column reach next is e = record {
  most = λ k below.
      ⊎_elim (λ (earlier : k < column). let h = is.most k earlier in omega arith)
      (λ (late : column ≤ k). let same : k ≡ column = omega arith in let w = ap (λ m. width_in widths gaps across n m) same in omega arith) (cases_lt k column);
  found = λ some.
      ⊎_elim (λ (less : column + width_in widths gaps across n column < reach). let (k, below, e') = is.found (omega arith) in (k, omega arith, omega arith))
      (λ (more : reach ≤ column + width_in widths gaps across n column). (column, omega arith, omega arith)) (cases_lt (column + width_in widths gaps across n column) reach);
}

-- the same with the place of the column computed
pub reach_by : (widths gaps : List ℕ) (across : Direction) (n column place reach next : ℕ) → place ≡ place_in across n column → IsReach widths gaps across n column reach
    → next ≡ max reach (column + get_or widths (get_or gaps place 0) 0) → IsReach widths gaps across n (column + 1) next
reach_by widths gaps across n column place reach next at is e =
    let w = ap (λ k. get_or widths (get_or gaps k 0) 0) at in reach_one widths gaps across n column reach next is (omega arith)

-- a column is reached exactly where the reach goes beyond it
pub reached_by : (widths gaps : List ℕ) (across : Direction) (n column reach : ℕ) → IsReach widths gaps across n (column + 1) reach → column < reach
    → IsInReach widths gaps across n column
reached_by widths gaps across n column reach is beyond = let (k, below, e) = is.found (omega arith) in (k, omega arith, omega arith)

pub beyond_reached : (widths gaps : List ℕ) (across : Direction) (n column reach : ℕ) → IsReach widths gaps across n (column + 1) reach → IsInReach widths gaps across n column
    → column < reach
beyond_reached widths gaps across n column reach is (k, before, near) = let most = is.most k (omega arith) in omega arith

-- the gains of a row after one more column

pub gains_reached : (widths gaps : List ℕ) (across : Direction) (g : Grid) (row column : ℕ) (m : Node) (old mid new : Plane) → new.grid ≡ g → column < columns g
    → GainsInRow widths gaps across g row column old mid → IsInReach widths gaps across (columns g) column → m ≡ node_at g (place_in across (columns g) column) row
    → ((n : Node) → Has new n ↔ (Has mid n ⊎ (n ≡ m))) → GainsInRow widths gaps across g row (column + 1) old new
gains_reached widths gaps across g row column m old mid new same inside gains reached is nodes = record {
  grid = same;
  kept = λ n has. (nodes n).1 (inl (gains.kept n has));
  gained = λ n has. ⊎_elim (λ (before : Has mid n). gains.gained n before) (λ (here : n ≡ m). inr (column, inside, reached, here ∙ is)) ((nodes n).0 has);
  taken = one_more (λ k. IsInReach widths gaps across (columns g) k → Has new (node_at g (place_in across (columns g) k) row)) column
      (λ k below far. (nodes _).1 (inl (gains.taken k below far))) (λ far. (nodes _).1 (inr (sym is)));
}

pub gains_unreached : (widths gaps : List ℕ) (across : Direction) (g : Grid) (row column : ℕ) (old new : Plane)
    → GainsInRow widths gaps across g row column old new → ¬ IsInReach widths gaps across (columns g) column → GainsInRow widths gaps across g row (column + 1) old new
gains_unreached widths gaps across g row column old new gains unreached = record {
  grid = gains.grid;
  kept = gains.kept;
  gained = gains.gained;
  taken = one_more (λ k. IsInReach widths gaps across (columns g) k → Has new (node_at g (place_in across (columns g) k) row)) column gains.taken
      (λ far. absurd (unreached far));
}

pub place_inside : (direction : Direction) (n k : ℕ) → k < n → place_in direction n k < n
place_inside Rising n k inside = inside
place_inside Falling n k inside = omega arith

-- a computed place
pub place_by : (direction : Direction) (n m k c : ℕ) → m ≡ n → c ≡ place_in direction m k → c ≡ place_in direction n k
place_by direction n m k c count is = is ∙ ap (λ l. place_in direction l k) count

-- a node is taken in exactly where it is reached

pub taken_of_reached : (plane : Plane) (on : Bool) (across along : Direction) (widths gaps : List ℕ) (r column : ℕ) → column < columns plane.grid
    → AreHalfWidths (rows plane.grid) widths → AreGaps plane on along (r + 1) gaps → IsInReach widths gaps across (columns plane.grid) column
    → IsTakenIn plane on (quarter_of across along) widths column r
taken_of_reached plane on across along widths gaps r column inside half are (k, before, near) =
    let place = place_in across (columns plane.grid) k in
    let gap = get_or gaps place 0 in
    let here = are.each place (place_inside across (columns plane.grid) k (omega arith)) in
    ⊎_elim
    (λ (some : gap < rows plane.grid).
    let (row, marked, there) = here.found some in
    let apart : r - row ≡ gap = omega arith in
    (k, row, record { column_before = before; row_before = omega arith; marked = marked; near = let w = ap (λ g. get_or widths g 0) apart in omega arith }))
    (λ (none : rows plane.grid ≤ gap).
    let few = here.few in
    let same : gap ≡ rows plane.grid = omega arith in
    let no_width : get_or widths gap 0 ≡ 0 = ap (λ g. get_or widths g 0) same ∙ half.last in absurd (omega arith)) (cases_lt gap (rows plane.grid))

pub reached_of_taken : (plane : Plane) (on : Bool) (across along : Direction) (widths gaps : List ℕ) (r column : ℕ) → column < columns plane.grid → r < rows plane.grid
    → AreHalfWidths (rows plane.grid) widths → AreGaps plane on along (r + 1) gaps → IsTakenIn plane on (quarter_of across along) widths column r
    → IsInReach widths gaps across (columns plane.grid) column
reached_of_taken plane on across along widths gaps r column inside row_in half are (k, row, takes) =
    let column_before = takes.column_before in
    let row_before = takes.row_before in
    let near = takes.near in
    let place = place_in across (columns plane.grid) k in
    let gap = (are.each place (place_inside across (columns plane.grid) k (omega arith))).least row (omega arith) takes.marked in
    let wide = half.fall (get_or gaps place 0) (r - row) (omega arith) (omega arith) in
    (k, column_before, omega arith)

-- Gains.

pub no_gains : (from : Plane) (on : Bool) (widths : List ℕ) (plane : Plane) → plane.grid ≡ from.grid → Gains from on widths plane plane
no_gains from on widths plane same = record { grid = same; kept = λ n has. has; gained = λ n has. inl has }

pub more_gains : (from : Plane) (on : Bool) (widths : List ℕ) (old mid new : Plane) → Gains from on widths old mid → Gains from on widths mid new → Gains from on widths old new
more_gains from on widths old mid new first second = record {
  grid = second.grid;
  kept = λ n has. second.kept n (first.kept n has);
  gained = λ n has. ⊎_elim (λ (before : Has mid n). first.gained n before) (λ (covered : IsCovered from on widths n). inr covered) (second.gained n has);
}

-- what a row gains is covered
pub gains_of_row : (plane : Plane) (on : Bool) (across along : Direction) (widths gaps : List ℕ) (r : ℕ) (old new : Plane) → r < rows plane.grid
    → AreHalfWidths (rows plane.grid) widths → AreGaps plane on along (r + 1) gaps
    → GainsInRow widths gaps across plane.grid (place_in along (rows plane.grid) r) (columns plane.grid) old new → Gains plane on widths old new
gains_of_row plane on across along widths gaps r old new row_in half are gains = record {
  grid = gains.grid;
  kept = gains.kept;
  gained = λ n has.
      ⊎_elim (λ (before : Has old n). inl before)
      (λ (reached : (k : ℕ) × (k < columns plane.grid) × IsInReach widths gaps across (columns plane.grid) k
      × (n ≡ node_by (quarter_of across along) plane.grid k r)).
      let (k, inside, far, is) = reached in
      let taken = taken_of_reached plane on across along widths gaps r k inside half are far in
      inr (subst (λ m. IsCovered plane on widths m) (sym is) (covered_of_taken plane on (quarter_of across along) widths k r inside row_in taken))) (gains.gained n has);
}

-- and all that is taken in is there
pub taken_in_row : (plane : Plane) (on : Bool) (across along : Direction) (widths gaps : List ℕ) (r : ℕ) (old new : Plane) → r < rows plane.grid
    → AreHalfWidths (rows plane.grid) widths → AreGaps plane on along (r + 1) gaps
    → GainsInRow widths gaps across plane.grid (place_in along (rows plane.grid) r) (columns plane.grid) old new
    → HasTakenIn plane on (quarter_of across along) widths r new (columns plane.grid)
taken_in_row plane on across along widths gaps r old new row_in half are gains k inside taken =
    gains.taken k inside (reached_of_taken plane on across along widths gaps r k inside row_in half are taken)

-- the node in a row of a computed place
pub node_of_place : (along : Direction) (g h : Grid) (n column r at : ℕ) → h ≡ g → n ≡ rows g → at ≡ place_in along n r → node_at g column at ≡ node_along along h column r
node_of_place along g h n column r at same count is =
    ap (λ k. node_at g column k) (place_by along (rows g) n r at count is) ∙ ap (λ k. node_along along k column r) (sym same)

-- the gains of a row of a computed place
pub row_by : (widths gaps : List ℕ) (across along : Direction) (g h : Grid) (n r at : ℕ) (old new : Plane) → h ≡ g → n ≡ rows g → at ≡ place_in along n r
    → GainsInRow widths gaps across g at (columns g) old new → GainsInRow widths gaps across h (place_in along (rows h) r) (columns h) old new
row_by widths gaps across along g h n r at old new same count is gains =
    subst (λ k. GainsInRow widths gaps across k (place_in along (rows k) r) (columns k) old new) (sym same)
    (subst (λ k. GainsInRow widths gaps across g k (columns g) old new) (place_by along (rows g) n r at count is) gains)
