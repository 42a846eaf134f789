-- Planes of the nodes that another has with those beside them.
use Rattle.std.proofs.Common.{ℕ, ◌≡◌, ◌+◌, ◌-◌, ◌*◌, ◌<◌, ◌≤◌, ◌↔◌, ◌⊎◌, inl, inr, ⊎_elim, ℤ, pos, ◌+ℤ◌, ◌-ℤ◌, ◌≤ℤ◌, unsigned_abs, Bool, false, IsTrue, List, length, get_or, refl, sym, ap, ◌∙◌, subst, arith}
use Rattle.std.proofs.lemmas.Bool.{cases_lt}
use Rattle.std.proofs.lemmas.Nat.{mul-le}
use Rattle.std.proofs.lemmas.Int.{ints, clamps}
use Rattle.sn_raster.specs.Grid.{Grid, Node, IsInWindow, places}
use Rattle.sn_raster.specs.Plane.{Plane, Has, mark_of}
use Rattle.sn_raster.specs.MarksBeside.{IsSetBeside}
use Rattle.sn_raster.specs.Neighbours.{HasBesideInRow, HasBesideInColumn}
use Rattle.sn_raster.proofs.Marks.{mark_below, which_place}

abbrev plane : Grid → List Bool → Plane
plane g marks = record { grid = g; marks = marks }

-- Places of an axis, counted from its first.
abbrev count : ℤ → ℤ → ℕ
count first k = unsigned_abs (k -ℤ first)

count_same : (first k m : ℤ) → first ≤ℤ k → first ≤ℤ m → count first k ≡ count first m → k ≡ m
count_same first k m low low' same = omega (arith, ints)

count_of : (first k m : ℤ) → m ≡ k → count first m ≡ count first k
count_of first k m same = ap (count first) same

-- a place at most one from another is it, the one before it or the one after it
near_one : (first k m : ℤ) → first ≤ℤ k → first ≤ℤ m → unsigned_abs (m -ℤ k) ≤ 1
    → (count first m ≡ count first k) ⊎ ((count first m + 1 ≡ count first k) ⊎ (count first m ≡ count first k + 1))
near_one first k m low low' near =
    ⊎_elim (λ (before : count first m < count first k). inr (inl (omega (arith, ints))))
    (λ (from : count first k ≤ count first m).
    ⊎_elim (λ (after : count first k < count first m). inr (inr (omega (arith, ints)))) (λ (same : count first m ≤ count first k). inl (omega (arith, ints)))
    (cases_lt (count first k) (count first m))) (cases_lt (count first m) (count first k))

near_itself : (k : ℤ) → unsigned_abs (k -ℤ k) ≤ 1
near_itself k = omega (arith, ints)

near_before : (k : ℤ) → unsigned_abs ((k -ℤ pos 1) -ℤ k) ≤ 1
near_before k = omega (arith, ints)

near_after : (k : ℤ) → unsigned_abs ((k +ℤ pos 1) -ℤ k) ≤ 1
near_after k = omega (arith, ints)

count_before : (first k : ℤ) → first ≤ℤ k → 1 ≤ count first k → (first ≤ℤ (k -ℤ pos 1)) × (count first (k -ℤ pos 1) + 1 ≡ count first k)
count_before first k low some = (omega (arith, ints), omega (arith, ints))

count_after : (first last k : ℤ) → first ≤ℤ k → count first k + 1 < places first last
    → ((k +ℤ pos 1) ≤ℤ last) × (count first (k +ℤ pos 1) ≡ count first k + 1)
count_after first last k low below = (omega (arith, ints, clamps), omega (arith, ints))

not_less : (first k : ℤ) → first ≤ℤ k → first ≤ℤ (k +ℤ pos 1)
not_less first k low = omega (arith, ints)

not_more : (k last : ℤ) → k ≤ℤ last → (k -ℤ pos 1) ≤ℤ last
not_more k last high = omega (arith, ints)

-- Marks of nodes that lie beside each other.
mark_by : (g : Grid) (n : Node) (row column : ℕ) → count g.j0 n.j ≡ row → count g.i0 n.i ≡ column → mark_of g n ≡ row * places g.i0 g.i1 + column
mark_by g n row column is is' = rw (is, is') refl

at_mark : (marks : List Bool) (k m : ℕ) → k ≡ m → IsTrue (get_or marks k false) → IsTrue (get_or marks m false)
at_mark marks k m same on = subst (λ j. IsTrue (get_or marks j false)) same on

one_less : (first k m : ℕ) → m + 1 ≡ k → first + m ≡ first + k - 1
one_less first k m is = omega (arith, is)

one_more : (first k m : ℕ) → m ≡ k + 1 → first + m ≡ first + k + 1
one_more first k m is = omega (arith, is)

row_less : (row r w column : ℕ) → r + 1 ≡ row → r * w + column ≡ row * w + column - w
row_less row r w column is = subst (λ m. r * w + column ≡ m * w + column - w) is (omega arith)

row_more : (row r w column : ℕ) → r ≡ row + 1 → r * w + column ≡ row * w + column + w
row_more row r w column is = subst (λ m. m * w + column ≡ row * w + column + w) (sym is) (omega arith)

row_before : (row r w column : ℕ) → r + 1 ≡ row → 0 + w ≤ row * w + column
row_before row r w column is = subst (λ m. 0 + w ≤ m * w + column) is (omega arith)

is_later : (row w column : ℕ) → column < w → 0 + w ≤ row * w + column → 1 ≤ row
is_later row w column inside below =
    ⊎_elim
    (λ (first : row < 1).
    let none : row ≡ 0 = omega arith in
    let h : 0 + w ≤ 0 * w + column = subst (λ m. 0 + w ≤ m * w + column) none below in absurd (omega arith))
    (λ (some : 1 ≤ row). some) (cases_lt row 1)

is_earlier : (row rows w column : ℕ) → row * w + column + w < w * rows → row + 1 < rows
is_earlier row rows w column below =
    ⊎_elim (λ (before : row + 1 < rows). before)
    (λ (last : rows ≤ row + 1). let h : rows * w ≤ (row + 1) * w = mul-le rows w (row + 1) w last (omega arith) in absurd (omega arith)) (cases_lt (row + 1) rows)

-- Planes by their marks.
abbrev pub AreRows : List Bool → List Bool → ℕ → ℕ → Type 0
AreRows from new w rows =
    (row column : ℕ) → row < rows → column < w
    → IsTrue (get_or new (row * w + column) false) ↔ IsSetBeside from 1 (row * w) (row * w + w) (row * w + column)

abbrev pub AreColumns : List Bool → List Bool → ℕ → ℕ → Type 0
AreColumns from new w size = (k : ℕ) → k < size → IsTrue (get_or new k false) ↔ IsSetBeside from w 0 size k

in_rows : (g : Grid) (from new : List Bool) → AreRows from new (places g.i0 g.i1) (places g.j0 g.j1)
    → (n : Node) → Has (plane g new) n ↔ (IsInWindow g n × HasBesideInRow (plane g from) n)
in_rows g from new each n =
    let w = places g.i0 g.i1 in
    let row = count g.j0 n.j in
    let column = count g.i0 n.i in
    let test : IsInWindow g n → IsTrue (get_or new (row * w + column) false) ↔ IsSetBeside from 1 (row * w) (row * w + w) (row * w + column) =
    λ window. each row column (which_place g.j0 g.j1 n.j window.front window.back) (which_place g.i0 g.i1 n.i window.left window.right) in (
      λ has. (
        has.in_window,
        λ q q_in near.
            let set = (test has.in_window).0 has.marked in
            let same_row = count_of g.j0 n.j q.j near.row in
            record {
              in_window = q_in;
              marked = ⊎_elim
                  (λ (same : count g.i0 q.i ≡ column). at_mark from (row * w + column) (mark_of g q) (sym (mark_by g q row column same_row same)) set.own)
                  (λ (other : (count g.i0 q.i + 1 ≡ column) ⊎ (count g.i0 q.i ≡ column + 1)). ⊎_elim
                  (λ (before : count g.i0 q.i + 1 ≡ column).
                  at_mark from (row * w + column - 1) (mark_of g q) (sym (mark_by g q row _ same_row refl ∙ one_less (row * w) column _ before)) (set.before (omega (arith, before))))
                  (λ (after : count g.i0 q.i ≡ column + 1).
                  let below : count g.i0 q.i < w = which_place g.i0 g.i1 q.i q_in.left q_in.right in
                  at_mark from (row * w + column + 1) (mark_of g q) (sym (mark_by g q row _ same_row refl ∙ one_more (row * w) column _ after)) (set.after (omega (arith, after, below))))
                  other)
                  (near_one g.i0 n.i q.i has.in_window.left q_in.left near.column);
            },
      ),
      λ (window, all). record {
        in_window = window;
        marked = (test window).1 (record {
          own = (all n window (record { row = refl; column = near_itself n.i })).marked;
          before = λ h.
              let (low, is) = count_before g.i0 n.i window.left (omega (arith, h)) in
              let q : Node = record { i = n.i -ℤ pos 1; j = n.j } in
              let has = all q (record { left = low; right = not_more n.i g.i1 window.right; front = window.front; back = window.back })
              (record { row = refl; column = near_before n.i }) in
              at_mark from (mark_of g q) (row * w + column - 1) (one_less (row * w) column _ is) has.marked;
          after = λ h.
              let (high, is) = count_after g.i0 g.i1 n.i window.left (omega (arith, h)) in
              let q : Node = record { i = n.i +ℤ pos 1; j = n.j } in
              let has = all q (record { left = not_less g.i0 n.i window.left; right = high; front = window.front; back = window.back })
              (record { row = refl; column = near_after n.i }) in
              at_mark from (mark_of g q) (row * w + column + 1) (one_more (row * w) column _ is) has.marked;
        });
      },
    )

in_columns : (g : Grid) (from new : List Bool) → AreColumns from new (places g.i0 g.i1) (places g.i0 g.i1 * places g.j0 g.j1)
    → (n : Node) → Has (plane g new) n ↔ (IsInWindow g n × HasBesideInColumn (plane g from) n)
in_columns g from new each n =
    let w = places g.i0 g.i1 in
    let row = count g.j0 n.j in
    let column = count g.i0 n.i in
    let test : IsInWindow g n → IsTrue (get_or new (row * w + column) false) ↔ IsSetBeside from w 0 (w * places g.j0 g.j1) (row * w + column) =
    λ window. each (row * w + column) (mark_below g n window) in (
      λ has. (
        has.in_window,
        λ q q_in near.
            let set = (test has.in_window).0 has.marked in
            let same_column = count_of g.i0 n.i q.i near.column in
            record {
              in_window = q_in;
              marked = ⊎_elim
                  (λ (same : count g.j0 q.j ≡ row). at_mark from (row * w + column) (mark_of g q) (sym (mark_by g q row column same same_column)) set.own)
                  (λ (other : (count g.j0 q.j + 1 ≡ row) ⊎ (count g.j0 q.j ≡ row + 1)). ⊎_elim
                  (λ (before : count g.j0 q.j + 1 ≡ row).
                  at_mark from (row * w + column - w) (mark_of g q) (sym (mark_by g q _ column refl same_column ∙ row_less row _ w column before))
                  (set.before (row_before row _ w column before)))
                  (λ (after : count g.j0 q.j ≡ row + 1).
                  let place : mark_of g q ≡ row * w + column + w = mark_by g q _ column refl same_column ∙ row_more row _ w column after in
                  at_mark from (row * w + column + w) (mark_of g q) (sym place) (set.after (subst (λ k. k < w * places g.j0 g.j1) place (mark_below g q q_in))))
                  other)
                  (near_one g.j0 n.j q.j has.in_window.front q_in.front near.row);
            },
      ),
      λ (window, all). record {
        in_window = window;
        marked = (test window).1 (record {
          own = (all n window (record { column = refl; row = near_itself n.j })).marked;
          before = λ h.
              let (low, is) = count_before g.j0 n.j window.front (is_later row w column (which_place g.i0 g.i1 n.i window.left window.right) h) in
              let q : Node = record { i = n.i; j = n.j -ℤ pos 1 } in
              let has = all q (record { left = window.left; right = window.right; front = low; back = not_more n.j g.j1 window.back })
              (record { column = refl; row = near_before n.j }) in
              at_mark from (mark_of g q) (row * w + column - w) (row_less row _ w column is) has.marked;
          after = λ h.
              let (high, is) = count_after g.j0 g.j1 n.j window.front (is_earlier row (places g.j0 g.j1) w column h) in
              let q : Node = record { i = n.i; j = n.j +ℤ pos 1 } in
              let has = all q (record { left = window.left; right = window.right; front = not_less g.j0 n.j window.front; back = high })
              (record { column = refl; row = near_after n.j }) in
              at_mark from (mark_of g q) (row * w + column + w) (row_more row _ w column is) has.marked;
        });
      },
    )

-- the planes that they are
one_grid : (old second : Plane) (g h : Grid) (marks other : List Bool) → plane g marks ≡ old → plane h other ≡ second → second.grid ≡ old.grid → h ≡ g
one_grid old second g h marks other view view' grids = ap (λ p. p.grid) view' ∙ grids ∙ sym (ap (λ p. p.grid) view)

pub one_size : (old second : Plane) (g h : Grid) (marks other : List Bool) → plane g marks ≡ old → plane h other ≡ second → second.grid ≡ old.grid
    → length other ≡ places h.i0 h.i1 * places h.j0 h.j1 → length other ≡ places g.i0 g.i1 * places g.j0 g.j1
one_size old second g h marks other view view' grids full =
    full ∙ ap (λ (k : Grid). places k.i0 k.i1 * places k.j0 k.j1) (one_grid old second g h marks other view view' grids)

of_planes : (B : Plane → Node → Type 0) (old second : Plane) (g h : Grid) (marks other new : List Bool) → plane g marks ≡ old
    → plane h other ≡ second → second.grid ≡ old.grid
    → ((n : Node) → Has (plane g new) n ↔ (IsInWindow g n × B (plane g other) n))
    → (n : Node) → Has (plane g new) n ↔ (IsInWindow old.grid n × B second n)
of_planes B old second g h marks other new view view' grids each n =
    let same = one_grid old second g h marks other view view' grids in
    let Q : Plane → Plane → Type 0 = λ a b. Has (plane g new) n ↔ (IsInWindow a.grid n × B b n) in
    let second_is : plane g other ≡ second = (λ k. plane (sym same k) other) ∙ view' in
    subst (λ a. Q a second) view (subst (λ b. Q (plane g marks) b) second_is (each n))

at_sizes : (P : ℕ → ℕ → Type 0) (w rows w' rows' : ℕ) → w ≡ w' → rows ≡ rows' → P w rows → P w' rows'
at_sizes P w rows w' rows' same same' here = subst (λ v. P v rows') same (subst (λ v. P w v) same' here)

pub kept_in_rows : (old second : Plane) (g h : Grid) (marks other new : List Bool) (w rows : ℕ) → plane g marks ≡ old
    → plane h other ≡ second → second.grid ≡ old.grid → w ≡ places g.i0 g.i1 → rows ≡ places g.j0 g.j1 → AreRows other new w rows
    → (n : Node) → Has (plane g new) n ↔ (IsInWindow old.grid n × HasBesideInRow second n)
kept_in_rows old second g h marks other new w rows view view' grids width height are =
    of_planes HasBesideInRow old second g h marks other new view view' grids
    (in_rows g other new (at_sizes (AreRows other new) w rows _ _ width height are))

pub kept_in_columns : (old second : Plane) (g h : Grid) (marks other new : List Bool) (w size : ℕ) → plane g marks ≡ old
    → plane h other ≡ second → second.grid ≡ old.grid → w ≡ places g.i0 g.i1 → size ≡ places g.i0 g.i1 * places g.j0 g.j1 → AreColumns other new w size
    → (n : Node) → Has (plane g new) n ↔ (IsInWindow old.grid n × HasBesideInColumn second n)
kept_in_columns old second g h marks other new w size view view' grids width full are =
    of_planes HasBesideInColumn old second g h marks other new view view' grids
    (in_columns g other new (at_sizes (AreColumns other new) w size _ _ width full are))
