-- Planes marked row by row, and places between two coordinates.
use Rattle.std.proofs.Common.{ℕ, ◌≡◌, ◌<◌, ◌↔◌, ◌⊎◌, inl, inr, ⊎_elim, ℤ, pos, ◌+ℤ◌, ◌*ℤ◌, ◌≤ℤ◌, ◌<ℤ◌, true, IsTrue, refl, sym, subst, arith}
use Rattle.std.proofs.lemmas.Int.{ints, clamps, by_lt_z}
use Rattle.std.specs.Int.{int_min, int_max}
use Rattle.sn_geom.proofs.Ring.{sums}
use Rattle.sn_geom.specs.declared.units.Pt.{Pt}
use Rattle.sn_geom.specs.Sweep.{Near}
use Rattle.sn_outline.specs.declared.outline.Outline.{Outline}
use Rattle.sn_outline.specs.Outline.{InOutline, InRectangle}
use Rattle.sn_raster.specs.Grid.{Grid, Node, Nodes, IsInWindow, place, first_place, last_place}
use Rattle.sn_raster.specs.Plane.{Plane, Has}
use Rattle.sn_raster.specs.RowTurns.{at, IsInRun}
use Rattle.sn_raster.proofs.Axis.{from, up_to}
use Rattle.sn_raster.proofs.HeightMaps.{same_place}
use Rattle.sn_raster.proofs.HeightRows.{along}
use Rattle.sn_raster.proofs.Marks.{in_own_window}
use Rattle.sn_raster.proofs.SegmentRows.{or_none, or_as}

-- ---- rows
-- of the rows before row j the nodes of the window that P holds of are put in, and the others are as before
pub record AreRowsMarked (P before : Nodes) (g : Grid) (plane : Plane) (j : ℤ) : Type 0 where
  pub grid : plane.grid ≡ g
  pub rows : (n : Node) → IsInWindow g n → n.j <ℤ j → Has plane n ↔ (before n ⊎ P n)
  pub ahead : (n : Node) → j ≤ℤ n.j → Has plane n ↔ before n

pub rows_marked_to_first : (P before : Nodes) (g : Grid) (plane : Plane) (j first : ℤ) → plane.grid ≡ g → j ≡ first
    → ((n : Node) → IsInWindow g n → P n → first ≤ℤ n.j) → ((n : Node) → Has plane n ↔ before n) → AreRowsMarked P before g plane j
rows_marked_to_first P before g plane j first same is all as_before = record {
  grid = same;
  rows = λ n window earlier. along (as_before n) (or_none (λ p. let from = all n window p in omega (arith, sums)));
  ahead = λ n from. as_before n;
}

-- one row more
pub row_marked : (P before : Nodes) (g : Grid) (mid new : Plane) (j next : ℤ) → next ≡ j +ℤ pos 1 → new.grid ≡ g
    → ((n : Node) → n.j ≡ j → IsInWindow g n → (Has mid n ↔ before n) → Has new n ↔ (before n ⊎ P n)) → ((n : Node) → ¬ (n.j ≡ j) → Has new n ↔ Has mid n)
    → AreRowsMarked P before g mid j → AreRowsMarked P before g new next
row_marked P before g mid new j next is same here others marked = record {
  grid = same;
  rows = λ n window earlier.
      by_lt_z n.j j
      (λ passed. along (others n (λ on. absurd (omega (arith, sums)))) (marked.rows n window passed))
      (λ reached. here n (omega (arith, sums)) window (marked.ahead n reached));
  ahead = λ n beyond. along (others n (λ on. absurd (omega (arith, sums)))) (marked.ahead n (omega (arith, sums)));
}

-- a row to which nodes were added
pub added_row : {A B P : Type 0} → (B ↔ (A ⊎ P)) → {C : Type 0} → (A ↔ C) → B ↔ (C ⊎ P)
added_row f g = along f (or_as g)

-- a row that was filled
pub row_as_filled : (o : Outline) (g : Grid) (new : Plane) (j : ℤ) (n : Node) → n.j ≡ j → IsInWindow g n
    → ((i : ℤ) → g.i0 ≤ℤ i → i ≤ℤ g.i1 → Has new (at i j) ↔ InOutline o (place g.pitch (at i j))) → Has new n ↔ ((⊥) ⊎ InOutline o (place g.pitch n))
row_as_filled o g new j n on window row =
    let N : Node → Type 0 = λ m. Has new m ↔ ((⊥) ⊎ InOutline o (place g.pitch m)) in
    let here = row n.i window.left window.right in
    subst N (sym (same_place n.i n.i n.j j refl on)) ((λ has. inr (here.0 has)), (λ either. ⊎_elim (λ none. absurd none) (λ inside. here.1 inside) either))

pub all_rows_marked : (P before : Nodes) (g : Grid) (plane : Plane) (j last : ℤ) → last <ℤ j → ((n : Node) → IsInWindow g n → P n → n.j ≤ℤ last) → ((n : Node) → before n → IsInWindow g n)
    → AreRowsMarked P before g plane j → (n : Node) → Has plane n ↔ (before n ⊎ (IsInWindow g n × P n))
all_rows_marked P before g plane j last past all inside marked n =
    let step : IsInWindow g n → Has plane n ↔ (before n ⊎ P n) =
    λ window. by_lt_z n.j j (marked.rows n window) (λ beyond. along (marked.ahead n beyond) (or_none (λ p. let to = all n window p in omega (arith, sums)))) in (
      λ has.
          let window = in_own_window g plane.grid n (sym marked.grid) has.in_window in
          ⊎_elim (λ (b : before n). inl b) (λ p. inr (window, p)) ((step window).0 has),
      λ either. ⊎_elim (λ (b : before n). (step (inside n b)).1 (inl b)) (λ (window, p). (step window).1 (inr p)) either,
    )

-- a plane without nodes to which those of the rows were added
pub only_those : {A P : Type 0} → (A ↔ ((⊥) ⊎ P)) → A ↔ P
only_those f = ((λ a. ⊎_elim (λ none. absurd none) (λ p. p) (f.0 a)), (λ p. f.1 (inr p)))

-- a window whose last column is before its first has no nodes
pub no_columns : (g h : Grid) (n : Node) (i0 i1 : ℤ) → g ≡ h → i0 ≡ g.i0 → i1 ≡ g.i1 → i1 <ℤ i0 → ¬ IsInWindow h n
no_columns g h n i0 i1 same first last none window =
    let own = in_own_window g h n same window in
    let left = own.left in
    let right = own.right in
    omega (arith, sums)

-- the same in the window of an equal grid
pub added_in : {A B : Type 0} (g h : Grid) (d : ℕ) (a b : Pt) (n : Node) → g ≡ h → A ↔ (B ⊎ (IsInWindow g n × Near d a b (place g.pitch n))) → A ↔ (B ⊎ (IsInWindow h n × Near d a b (place h.pitch n)))
added_in {A} {B} g h d a b n same iff = subst (λ (f : Grid). A ↔ (B ⊎ (IsInWindow f n × Near d a b (place f.pitch n)))) same iff

pub filled_in : {A : Type 0} (g h : Grid) (o : Outline) (n : Node) → g ≡ h → A ↔ (IsInWindow g n × InOutline o (place g.pitch n)) → A ↔ (IsInWindow h n × InOutline o (place h.pitch n))
filled_in {A} g h o n same iff = subst (λ (f : Grid). A ↔ (IsInWindow f n × InOutline o (place f.pitch n))) same iff

-- ---- places between two coordinates
pub within_iff : (g : ℕ) (low high k first last low_first high_last from_place to_place : ℤ) → 0 < g → low_first ≡ first_place g low → high_last ≡ last_place g high
    → from_place ≡ int_max low_first first → to_place ≡ int_min high_last last → first ≤ℤ k → k ≤ℤ last
    → ((from_place ≤ℤ k) × (k ≤ℤ to_place)) ↔ ((low ≤ℤ (k *ℤ pos g)) × ((k *ℤ pos g) ≤ℤ high))
within_iff g low high k first last low_first high_last from_place to_place some low_is high_is from_is to_is after before =
    let lower : low_first ≤ℤ k ↔ (low ≤ℤ (k *ℤ pos g)) = rw low_is (from k low g some) in
    let upper : k ≤ℤ high_last ↔ ((k *ℤ pos g) ≤ℤ high) = rw high_is (up_to k high g some) in (
      λ (a, b). (lower.0 (omega (arith, ints, clamps)), upper.0 (omega (arith, ints, clamps))),
      λ (a, b). let l = lower.1 a in let u = upper.1 b in (omega (arith, ints, clamps), omega (arith, ints, clamps)),
    )

pub within_at : {A : Type 0} (g g' : ℕ) (low high k : ℤ) → g ≡ g' → A ↔ ((low ≤ℤ (k *ℤ pos g)) × ((k *ℤ pos g) ≤ℤ high)) → A ↔ ((low ≤ℤ (k *ℤ pos g')) × ((k *ℤ pos g') ≤ℤ high))
within_at {A} g g' low high k same iff = subst (λ p. A ↔ ((low ≤ℤ (k *ℤ pos p)) × ((k *ℤ pos p) ≤ℤ high))) same iff

-- ---- shapes
-- a row without nodes to which those of P were added
pub alone : {A B P : Type 0} → (A ↔ (B ⊎ P)) → ¬ B → A ↔ P
alone f none = ((λ a. ⊎_elim (λ b. absurd (none b)) (λ p. p) (f.0 a)), (λ p. f.1 (inr p)))

-- a row without nodes to which the columns of a rectangle were added
pub rectangle_row : {A B : Type 0} (first last i j j' : ℤ) (low high p : Pt) → j' ≡ j
    → (IsInRun first last j' (at i j) → A ↔ IsTrue true) → (¬ IsInRun first last j' (at i j) → A ↔ B) → ¬ B
    → (((first ≤ℤ i) × (i ≤ℤ last)) ↔ ((low.x ≤ℤ p.x) × (p.x ≤ℤ high.x))) → low.y ≤ℤ p.y → p.y ≤ℤ high.y → A ↔ InRectangle low high p
rectangle_row first last i j j' low high p same run others none columns above below = (
  λ a.
      let out : (¬ IsInRun first last j' (at i j)) → ⊥ = λ off. none ((others off).0 a) in
      let from : first ≤ℤ i = by_lt_z i first (λ before. absurd (out (λ inside. absurd (passed inside.left before)))) (λ after. after) in
      let to : i ≤ℤ last = by_lt_z last i (λ past. absurd (out (λ inside. absurd (passed inside.right past)))) (λ upto. upto) in
      let across = columns.0 (from, to) in
      record { left = across.0; right = across.1; front = above; back = below },
  λ inside.
      let across = columns.1 (inside.left, inside.right) in
      (run (record { row = sym same; left = across.0; right = across.1 })).1 refl,
)
  where
    passed : {a b : ℤ} → a ≤ℤ b → b <ℤ a → ⊥
    passed {a} {b} h l = omega (arith, sums)
