-- Heights changed node by node and row by row.
use Rattle.std.proofs.Common.{◌≡◌, ◌↔◌, ℤ, pos, ◌+ℤ◌, ◌≤ℤ◌, ◌<ℤ◌, sym, ap, ◌∙◌, arith}
use Rattle.std.proofs.lemmas.Int.{by_lt_z}
use Rattle.sn_geom.proofs.Ring.{sums}
use Rattle.sn_geom.specs.declared.units.Cell.{Cell}
use Rattle.sn_raster.specs.Grid.{Grid, Node, IsInWindow}
use Rattle.sn_raster.specs.Heights.{node_of, HeightMap, HasCell}
use Rattle.sn_raster.proofs.Marks.{in_own_window}
use Rattle.sn_raster.proofs.HeightMaps.{node, same_place}

-- over row j before column i the cells are those of P, and the others are as before
pub record IsRowPassed (P : Cell → Type 0) (g : Grid) (j : ℤ) (old new : HeightMap) (i : ℤ) : Type 0 where
  pub grid : new.grid ≡ g
  pub row : (c : Cell) → c.j ≡ j → c.i <ℤ i → HasCell new c ↔ P c
  pub ahead : (c : Cell) → c.j ≡ j → i ≤ℤ c.i → HasCell new c ↔ HasCell old c
  pub others : (c : Cell) → ¬ (c.j ≡ j) → HasCell new c ↔ HasCell old c

-- before row j the cells are those of P, and from row j on they are as before
pub record AreRowsPassed (P : Cell → Type 0) (g : Grid) (old new : HeightMap) (j : ℤ) : Type 0 where
  pub grid : new.grid ≡ g
  pub rows : (c : Cell) → c.j <ℤ j → HasCell new c ↔ P c
  pub ahead : (c : Cell) → j ≤ℤ c.j → HasCell new c ↔ HasCell old c

pub along : {A B C : Type 0} → (A ↔ B) → (B ↔ C) → (A ↔ C)
along f g = ((λ a. g.0 (f.0 a)), (λ c. f.1 (g.1 c)))

pub neither : {A B : Type 0} → ¬ A → ¬ B → A ↔ B
neither f g = ((λ a. absurd (f a)), (λ b. absurd (g b)))

-- one node more
pub node_passed : (P : Cell → Type 0) (g : Grid) (j : ℤ) (old mid new : HeightMap) (i : ℤ) (n : Node) → n ≡ node i j → new.grid ≡ g
    → ((c : Cell) → node_of c ≡ n → (HasCell mid c ↔ HasCell old c) → HasCell new c ↔ P c) → ((c : Cell) → ¬ (node_of c ≡ n) → HasCell new c ↔ HasCell mid c)
    → IsRowPassed P g j old mid i → IsRowPassed P g j old new (i +ℤ pos 1)
node_passed P g j old mid new i n is grid here others passed = record {
  grid = grid;
  row = λ c row below.
      by_lt_z c.i i
      (λ before. along (others c (λ same. let column : c.i ≡ i = ap (λ m. m.i) (same ∙ is) in absurd (omega (arith, sums)))) (passed.row c row before))
      (λ reached. let column : c.i ≡ i = omega (arith, sums) in here c (same_place c.i i c.j j column row ∙ sym is) (passed.ahead c row reached));
  ahead = λ c row beyond. along (others c (λ same. let column : c.i ≡ i = ap (λ m. m.i) (same ∙ is) in absurd (omega (arith, sums)))) (passed.ahead c row (omega (arith, sums)));
  others = λ c off. along (others c (λ same. off (ap (λ m. m.j) (same ∙ is)))) (passed.others c off);
}

-- no node of the row is before the first
pub no_node_passed : (P : Cell → Type 0) (g : Grid) (j : ℤ) (map : HeightMap) (i : ℤ) → map.grid ≡ g → i ≡ g.i0 → ((c : Cell) → P c → IsInWindow g (node_of c))
    → IsRowPassed P g j map map i
no_node_passed P g j map i same first inside = record {
  grid = same;
  row = λ c row before.
      neither (λ has. let window = in_own_window _ _ (node_of c) (sym same) has.in_window in omega (arith, sums, window.left)) (λ p. let window = inside c p in omega (arith, sums, window.left));
  ahead = λ c row from. ((λ has. has), (λ has. has));
  others = λ c off. ((λ has. has), (λ has. has));
}

-- each node of the row is before the end
pub whole_row_passed : (P : Cell → Type 0) (g : Grid) (j : ℤ) (old new : HeightMap) (i : ℤ) → g.i1 <ℤ i → ((c : Cell) → P c → IsInWindow g (node_of c))
    → IsRowPassed P g j old new i → (c : Cell) → c.j ≡ j → HasCell new c ↔ P c
whole_row_passed P g j old new i end inside passed c row =
    by_lt_z c.i i (passed.row c row)
    (λ beyond.
    neither (λ has. let window = in_own_window _ _ (node_of c) (sym passed.grid) has.in_window in omega (arith, sums, window.right)) (λ p. let window = inside c p in omega (arith, sums, window.right)))

-- one row more
pub row_passed : (P : Cell → Type 0) (g : Grid) (old mid new : HeightMap) (j : ℤ) → new.grid ≡ g
    → ((c : Cell) → c.j ≡ j → (HasCell mid c ↔ HasCell old c) → HasCell new c ↔ P c) → ((c : Cell) → ¬ (c.j ≡ j) → HasCell new c ↔ HasCell mid c)
    → AreRowsPassed P g old mid j → AreRowsPassed P g old new (j +ℤ pos 1)
row_passed P g old mid new j grid here others passed = record {
  grid = grid;
  rows = λ c below.
      by_lt_z c.j j
      (λ before. along (others c (λ same. absurd (omega (arith, sums)))) (passed.rows c before))
      (λ reached. here c (omega (arith, sums)) (passed.ahead c reached));
  ahead = λ c beyond. along (others c (λ same. absurd (omega (arith, sums)))) (passed.ahead c (omega (arith, sums)));
}

pub no_row_passed : (P : Cell → Type 0) (g : Grid) (map : HeightMap) (j : ℤ) → map.grid ≡ g → j ≡ g.j0 → ((c : Cell) → P c → IsInWindow g (node_of c))
    → AreRowsPassed P g map map j
no_row_passed P g map j same first inside = record {
  grid = same;
  rows = λ c before.
      neither (λ has. let window = in_own_window _ _ (node_of c) (sym same) has.in_window in omega (arith, sums, window.front)) (λ p. let window = inside c p in omega (arith, sums, window.front));
  ahead = λ c from. ((λ has. has), (λ has. has));
}

pub all_rows_passed : (P : Cell → Type 0) (g : Grid) (old new : HeightMap) (j : ℤ) → g.j1 <ℤ j → ((c : Cell) → P c → IsInWindow g (node_of c))
    → AreRowsPassed P g old new j → (c : Cell) → HasCell new c ↔ P c
all_rows_passed P g old new j end inside passed c =
    by_lt_z c.j j (passed.rows c)
    (λ beyond.
    neither (λ has. let window = in_own_window _ _ (node_of c) (sym passed.grid) has.in_window in omega (arith, sums, window.back)) (λ p. let window = inside c p in omega (arith, sums, window.back)))

-- what is taken away from cells that are as before
pub still_without : {A B C : Type 0} → (A ↔ B) → (A × ¬ C) ↔ (B × ¬ C)
still_without f = ((λ (a, n). (f.0 a, n)), (λ (b, n). (f.1 b, n)))

-- what is before the end is not past the last
pub before_end : (k end last : ℤ) → end ≡ last +ℤ pos 1 → k <ℤ end → k ≤ℤ last
before_end k end last is below = omega (arith, sums)

-- ---- a part of the nodes and of the rows: the others are not touched
pub node_passed_to : (P : Cell → Type 0) (g : Grid) (j : ℤ) (map : HeightMap) (i : ℤ) → map.grid ≡ g → ((c : Cell) → c.j ≡ j → c.i <ℤ i → HasCell map c ↔ P c) → IsRowPassed P g j map map i
node_passed_to P g j map i same before = record {
  grid = same;
  row = before;
  ahead = λ c row from. ((λ has. has), (λ has. has));
  others = λ c off. ((λ has. has), (λ has. has));
}

pub part_of_row_passed : (P : Cell → Type 0) (g : Grid) (j : ℤ) (old new : HeightMap) (i : ℤ) → ((c : Cell) → c.j ≡ j → i ≤ℤ c.i → HasCell old c ↔ P c) → IsRowPassed P g j old new i
    → (c : Cell) → c.j ≡ j → HasCell new c ↔ P c
part_of_row_passed P g j old new i after passed c row = by_lt_z c.i i (passed.row c row) (λ beyond. along (passed.ahead c row beyond) (after c row beyond))

pub rows_passed_to : (P : Cell → Type 0) (g : Grid) (map : HeightMap) (j : ℤ) → map.grid ≡ g → ((c : Cell) → c.j <ℤ j → HasCell map c ↔ P c) → AreRowsPassed P g map map j
rows_passed_to P g map j same before = record { grid = same; rows = before; ahead = λ c from. ((λ has. has), (λ has. has)) }

pub part_of_rows_passed : (P : Cell → Type 0) (g : Grid) (old new : HeightMap) (j : ℤ) → ((c : Cell) → j ≤ℤ c.j → HasCell old c ↔ P c) → AreRowsPassed P g old new j → (c : Cell) → HasCell new c ↔ P c
part_of_rows_passed P g old new j after passed c = by_lt_z c.j j (passed.rows c) (λ beyond. along (passed.ahead c beyond) (after c beyond))

-- a place before the end is not past the last, nor past the last of the window
pub within_last : (k end last most : ℤ) → end ≡ last +ℤ pos 1 → last ≤ℤ most → k <ℤ end → k ≤ℤ most
within_last k end last most is le below = omega (arith, sums)

-- a place from the counter on, where the counter is not before the end, is past the last
pub past_last : (k counter last : ℤ) → last <ℤ counter → counter ≤ℤ k → ¬ (k ≤ℤ last)
past_last k counter last past from within = omega (arith, sums)

pub before_first : (k counter first : ℤ) → counter ≡ first → k <ℤ counter → ¬ (first ≤ℤ k)
before_first k counter first is before from = omega (arith, sums)

pub from_first : (k first least : ℤ) → least ≤ℤ first → first ≤ℤ k → least ≤ℤ k
from_first k first least h low = omega (arith, sums)
