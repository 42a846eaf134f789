-- The first of the touched cells, over a node, in a row and of all rows.
use Rattle.std.proofs.Common.{ℕ, ◌≡◌, ◌⊎◌, ℤ, ◌≤ℤ◌, ◌<ℤ◌, Option, ⊎_elim, refl, sym, ap, ◌∙◌, subst, arith}
use Rattle.std.proofs.lemmas.Int.{ints, clamps}
use Rattle.std.proofs.lemmas.Option.{IfSome_then}
use Rattle.std.specs.Int.{int_min, int_max}
use Rattle.std.specs.Option.{IfSome}
use Rattle.sn_geom.proofs.Ring.{sums}
use Rattle.sn_geom.specs.declared.units.Pt.{Pt}
use Rattle.sn_geom.specs.declared.units.Pt3.{Pt3}
use Rattle.sn_geom.specs.declared.units.Cell.{Cell}
use Rattle.sn_geom.specs.Sweep.{Near, IsHorizontalOrVertical, plan}
use Rattle.sn_geom.specs.SweepLaws.{TouchByHeightAndPlan}
use Rattle.sn_raster.specs.Grid.{Grid, Node, IsInWindow, place}
use Rattle.sn_raster.specs.Heights.{HeightMap, IsTouchedCell, IsFirst, node_of, low_end, height_of}
use Rattle.sn_raster.proofs.Marks.{in_own_window}
use Rattle.sn_raster.proofs.HeightMaps.{node, cell}

pub lowest_value : (from from' bottom bottom' a a' b b' min min' max max' most : ℤ) → from' ≡ from → bottom' ≡ bottom → a' ≡ a → b' ≡ b → min' ≡ min → max' ≡ max
    → min ≡ int_min a' b' → max ≡ int_max bottom' min' → most ≡ int_max from' max' → most ≡ int_max from (int_max bottom (int_min a b))
lowest_value from from' bottom bottom' a a' b b' min min' max max' most f g h i j k l m n = rw (n, f, k, m, g, j, l, h, i) refl

pub touched_near : TouchByHeightAndPlan → (map : HeightMap) (g : Grid) (d : ℕ) (a b : Pt3) (from : ℤ) (c : Cell) → map.grid ≡ g → IsHorizontalOrVertical a b
    → IsTouchedCell map d a b from c → Near d (plan a) (plan b) (place g.pitch (node_of c))
touched_near law map g d a b from c same straight touched =
    let P : Grid → Type 0 = λ g. Near d (plan a) (plan b) (place g.pitch (node_of c)) in
    subst P same ((law d a b (low_end map.grid.pitch c) straight).0 touched.touched).1

-- no touched cell is below the lowest height
pub touched_high : TouchByHeightAndPlan → (map : HeightMap) (g : Grid) (d : ℕ) (a b : Pt3) (from z : ℤ) (c : Cell) → map.grid ≡ g → IsHorizontalOrVertical a b
    → z ≡ int_max from (int_max g.bottom (int_min a.z b.z)) → IsTouchedCell map d a b from c → z ≤ℤ c.z
touched_high law map g d a b from z c same straight is touched =
    let P : Grid → Type 0 = λ g. g.bottom ≤ℤ c.z in
    highest z from g.bottom a.z b.z c.z is touched.from_height (subst P same touched.left.above) ((law d a b (low_end map.grid.pitch c) straight).0 touched.touched).0
  where
    highest : (z from bottom a b k : ℤ) → z ≡ int_max from (int_max bottom (int_min a b)) → from ≤ℤ k → bottom ≤ℤ k → int_min a b ≤ℤ k → z ≤ℤ k
    highest z from bottom a b k is f g h = omega (arith, ints, clamps)

-- where that height is not below the height of the node there is none
pub none_above : TouchByHeightAndPlan → (map : HeightMap) (g : Grid) (d : ℕ) (a b : Pt3) (from z height : ℤ) (c : Cell) (n : Node) → map.grid ≡ g → IsHorizontalOrVertical a b
    → z ≡ int_max from (int_max g.bottom (int_min a.z b.z)) → height ≡ height_of map n → node_of c ≡ n → IsTouchedCell map d a b from c → z <ℤ height
none_above law map g d a b from z height c n same straight is height_is there touched =
    let high = touched_high law map g d a b from z c same straight is touched in
    let below : c.z <ℤ height = subst (λ h. c.z <ℤ h) (ap (height_of map) there ∙ sym height_is) touched.left.below in
    omega (arith, sums)

-- else the cell at that height is the first
pub first_over_node : TouchByHeightAndPlan → (map : HeightMap) (g : Grid) (d : ℕ) (a b : Pt3) (from i j z height : ℤ) (n : Node) → map.grid ≡ g → IsHorizontalOrVertical a b
    → IsInWindow g n → node i j ≡ n → z ≡ int_max from (int_max g.bottom (int_min a.z b.z)) → height ≡ height_of map n → z <ℤ height
    → Near d (plan a) (plan b) (place g.pitch n)
    → IsFirst (λ c. (node_of c ≡ n) × IsTouchedCell map d a b from c) (cell i j z)
first_over_node law map g d a b from i j z height n same straight window is lowest height_is below near =
    let P : Grid → Type 0 = λ g. g.bottom ≤ℤ z in
    let Q : Node → Type 0 = λ m. IsInWindow g m in
    let N : Node → Type 0 = λ m. Near d (plan a) (plan b) (place g.pitch m) in
    let M : Grid → Type 0 = λ g. Near d (plan a) (plan b) (place g.pitch (node i j)) in
    let parts = lowest_parts z from g.bottom a.z b.z lowest in
    record {
      holds = (
        is,
        record {
          left = record {
            in_window = in_own_window _ _ (node i j) same (subst Q (sym is) window);
            above = subst P (sym same) parts.1;
            below = subst (λ h. z <ℤ h) (height_is ∙ ap (height_of map) (sym is)) below;
          };
          from_height = parts.0;
          touched = (law d a b (low_end map.grid.pitch (cell i j z)) straight).1 (parts.2, subst M (sym same) (subst N (sym is) near));
        },
      );
      first = λ other (there, touched) before.
          let high = touched_high law map g d a b from z other same straight lowest touched in
          let column : other.i ≡ i = ap (λ m. m.i) (there ∙ sym is) in
          let row : other.j ≡ j = ap (λ m. m.j) (there ∙ sym is) in
          ⊎_elim (λ (less : other.j <ℤ j). absurd (omega (arith, sums)))
          (λ (rest : (other.j ≡ j) × ((other.i <ℤ i) ⊎ ((other.i ≡ i) × (other.z <ℤ z)))).
          ⊎_elim (λ (less : other.i <ℤ i). absurd (omega (arith, sums))) (λ (low : (other.i ≡ i) × (other.z <ℤ z)). absurd (omega (arith, sums, high, low.1))) rest.1) before;
    }
  where
    lowest_parts : (z from bottom a b : ℤ) → z ≡ int_max from (int_max bottom (int_min a b)) → (from ≤ℤ z) × (bottom ≤ℤ z) × (int_min a b ≤ℤ z)
    lowest_parts z from bottom a b is = (omega (arith, ints, clamps), omega (arith, ints, clamps), omega (arith, ints, clamps))

-- the first over a node is the first of its row, where there is none before it
pub first_of_row : (P : Cell → Type 0) (i j : ℤ) (n : Node) (r : Option Cell) → n ≡ node i j → ((c : Cell) → c.j ≡ j → c.i <ℤ i → ¬ P c)
    → IfSome r (IsFirst (λ c. (node_of c ≡ n) × P c)) → IfSome r (IsFirst (λ c. (c.j ≡ j) × P c))
first_of_row P i j n r is none some =
    IfSome_then r some (λ c f.
    let column : c.i ≡ i = ap (λ m. m.i) (f.holds.0 ∙ is) in
    let row : c.j ≡ j = ap (λ m. m.j) (f.holds.0 ∙ is) in
    record {
      holds = (row, f.holds.1);
      first = λ other (there, p) before.
          ⊎_elim (λ (less : other.j <ℤ c.j). absurd (omega (arith, sums)))
          (λ (rest : (other.j ≡ c.j) × ((other.i <ℤ c.i) ⊎ ((other.i ≡ c.i) × (other.z <ℤ c.z)))).
          ⊎_elim (λ (less : other.i <ℤ c.i). none other there (omega (arith, sums)) p)
          (λ (low : (other.i ≡ c.i) × (other.z <ℤ c.z)). let same : node_of other ≡ node_of c = (λ k. record { i = low.0 k; j = rest.0 k }) in f.first other (same ∙ f.holds.0, p) before)
          rest.1) before;
    })

-- the first of a row is the first of all, where there is none in the rows before it
pub first_of_all : (P : Cell → Type 0) (j : ℤ) (r : Option Cell) → ((c : Cell) → c.j <ℤ j → ¬ P c)
    → IfSome r (IsFirst (λ c. (c.j ≡ j) × P c)) → IfSome r (IsFirst P)
first_of_all P j r none some =
    IfSome_then r some (λ c f. record {
      holds = f.holds.1;
      first = λ other p before.
          ⊎_elim (λ (less : other.j <ℤ c.j). none other (let row = f.holds.0 in omega (arith, sums)) p)
          (λ (rest : (other.j ≡ c.j) × ((other.i <ℤ c.i) ⊎ ((other.i ≡ c.i) × (other.z <ℤ c.z)))). f.first other (rest.0 ∙ f.holds.0, p) before) before;
    })

-- a touched cell is over a node of the window that is near the move
pub touched_in_reach : TouchByHeightAndPlan → (map : HeightMap) (g : Grid) (d : ℕ) (a b : Pt3) (from : ℤ) (c : Cell) (p q : Pt) → map.grid ≡ g → IsHorizontalOrVertical a b → p ≡ plan a → q ≡ plan b
    → IsTouchedCell map d a b from c → IsInWindow g (node_of c) × Near d p q (place g.pitch (node_of c))
touched_in_reach law map g d a b from c p q same straight e f touched =
    let P : Pt → Type 0 = λ x. Near d x q (place g.pitch (node_of c)) in
    let Q : Pt → Type 0 = λ x. Near d (plan a) x (place g.pitch (node_of c)) in
    (in_own_window g map.grid (node_of c) (sym same) touched.left.in_window, subst P (sym e) (subst Q (sym f) (touched_near law map g d a b from c same straight touched)))
