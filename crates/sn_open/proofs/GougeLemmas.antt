-- The first gouged cell over a node: the lowest that the move touches, where that one is not allowed.
use Rattle.std.proofs.Common.{ℕ, ◌≡◌, ℤ, pos, ◌+ℤ◌, ◌*ℤ◌, ◌≤ℤ◌, ◌<ℤ◌, Option, None, Some, refl, sym, ap, ◌∙◌, subst, arith}
use Rattle.std.proofs.lemmas.Int.{ints, clamps}
use Rattle.std.specs.Int.{int_min, int_max}
use Rattle.sn_geom.proofs.Ring.{sums}
use Rattle.sn_geom.specs.declared.units.Pt3.{Pt3}
use Rattle.sn_geom.specs.declared.units.Cell.{Cell}
use Rattle.sn_geom.specs.Sweep.{Near, IsHorizontalOrVertical, plan}
use Rattle.sn_geom.specs.SweepLaws.{TouchByHeightAndPlan}
use Rattle.sn_raster.specs.Grid.{Grid, IsInWindow, place}
use Rattle.sn_raster.specs.Plane.{Has}
use Rattle.sn_raster.specs.Heights.{HeightMap, IsTouchedCell, IsFirst, node_of, height_of}
use Rattle.sn_raster.specs.Reach.{IsBeside}
use Rattle.sn_raster.proofs.Besides.{near_up}
use Rattle.sn_raster.proofs.HeightFirsts.{touched_near, touched_high, none_above, first_over_node}
use Rattle.sn_open.specs.Gouged.{IsGougedCell}
use Rattle.sn_open.specs.Planes.{CellSet, HasIn, IsHigh}
use Rattle.sn_open.specs.Window.{node_at}

-- the lowest cell over a node that is not below the raw bottom or the move
abbrev pub lowest_over : Grid → Pt3 → Pt3 → ℕ → ℕ → Cell
lowest_over g a b column row = record { i = g.i0 +ℤ pos column; j = g.j0 +ℤ pos row; z = int_max g.bottom (int_min a.z b.z) }

-- What does not change: the heights over a grid, the move of a tool, and the allowed cells.
pub record IsMove (map : HeightMap) (g : Grid) (a b : Pt3) : Type 0 where
  pub law : TouchByHeightAndPlan
  pub grid : map.grid ≡ g
  pub straight : IsHorizontalOrVertical a b

touched_of : (map : HeightMap) (d : ℕ) (a b : Pt3) (cells : CellSet) (c : Cell) → IsGougedCell map d a b cells c → IsTouchedCell map d a b map.grid.bottom c
touched_of map d a b cells c gouged = record { left = gouged.left; from_height = gouged.left.above; touched = gouged.touched }

once_more : (z bottom bottom' low : ℤ) → bottom' ≡ bottom → z ≡ int_max bottom low → z ≡ int_max bottom' (int_max bottom low)
once_more z bottom bottom' low same is = omega (arith, ints, clamps)

height_is : (map : HeightMap) (g : Grid) (a b : Pt3) (low : Cell) (column row : ℕ) → map.grid ≡ g → low ≡ lowest_over g a b column row
    → low.z ≡ int_max map.grid.bottom (int_max g.bottom (int_min a.z b.z))
height_is map g a b low column row same is = once_more low.z g.bottom map.grid.bottom (int_min a.z b.z) (ap (λ g. g.bottom) same) (ap (λ c. c.z) is)

-- a gouged cell is over a node near the move
gouged_near : (map : HeightMap) (g : Grid) (d : ℕ) (a b : Pt3) (cells : CellSet) (c : Cell) → IsMove map g a b → IsGougedCell map d a b cells c
    → Near d (plan a) (plan b) (place g.pitch (node_of c))
gouged_near map g d a b cells c move gouged = touched_near move.law map g d a b map.grid.bottom c move.grid move.straight (touched_of map d a b cells c gouged)

-- and in a row beside it
pub gouged_beside : (map : HeightMap) (g : Grid) (d : ℕ) (a b : Pt3) (cells : CellSet) (c : Cell) (j : ℤ) → IsMove map g a b → c.j ≡ j
    → IsGougedCell map d a b cells c → IsBeside d a.y b.y (j *ℤ pos g.pitch)
gouged_beside map g d a b cells c j move is gouged =
    subst (λ k. IsBeside d a.y b.y (k *ℤ pos g.pitch)) is (near_up d (plan a) (plan b) (place g.pitch (node_of c)) (gouged_near map g d a b cells c move gouged))

-- where the lowest cell is not left, none over its node is gouged
pub gouged_is_left : (map : HeightMap) (g : Grid) (d : ℕ) (a b : Pt3) (cells : CellSet) (low c : Cell) (column row : ℕ) → IsMove map g a b
    → low ≡ lowest_over g a b column row → node_of c ≡ node_at g column row → IsGougedCell map d a b cells c → low.z <ℤ height_of map (node_of low)
gouged_is_left map g d a b cells low c column row move low_is is gouged =
    none_above move.law map g d a b map.grid.bottom low.z (height_of map (node_of low)) c (node_of low) move.grid move.straight
    (height_is map g a b low column row move.grid low_is) refl (is ∙ sym (ap node_of low_is)) (touched_of map d a b cells c gouged)

-- cells above an allowed one are allowed
high_above : (lowest : Option ℤ) (z z' : ℤ) → z ≤ℤ z' → IsHigh lowest z → IsHigh lowest z'
high_above None z z' above high = high
high_above (Some low) z z' above high = omega (arith, sums, above, high)

in_above : (cells : CellSet) (low c : Cell) → node_of low ≡ node_of c → low.z ≤ℤ c.z → HasIn cells low → HasIn cells c
in_above cells low c same above has =
    record { node = subst (λ n. Has cells.plane n) same has.node; height = high_above cells.lowest low.z c.z above has.height }

-- where the lowest cell is allowed, none over its node is gouged
pub allowed_over : (map : HeightMap) (g : Grid) (d : ℕ) (a b : Pt3) (cells : CellSet) (low c : Cell) (column row : ℕ) → IsMove map g a b
    → low ≡ lowest_over g a b column row → node_of c ≡ node_at g column row → HasIn cells low → ¬ IsGougedCell map d a b cells c
allowed_over map g d a b cells low c column row move low_is is has gouged =
    gouged.forbidden
    (in_above cells low c (ap node_of low_is ∙ sym is)
    (touched_high move.law map g d a b map.grid.bottom low.z c move.grid move.straight (height_is map g a b low column row move.grid low_is) (touched_of map d a b cells c gouged)) has)

-- else it is the first
pub first_over : (map : HeightMap) (g : Grid) (d : ℕ) (a b : Pt3) (cells : CellSet) (low : Cell) (column row : ℕ) → IsMove map g a b
    → low ≡ lowest_over g a b column row → IsInWindow g (node_at g column row) → Near d (plan a) (plan b) (place g.pitch (node_at g column row))
    → low.z <ℤ height_of map (node_of low) → ¬ HasIn cells low
    → IsFirst (λ c. (node_of c ≡ node_at g column row) × IsGougedCell map d a b cells c) low
first_over map g d a b cells low column row move low_is window near below forbidden =
    let f : IsFirst (λ c. (node_of c ≡ node_at g column row) × IsTouchedCell map d a b map.grid.bottom c) low =
    first_over_node move.law map g d a b map.grid.bottom low.i low.j low.z (height_of map (node_of low)) (node_at g column row) move.grid move.straight window
    (ap node_of low_is) (height_is map g a b low column row move.grid low_is) (ap (λ n. height_of map n) (ap node_of low_is)) below near in
    record {
      holds = (f.holds.0, record { left = f.holds.1.left; touched = f.holds.1.touched; forbidden = forbidden });
      first = λ other (there, gouged) before. f.first other (there, touched_of map d a b cells other gouged) before;
    }
