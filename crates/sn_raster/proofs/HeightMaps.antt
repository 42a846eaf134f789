-- Heights of nodes, and the cells that they stand for, as one height changes.
use Rattle.std.proofs.Common.{ℕ, ◌≡◌, ◌<◌, ◌*◌, ◌↔◌, ℤ, pos, negsuc, refl, ◌≤ℤ◌, ◌<ℤ◌, List, [], replicate, length, get_or, set, sym, ap, ◌∙◌, subst, get_or-set_same, get_or-set_other, w32, to_z, of_z, arith}
use Rattle.std.proofs.lemmas.List.{length-set, length-replicate}
use Rattle.std.proofs.lemmas.List.Elements.{All-set, All-get_or, All-replicate}
use Rattle.std.proofs.lemmas.Int.{ints, clamps, by_lt_z, to_z-of_z}
use Rattle.std.specs.Int.{int_min, int_max}
use Rattle.std.specs.List.{All}
use Rattle.sn_geom.proofs.Ring.{sums}
use Rattle.sn_outline.specs.Job.{Job}
use Rattle.sn_raster.specs.GridLaws.{RawNodesAreTheJobs}
use lib.Signed.{mag}
use mir.Val.{SFits}
use Rattle.sn_geom.specs.declared.units.Cell.{Cell}
use Rattle.sn_geom.specs.Length.{IsLength}
use Rattle.sn_raster.specs.Grid.{Grid, Node, IsGrid, IsGridOf, IsInWindow, IsInRaw, places}
use Rattle.sn_raster.specs.Plane.{mark_of}
use Rattle.sn_raster.specs.Heights.{node_of, IsMaterial, HeightMap, IsHeightMap, IsHeight, HasCell, height_of}
use Rattle.sn_raster.specs.RawSlab.{IsRawSlab}
use Rattle.sn_raster.proofs.Axis.{kept}
use Rattle.sn_raster.proofs.Marks.{mark_below, one_node, in_own_window}

abbrev pub node : ℤ → ℤ → Node
node i j = record { i = i; j = j }

abbrev pub cell : ℤ → ℤ → ℤ → Cell
cell i j z = record { i = i; j = j; z = z }

pub same_place : (i i' j j' : ℤ) → i ≡ i' → j ≡ j' → node i j ≡ node i' j'
same_place i i' j j' column row = λ k. record { i = column k; j = row k }

-- a height that was passed on
pub passed_height : (g h : Grid) (z : ℤ) → g ≡ h → SFits w32 z → IsHeight h z → IsHeight g (to_z w32 (of_z w32 z))
passed_height g h z same fits height = rw (to_z-of_z w32 z fits, same) height

between : (low high z : ℤ) → IsLength low → IsLength high → low ≤ℤ z → z ≤ℤ high → IsLength z
between low high z a b c d = omega (arith, ints)

-- a height is a length
pub height_length : (map : HeightMap) (z : ℤ) → IsHeightMap map → IsHeight map.grid z → IsLength z
height_length map z rule height = between map.grid.bottom map.grid.top z rule.grid.heights.0 rule.grid.heights.1 height.from_bottom height.to_top

-- the kept height of a node
pub kept_height : (map : HeightMap) (k : ℕ) (z : ℤ) → IsHeightMap map → k < places map.grid.i0 map.grid.i1 * places map.grid.j0 map.grid.j1 → z ≡ get_or map.heights k z
    → IsHeight map.grid z
kept_height map k z rule below is =
    let inside : k < length map.heights = rw rule.full below in
    subst (IsHeight map.grid) (sym is) (All-get_or (IsHeight map.grid) map.heights k z inside rule.within)

-- the height that is kept at the mark of a node is that of the node
pub set_height : (g : Grid) (heights : List ℤ) (n : Node) (k : ℕ) (h : ℤ) → k ≡ mark_of g n → k < length heights
    → height_of (record { grid = g; heights = set heights k h }) n ≡ h
set_height g heights n k h is below = rw (← is) (get_or-set_same heights k h (pos 0) below)

-- and of no other
pub set_other_height : (g : Grid) (heights : List ℤ) (n m : Node) (k : ℕ) (h : ℤ) → k ≡ mark_of g n → IsInWindow g n → IsInWindow g m → ¬ (m ≡ n)
    → height_of (record { grid = g; heights = set heights k h }) m ≡ height_of (record { grid = g; heights = heights }) m
set_other_height g heights n m k h is window window' other =
    get_or-set_other heights k (mark_of g m) h (pos 0) (λ same. other (one_node g m n window' window (same ∙ is)))

pub set_rule : (g : Grid) (heights : List ℤ) (k : ℕ) (h : ℤ) → IsHeightMap (record { grid = g; heights = heights }) → IsHeight g h
    → IsHeightMap (record { grid = g; heights = set heights k h })
set_rule g heights k h rule height = record {
  grid = rule.grid;
  full = length-set heights k h ∙ rule.full;
  within = All-set (IsHeight g) heights k h height rule.within;
}

lowered_height : (z old new to bottom : ℤ) → new ≡ int_min old (int_max to bottom) → bottom ≤ℤ z → (z <ℤ new → (z <ℤ old) × (z <ℤ to)) × (z <ℤ old → z <ℤ to → z <ℤ new)
lowered_height z old new to bottom is above = ((λ below. (omega (arith, ints, clamps), omega (arith, ints, clamps))), (λ below lower. omega (arith, ints, clamps)))

-- the cells over a node that was lowered
pub lowered : (old new : HeightMap) (i j to : ℤ) → new.grid ≡ old.grid
    → height_of new (node i j) ≡ int_min (height_of old (node i j)) (int_max to old.grid.bottom)
    → (z : ℤ) → HasCell new (cell i j z) ↔ (HasCell old (cell i j z) × (z <ℤ to))
lowered old new i j to same is z = (
  λ has.
      let P : Grid → Type 0 = λ g. g.bottom ≤ℤ z in
      let above = subst P same has.above in
      let both = (lowered_height z _ _ to old.grid.bottom is above).0 has.below in
      (record { in_window = in_own_window _ _ (node i j) (sym same) has.in_window; above = above; below = both.0 }, both.1),
  λ (has, low).
      let P : Grid → Type 0 = λ g. g.bottom ≤ℤ z in
      record {
        in_window = in_own_window _ _ (node i j) same has.in_window;
        above = subst P (sym same) has.above;
        below = (lowered_height z _ _ to old.grid.bottom is has.above).1 has.below low;
      },
)

-- the lowered height is a height
pub lower_height : (g : Grid) (old to : ℤ) → IsHeight g old → IsHeight g (int_min old (int_max to g.bottom))
lower_height g old to height = record { from_bottom = omega (arith, ints, clamps, height.from_bottom); to_top = omega (arith, ints, clamps, height.to_top) }

-- the cells over a node of the same height
pub same_cells : (old new : HeightMap) (c : Cell) → new.grid ≡ old.grid
    → (IsInWindow old.grid (node_of c) → height_of new (node_of c) ≡ height_of old (node_of c)) → HasCell new c ↔ HasCell old c
same_cells old new c same is =
    let P : Grid → Type 0 = λ g. g.bottom ≤ℤ c.z in (
      λ has.
          let window = in_own_window _ _ (node_of c) (sym same) has.in_window in
          record { in_window = window; above = subst P same has.above; below = subst (λ h. c.z <ℤ h) (is window) has.below },
      λ has. record { in_window = in_own_window _ _ (node_of c) same has.in_window; above = subst P (sym same) has.above; below = subst (λ h. c.z <ℤ h) (sym (is has.in_window)) has.below },
    )

-- the lowered height, computed
pub lower_value : (at at' max max' to to' bottom bottom' min : ℤ) → at' ≡ at → max' ≡ max → to' ≡ to → bottom' ≡ bottom → max ≡ int_max to' bottom' → min ≡ int_min at' max'
    → min ≡ int_min at (int_max to bottom)
lower_value at at' max max' to to' bottom bottom' min a x t b greater lesser = rw (lesser, a, x, greater, t, b) refl

pub fits : (z : ℤ) → mag z < 2147483648 → to_z w32 (of_z w32 z) ≡ z
fits (pos n) h = to_z-of_z w32 (pos n) (record { sfits = omega arith })
fits (negsuc n) h = to_z-of_z w32 (negsuc n) (record { sfits = omega arith })

-- the node that was passed on
pub passed_node : (i j : ℤ) → SFits w32 i → SFits w32 j → node (to_z w32 (of_z w32 i)) (to_z w32 (of_z w32 j)) ≡ node i j
passed_node i j column row = same_place _ i _ j (to_z-of_z w32 i column) (to_z-of_z w32 j row)

-- the lowered height is computed, is a height and is kept
pub record IsLowered (map : HeightMap) (at to min : ℤ) : Type 0 where
  pub value : min ≡ int_min at (int_max to map.grid.bottom)
  pub height : IsHeight map.grid min
  pub kept : to_z w32 (of_z w32 min) ≡ min

pub lower_facts : (map : HeightMap) (at max to to' bottom' min : ℤ) → IsHeightMap map → IsHeight map.grid at → mag max < 2147483648 → to' ≡ to
    → bottom' ≡ map.grid.bottom → max ≡ int_max to' bottom' → min ≡ int_min (to_z w32 (of_z w32 at)) (to_z w32 (of_z w32 max)) → IsLowered map at to min
lower_facts map at max to to' bottom' min rule height small t b greater lesser =
    let value = lower_value at _ max _ to to' map.grid.bottom bottom' min (kept at (height_length map at rule height)) (fits max small) t b greater lesser in
    let is_height = subst (IsHeight map.grid) (sym value) (lower_height map.grid at to height) in
    record { value = value; height = is_height; kept = kept min (height_length map min rule is_height) }

-- The raw box.

raw_or_not : {P : Type 0} (g : Grid) (n : Node) → (IsInRaw g n → P) → (¬ IsInRaw g n → P) → P
raw_or_not g n inside off =
    by_lt_z n.i g.ri0 (λ before. off (λ raw. omega (arith, sums, raw.left)))
    (λ left. by_lt_z g.ri1 n.i (λ past. off (λ raw. omega (arith, sums, raw.right)))
    (λ right. by_lt_z n.j g.rj0 (λ before. off (λ raw. omega (arith, sums, raw.front)))
    (λ front. by_lt_z g.rj1 n.j (λ past. off (λ raw. omega (arith, sums, raw.back)))
    (λ back. inside (record { left = left; right = right; front = front; back = back })))))

pub raw_length : (g : Grid) (z : ℤ) → IsGrid g → IsHeight g z → IsLength z
raw_length g z rule height = between g.bottom g.top z rule.heights.0 rule.heights.1 height.from_bottom height.to_top

-- heights without cells keep the rule
pub flat_rule : (g : Grid) (heights : List ℤ) (bottom : ℤ) (n : ℕ) → IsGrid g → g.bottom ≤ℤ g.top → bottom ≡ g.bottom → n ≡ places g.i0 g.i1 * places g.j0 g.j1
    → heights ≡ replicate n bottom → IsHeightMap (record { grid = g; heights = heights })
flat_rule g heights bottom n rule ends same count are = record {
  grid = rule;
  full = ap length are ∙ length-replicate n bottom ∙ count;
  within = subst (All (IsHeight g)) (sym are) (All-replicate (IsHeight g) n bottom (record { from_bottom = omega (arith, sums); to_top = omega (arith, sums) }));
}

-- the cells over a node of the height of the raw box
pub raw_cells : (g : Grid) (map : HeightMap) (c : Cell) → map.grid ≡ g → IsGrid g → (IsInRaw g (node_of c) → height_of map (node_of c) ≡ g.top)
    → (¬ IsInRaw g (node_of c) → height_of map (node_of c) ≡ g.bottom) → HasCell map c ↔ IsRawSlab g c
raw_cells g map c same rule raised flat =
    let P : Grid → Type 0 = λ g. g.bottom ≤ℤ c.z in
    let Q : ℤ → Type 0 = λ h. c.z <ℤ h in (
      λ has.
          let above = subst P same has.above in
          raw_or_not g (node_of c)
          (λ raw. record { raw = raw; above = above; below = subst Q (raised raw) has.below })
          (λ off. let below = subst Q (flat off) has.below in absurd (omega (arith, sums))),
      λ slab. record {
        in_window = in_own_window _ _ (node_of c) same (rule.raw (node_of c) slab.raw);
        above = subst P (sym same) slab.above;
        below = subst Q (sym (raised slab.raw)) slab.below;
      },
    )

-- they are the material before any pass
pub raw_material : RawNodesAreTheJobs → (g : Grid) (job : Job) (c : Cell) → 0 < job.pitch → IsGridOf g job → IsRawSlab g c ↔ IsMaterial job [] c
raw_material law g job c some of =
    let nodes = law g job (node_of c) some of in
    let heights = of.heights in (
      λ slab. record {
        raw = record { node = nodes.0 slab.raw; above = omega (arith, sums, slab.above, heights.0); below = omega (arith, sums, slab.below, heights.1) };
        uncut = λ pass (k, below, here). absurd (omega (arith, below));
      },
      λ material. record {
        raw = nodes.1 material.raw.node;
        above = omega (arith, sums, material.raw.above, heights.0);
        below = omega (arith, sums, material.raw.below, heights.1);
      },
    )

-- each node of the window has a height from the raw bottom to the raw top
pub node_height : (map : HeightMap) (n : Node) → IsHeightMap map → IsInWindow map.grid n → IsHeight map.grid (height_of map n)
node_height map n rule window =
    let below = mark_below map.grid n window in
    All-get_or (IsHeight map.grid) map.heights (mark_of map.grid n) (pos 0) (rw rule.full below) rule.within
