-- Tops of heights, node by node and row by row.
use Rattle.std.proofs.Common.{◌≡◌, ◌⊎◌, inl, inr, ℤ, pos, ◌+ℤ◌, ◌-ℤ◌, ◌≤ℤ◌, ◌<ℤ◌, ⊎_elim, refl, sym, ap, ◌∙◌, subst, arith}
use Rattle.std.proofs.lemmas.Int.{ints, clamps, by_lt_z}
use Rattle.std.specs.Int.{int_max}
use Rattle.sn_geom.proofs.Ring.{sums}
use Rattle.sn_geom.specs.Length.{IsLength}
use Rattle.sn_geom.specs.declared.units.Cell.{Cell}
use Rattle.sn_raster.specs.Grid.{Grid, Node, IsInWindow, IsInRaw}
use Rattle.sn_raster.specs.Plane.{Plane, Has}
use Rattle.sn_raster.specs.Heights.{HeightMap, IsHeightMap, IsTop, IsTopOfCells, height_of, node_of}
use Rattle.sn_raster.specs.HeightLaws.{TopIsOne}
use Rattle.sn_raster.proofs.HeightMaps.{node, same_place, node_height}

-- ---- one node
pub top_here : (map : HeightMap) (area : Plane) (n m : Node) (top : ℤ) → m ≡ n → Has area m → top ≡ height_of map m → IsTop map (λ k. (k ≡ n) × Has area k) top
top_here map area n m top same has is = record {
  greatest = λ k (at, _). let e : height_of map k ≡ top = ap (height_of map) (at ∙ sym same) ∙ sym is in omega (arith, ints);
  reached = inr (m, (same, has), sym is);
}

pub top_none : (map : HeightMap) (g : Grid) (area : Plane) (n m : Node) (top : ℤ) → map.grid ≡ g → m ≡ n → ¬ Has area m → top ≡ g.bottom → IsTop map (λ k. (k ≡ n) × Has area k) top
top_none map g area n m top same at off is = record {
  greatest = λ k (here, has). absurd (off (subst (λ (x : Node). Has area x) (here ∙ sym at) has));
  reached = inl (is ∙ sym (ap (λ g. g.bottom) same));
}

-- ---- more nodes
pub top_of_none : (map : HeightMap) (g : Grid) (N : Node → Type 0) (top : ℤ) → map.grid ≡ g → ((n : Node) → ¬ N n) → top ≡ g.bottom → IsTop map N top
top_of_none map g N top same none is = record { greatest = λ n here. absurd (none n here); reached = inl (is ∙ sym (ap (λ g. g.bottom) same)) }

pub top_or : (map : HeightMap) (N M K : Node → Type 0) (a b top : ℤ) → top ≡ int_max a b → ((n : Node) → K n → N n ⊎ M n) → ((n : Node) → N n → K n) → ((n : Node) → M n → K n)
    → IsTop map N a → IsTop map M b → IsTop map K top
top_or map N M K a b top is parts left right first second = record {
  greatest = λ n k.
      ⊎_elim (λ h. let below = first.greatest n h in omega (arith, ints, clamps)) (λ h. let below = second.greatest n h in omega (arith, ints, clamps)) (parts n k);
  reached =
      by_lt_z a b
      (λ less.
      let same : top ≡ b = omega (arith, ints, clamps) in
      ⊎_elim (λ low. inl (same ∙ low)) (λ ((n, h, at) : (n : Node) × M n × (height_of map n ≡ b)). inr (n, right n h, at ∙ sym same)) second.reached)
      (λ more.
      let same : top ≡ a = omega (arith, ints, clamps) in
      ⊎_elim (λ low. inl (same ∙ low)) (λ ((n, h, at) : (n : Node) × N n × (height_of map n ≡ a)). inr (n, left n h, at ∙ sym same)) first.reached);
}

pub top_same : (map : HeightMap) (N K : Node → Type 0) (top : ℤ) → ((n : Node) → K n → N n) → ((n : Node) → N n → K n) → IsTop map N top → IsTop map K top
top_same map N K top to back is = record {
  greatest = λ n k. is.greatest n (to n k);
  reached = ⊎_elim (λ low. inl low) (λ ((n, h, at) : (n : Node) × N n × (height_of map n ≡ top)). inr (n, back n h, at)) is.reached;
}

-- ---- cells
pub top_of_cells : (map : HeightMap) (N : Node → Type 0) (top : ℤ) → IsHeightMap map → ((n : Node) → N n → IsInWindow map.grid n) → IsTop map N top → IsTopOfCells map N top
top_of_cells map N top rule inside is = record {
  none_above = λ c n has. let low = is.greatest (node_of c) n in let below = has.below in omega (arith, ints);
  reached = ⊎_elim (λ low. inl low)
      (λ ((n, h, at) : (n : Node) × N n × (height_of map n ≡ top)).
      let height = node_height map n rule (inside n h) in
      by_lt_z map.grid.bottom (height_of map n)
      (λ above.
      let c : Cell = record { i = n.i; j = n.j; z = height_of map n -ℤ pos 1 } in
      inr (c, h, record { in_window = inside n h; above = omega (arith, ints); below = omega (arith, ints) }, omega (arith, ints)))
      (λ low. let e : top ≡ map.grid.bottom = (let l = height.from_bottom in omega (arith, ints)) in inl e)) is.reached;
}

-- ---- one top alone
not_above : (map : HeightMap) (N : Node → Type 0) (top other : ℤ) → IsHeightMap map → ((n : Node) → N n → IsInWindow map.grid n) → IsTop map N top → IsTop map N other → top ≤ℤ other
not_above map N top other rule inside first second =
    ⊎_elim
    (λ low.
    ⊎_elim (λ low'. omega (arith, ints))
    (λ ((n, h, at) : (n : Node) × N n × (height_of map n ≡ other)). let height = (node_height map n rule (inside n h)).from_bottom in omega (arith, ints)) second.reached)
    (λ ((n, h, at) : (n : Node) × N n × (height_of map n ≡ top)). let below = second.greatest n h in omega (arith, ints)) first.reached

antisym : (a b : ℤ) → a ≤ℤ b → b ≤ℤ a → a ≡ b
antisym a b h k = omega (arith, ints)

pub top_is_one : TopIsOne
top_is_one map area top other rule same first second =
    let N : Node → Type 0 = λ n. IsInRaw map.grid n × Has area n in
    let inside : (n : Node) → N n → IsInWindow map.grid n = λ n h. rule.grid.raw n h.0 in
    antisym top other (not_above map N top other rule inside first second) (not_above map N other top rule inside second first)

-- ---- rows
pub raw_here : (g : Grid) (i j j' end : ℤ) → j' ≡ j → end ≡ g.ri1 +ℤ pos 1 → g.ri0 ≤ℤ i → i <ℤ end → g.rj0 ≤ℤ j → j ≤ℤ g.rj1 → IsInRaw g (node i j')
raw_here g i j j' end e f left right front back = record {
  left = left;
  right = omega (arith, sums);
  front = omega (arith, sums);
  back = omega (arith, sums);
}

pub max_length : (a b top : ℤ) → top ≡ int_max a b → IsLength a → IsLength b → IsLength top
max_length a b top is h k = omega (arith, ints, clamps)

-- one node more
pub top_one_more : (map : HeightMap) (g : Grid) (area : Plane) (i j next : ℤ) (a b top : ℤ) → next ≡ i +ℤ pos 1 → IsInRaw g (node i j) → top ≡ int_max a b
    → IsTop map (λ n. (n.j ≡ j) × (n.i <ℤ i) × IsInRaw g n × Has area n) a → IsTop map (λ n. (n ≡ node i j) × Has area n) b
    → IsTop map (λ n. (n.j ≡ j) × (n.i <ℤ next) × IsInRaw g n × Has area n) top
top_one_more map g area i j next a b top is raw max first second =
    top_or map (λ n. (n.j ≡ j) × (n.i <ℤ i) × IsInRaw g n × Has area n) (λ n. (n ≡ node i j) × Has area n) (λ n. (n.j ≡ j) × (n.i <ℤ next) × IsInRaw g n × Has area n) a b top max
    (λ n (row, below, inside, has).
    by_lt_z n.i i (λ before. inl (row, before, inside, has)) (λ reached. let column : n.i ≡ i = omega (arith, sums) in inr (same_place n.i i n.j j column row, has)))
    (λ n (row, below, inside, has). (row, omega (arith, sums), inside, has))
    (λ n (here, has).
    let R : Node → Type 0 = λ m. IsInRaw g m in
    let column : n.i ≡ i = ap (λ m. m.i) here in
    (ap (λ m. m.j) here, omega (arith, sums), subst R (sym here) raw, has))
    first second

-- one row more
pub top_row_more : (map : HeightMap) (g : Grid) (area : Plane) (j next : ℤ) (a b top : ℤ) → next ≡ j +ℤ pos 1 → top ≡ int_max a b
    → IsTop map (λ n. (n.j <ℤ j) × IsInRaw g n × Has area n) a → IsTop map (λ n. (n.j ≡ j) × IsInRaw g n × Has area n) b
    → IsTop map (λ n. (n.j <ℤ next) × IsInRaw g n × Has area n) top
top_row_more map g area j next a b top is max first second =
    top_or map (λ n. (n.j <ℤ j) × IsInRaw g n × Has area n) (λ n. (n.j ≡ j) × IsInRaw g n × Has area n) (λ n. (n.j <ℤ next) × IsInRaw g n × Has area n) a b top max
    (λ n (below, inside, has). by_lt_z n.j j (λ before. inl (before, inside, has)) (λ reached. inr (omega (arith, sums), inside, has)))
    (λ n (below, inside, has). (omega (arith, sums), inside, has))
    (λ n (row, inside, has). (omega (arith, sums), inside, has))
    first second

pub max_value : (a a' b b' top : ℤ) → a' ≡ a → b' ≡ b → top ≡ int_max a' b' → top ≡ int_max a b
max_value a a' b b' top e f is = rw (is, e, f) refl
