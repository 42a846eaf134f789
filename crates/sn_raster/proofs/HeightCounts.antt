-- How many cells heights have: their numbers go node by node, and over a node from the raw bottom up.
use Rattle.std.proofs.Common.{ℕ, zero, suc, ◌≡◌, ◌+◌, ◌-◌, ◌*◌, ◌≤◌, ◌<◌, ℤ, pos, ◌+ℤ◌, ◌-ℤ◌, unsigned_abs, List, length, get_or, take, sym, ap, subst, arith}
use Rattle.std.proofs.lemmas.Int.{ints, by_lt_z}
use Rattle.std.proofs.lemmas.List.{take_all}
use Rattle.std.proofs.lemmas.List.Sums.{sum_by_more, sum_by_more_le}
use Rattle.std.specs.List.{sum_by}
use Rattle.sn_geom.specs.declared.units.Cell.{Cell}
use Rattle.sn_raster.specs.Grid.{places}
use Rattle.sn_raster.specs.Plane.{mark_of}
use Rattle.sn_raster.specs.Heights.{HeightMap, IsHeightMap, HasCell, cells_left, height_of}
use Rattle.sn_raster.specs.Heights.{node_of as node_under}
use Rattle.sn_raster.specs.HeightLaws.{CellsAreCounted}
use Rattle.sn_raster.proofs.Marks.{mark_below, one_node}
use Rattle.sn_raster.proofs.Planes.{node_of, mark_of_node, node_in_window}
use Rattle.sn_raster.proofs.HeightMaps.{node_height}

by_lt : {P : Type 0} (a b : ℕ) → (a < b → P) → (b ≤ a → P) → P
by_lt a b below above = by_lt_z (pos a) (pos b) (λ h. below (omega (arith, ints))) (λ h. above (omega (arith, ints)))

-- ---- sums of fronts of a list
module _ (f : ℤ → ℕ) (xs : List ℤ) where
  abbrev pub before : ℕ → ℕ
  before k = sum_by f (take k xs)

  -- the sums rise
  rises : (k m : ℕ) → k + m ≤ length xs → before k ≤ before (k + m)
  rises k zero h = let e : k + 0 ≡ k = omega arith in rw e (omega arith)
  rises k (suc m) h =
      let earlier = rises k m (omega arith) in
      let e : k + suc m ≡ (k + m) + 1 = omega arith in
      let step = sum_by_more f xs (k + m) (pos 0) (omega arith) in
      rw e (omega (arith, step, earlier))

  -- what is numbered before the end of one element is before a later one
  pub later : (k m : ℕ) → k < m → m ≤ length xs → before k + f (get_or xs k (pos 0)) ≤ before m
  later k m less within =
      let step = sum_by_more f xs k (pos 0) (omega arith) in
      let e : m ≡ (k + 1) + (m - (k + 1)) = omega arith in
      let up : before (k + 1) ≤ before ((k + 1) + (m - (k + 1))) = rises (k + 1) (m - (k + 1)) (omega arith) in
      let up' : before (k + 1) ≤ before m = rw e up in
      omega (arith, step, up')

  -- the element at which a sum is reached
  pub record IsIn (x k : ℕ) : Type 0 where
    pub within : k < length xs
    pub from : before k ≤ x
    pub to : x < before k + f (get_or xs k (pos 0))

  pub find_in : (n x : ℕ) → n ≤ length xs → x < before n → (k : ℕ) × IsIn x k
  find_in zero x within below = absurd (omega (arith, below))
  find_in (suc n) x within below =
      let step = sum_by_more f xs n (pos 0) (omega arith) in
      let e : n + 1 ≡ suc n = omega arith in
      let step' : before (suc n) ≡ before n + f (get_or xs n (pos 0)) = rw e at step in
      by_lt x (before n) (λ earlier. find_in n x (omega arith) earlier)
      (λ from. (n, record { within = omega arith; from = from; to = omega (arith, below, step') }))

-- ---- the number of a cell
abbrev above : HeightMap → ℤ → ℕ
above map height = unsigned_abs (height -ℤ map.grid.bottom)

abbrev number : HeightMap → Cell → ℕ
number map c = before (above map) map.heights (mark_of map.grid (node_under c)) + above map c.z

same_cell : (c d : Cell) → c.i ≡ d.i → c.j ≡ d.j → c.z ≡ d.z → c ≡ d
same_cell c d column row height = λ k. record { i = column k; j = row k; z = height k }

-- a cell is numbered within its node
number_in : (map : HeightMap) (c : Cell) → IsHeightMap map → HasCell map c → IsIn (above map) map.heights (number map c) (mark_of map.grid (node_under c))
number_in map c rule has =
    let below = mark_below map.grid (node_under c) has.in_window in
    let full = rule.full in
    let low = has.above in
    let high = has.below in
    record {
      within = omega arith;
      from = omega arith;
      to = let less : above map c.z < above map (height_of map (node_under c)) = omega (arith, ints) in omega (arith, less);
    }

-- what is numbered alike is in one node
one_mark : (f : ℤ → ℕ) (xs : List ℤ) (x k m : ℕ) → IsIn f xs x k → IsIn f xs x m → k ≡ m
one_mark f xs x k m first second =
    by_lt k m (λ less. let up = later f xs k m less (omega (arith, second.within)) in absurd (omega (arith, up, first.to, second.from)))
    (λ not_less. by_lt m k (λ less. let up = later f xs m k less (omega (arith, first.within)) in absurd (omega (arith, up, second.to, first.from))) (λ not_less'. omega arith))

apart : (map : HeightMap) (c d : Cell) → IsHeightMap map → HasCell map c → HasCell map d → number map c ≡ number map d → c ≡ d
apart map c d rule has has' same =
    let first = number_in map c rule has in
    let P : ℕ → Type 0 = λ x. IsIn (above map) map.heights x (mark_of map.grid (node_under d)) in
    let second = subst P (sym same) (number_in map d rule has') in
    let marks = one_mark (above map) map.heights (number map c) _ _ first second in
    let nodes = one_node map.grid (node_under c) (node_under d) has.in_window has'.in_window marks in
    let sums = ap (before (above map) map.heights) marks in
    let low = has.above in
    let low' = has'.above in
    let heights : above map c.z ≡ above map d.z = omega (arith, sums, same) in
    same_cell c d (ap (λ n. n.i) nodes) (ap (λ n. n.j) nodes) (omega (arith, ints, heights))

each : (map : HeightMap) (x : ℕ) → IsHeightMap map → x < cells_left map → (c : Cell) × HasCell map c × (number map c ≡ x)
each map x rule below =
    let f = above map in
    let all : before f map.heights (length map.heights) ≡ cells_left map = ap (sum_by f) (take_all (length map.heights) map.heights (omega arith)) in
    let (k, here) = find_in f map.heights (length map.heights) x (omega arith) (omega (arith, all, below)) in
    let within : k < places map.grid.i0 map.grid.i1 * places map.grid.j0 map.grid.j1 = (let full = rule.full in let w = here.within in omega arith) in
    let n = node_of map.grid k in
    let window = node_in_window map.grid k within in
    let mark = mark_of_node map.grid k in
    let height = node_height map n rule window in
    let height_is : height_of map n ≡ get_or map.heights k (pos 0) = ap (λ m. get_or map.heights m (pos 0)) mark in
    let c : Cell = record { i = n.i; j = n.j; z = map.grid.bottom +ℤ pos (x - before f map.heights k) } in
    let fs = ap f height_is in
    let from = here.from in
    let to = here.to in
    let low = height.from_bottom in
    let bs = ap (before f map.heights) mark in
    let z_above : f c.z ≡ x - before f map.heights k = omega (arith, ints) in
    (c, record { in_window = window; above = omega (arith, ints); below = omega (arith, ints, fs, to, low) }, omega (arith, bs, z_above, from))

pub cells_are_counted : CellsAreCounted
cells_are_counted map rule = (
  number map,
  record {
    below = λ c has.
        let f = above map in
        let here = number_in map c rule has in
        let up = sum_by_more_le f map.heights (mark_of map.grid (node_under c)) (pos 0) here.within in
        omega (arith, up, here.to);
    apart = λ c d has has' same. apart map c d rule has has' same;
    each = λ k below. each map k rule below;
  },
)
