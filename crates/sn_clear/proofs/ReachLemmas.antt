-- Discs on the nodes of a window, and marks of planes by numbers.
use Rattle.std.proofs.Common.{◌≡◌, ◌↔◌, ℕ, zero, suc, ◌+◌, ◌-◌, ◌*◌, ◌/◌, ◌%◌, ◌<◌, ◌≤◌, inl, inr, ℤ, pos, ◌+ℤ◌, ◌-ℤ◌, ◌*ℤ◌, unsigned_abs, Bool, true, false, ◌&&◌, not, List, length, get_or, refl, sym, ap, ◌∙◌, subst, arith}
use Rattle.std.specs.List.{All}
use Rattle.std.proofs.lemmas.Bool.{cases_lt, and_parts, and_from}
use Rattle.std.proofs.lemmas.Int.{ints}
use Rattle.std.proofs.lemmas.Nat.{mul-add-lt, same_from_place, div-add-mod', mod_below, div_below}
use Rattle.std.proofs.lemmas.List.FromFn.{fill_by_all}
use Rattle.std.proofs.lemmas.List.Elements.{All-contains}
use Rattle.std.proofs.Math.Nat.{le-div_iff_mul-le, mul_comm}
use Rattle.sn_geom.proofs.Ring.{+ℤ-*ℤ}
use Rattle.sn_geom.specs.Sweep.{square}
use Rattle.sn_outline.specs.JobRule.{IsPitch}
use Rattle.sn_raster.specs.Grid.{Grid, Node, IsInWindow, InDisc, place}
use Rattle.sn_raster.specs.Plane.{Plane, Has}
use Rattle.sn_clear.specs.declared.spot.Spot.{Spot}
use Rattle.sn_clear.specs.declared.spot.Run.{Run}
use Rattle.sn_clear.specs.Window.{columns, rows, node_at, AreMarks}
use Rattle.sn_clear.specs.Field.{Field, apart, squared_distance, holds, spot_of}
use Rattle.sn_clear.specs.Columns.{is_covered, IsLeft}
use Rattle.sn_clear.specs.Strokes.{reach_of, window_of, holds_target, useful_centres, field_of, IsInside, IsOnRuns, IsWindowOf}
use Rattle.sn_clear.proofs.PlaceLemmas.{one_passes, which_passes}
use Rattle.sn_clear.proofs.DiscLemmas.{some_columns}
use Rattle.sn_clear.proofs.WindowLemmas.{has_mark, at_window, in_window_at, column_of, row_of}
use Rattle.sn_clear.proofs.CoverLemmas.{holds_is, covers_is, covered_is}

-- Distances.

between : (z : ℤ) (a b : ℕ) → unsigned_abs ((z +ℤ pos b) -ℤ (z +ℤ pos a)) ≡ apart a b
between z a b = omega (arith, ints)

scaled_apart : (a b p : ℕ) → apart (a * p) (b * p) ≡ apart a b * p
scaled_apart a b p =
    elim (cases_lt a b) [
      | inl less ↦
          let is : b ≡ a + (b - a) = omega (arith, less) in
          let scaled : b * p ≡ (a + (b - a)) * p = ap (λ k. k * p) is in
          let zero_part : a - b ≡ 0 = omega (arith, less) in
          let whole : apart a b * p ≡ (b - a) * p = ap (λ k. (k + (b - a)) * p) zero_part ∙ omega arith in
          omega (arith, scaled, whole)
      | inr more ↦
          let is : a ≡ b + (a - b) = omega (arith, more) in
          let scaled : a * p ≡ (b + (a - b)) * p = ap (λ k. k * p) is in
          let zero_part : b - a ≡ 0 = omega (arith, more) in
          let whole : apart a b * p ≡ (a - b) * p = ap (λ k. ((a - b) + k) * p) zero_part ∙ omega arith in
          omega (arith, scaled, whole)
    ]

-- how far two places of an axis are apart
axis : (first : ℤ) (a b p : ℕ) → unsigned_abs ((first +ℤ pos b) *ℤ pos p -ℤ (first +ℤ pos a) *ℤ pos p) ≡ apart a b * p
axis first a b p = rw (+ℤ-*ℤ first (pos b) (pos p), +ℤ-*ℤ first (pos a) (pos p)) (between (first *ℤ pos p) (a * p) (b * p) ∙ scaled_apart a b p)

squares : (m n p : ℕ) → 4 * (m * p * (m * p) + n * p * (n * p)) ≡ (m * m + n * n) * (4 * (p * p))
squares m n p = omega arith

apart_comm : (a b : ℕ) → apart a b ≡ apart b a
apart_comm a b = omega arith

pub distance_comm : (a b : Spot) → squared_distance a b ≡ squared_distance b a
distance_comm a b = rw (apart_comm a.column b.column, apart_comm a.row b.row) refl

-- a disc holds the nodes within its reach
pub disc_reach : (g : Grid) (d c r c' r' : ℕ) → 0 < g.pitch
    → InDisc g.pitch d (place g.pitch (node_at g c r)) (node_at g c' r')
    ↔ (squared_distance (record { column = c; row = r }) (record { column = c'; row = r' }) ≤ reach_of d g.pitch)
disc_reach g d c r c' r' some =
    let p = g.pitch in
    let m = apart c c' in
    let n = apart r r' in
    let whole : 4 * (square ((g.i0 +ℤ pos c') *ℤ pos p -ℤ (g.i0 +ℤ pos c) *ℤ pos p) + square ((g.j0 +ℤ pos r') *ℤ pos p -ℤ (g.j0 +ℤ pos r) *ℤ pos p))
    ≡ (m * m + n * n) * (4 * (p * p)) = rw (axis g.i0 c c' p, axis g.j0 r r' p) (squares m n p) in
    let positive : 0 < 4 * (p * p) = positive_square p some in
    let divide = le-div_iff_mul-le {k = 4 * (p * p)} {x = m * m + n * n} {y = d * d} positive in (
      (λ disc. divide.1 (omega (arith, whole, disc.close))),
      (λ near. let product = divide.0 near in record { close = omega (arith, whole, product) }),
    )
  where
    positive_square : (p : ℕ) → 0 < p → 0 < 4 * (p * p)
    positive_square (suc p) some = omega arith
    positive_square zero some = absurd (omega (arith, some))

-- Numbers and nodes.

pub number_below : (c r w h : ℕ) → c < w → r < h → r * w + c < w * h
number_below c r w h below_c below_r = mul-add-lt r w c h below_r below_c

number_parts : (c r w : ℕ) → c < w → ((r * w + c) / w ≡ r) × ((r * w + c) % w ≡ c)
number_parts c r w below =
    let some : 0 < w = omega (arith, below) in
    same_from_place ((r * w + c) / w) ((r * w + c) % w) r c w (mod_below (r * w + c) w some) below (div-add-mod' (r * w + c) w)

-- the node of the number of a node
pub spot_of_number : (f : Field) (c r : ℕ) → c < f.columns → spot_of f (r * f.columns + c) ≡ record { column = c; row = r }
spot_of_number f c r below = let parts = number_parts c r f.columns below in λ k. record { column = parts.1 k; row = parts.0 k }

-- the node of a number is in the window
pub record IsNumbered (f : Field) (g : Grid) (k : ℕ) : Type 0 where
  pub column : k % f.columns < columns g
  pub row : k / f.columns < rows g
  pub number : (k / f.columns) * columns g + k % f.columns ≡ k

pub numbered : (f : Field) (g : Grid) (d k : ℕ) → IsWindowOf f g d → k < f.columns * f.rows → IsNumbered f g k
numbered f g d k window below =
    let some = some_columns k f.columns f.rows below in
    let turned : k < f.rows * f.columns = rw (mul_comm f.rows f.columns) below in
    record {
      column = omega (arith, mod_below k f.columns some, window.columns_are);
      row = omega (arith, div_below k f.columns f.rows some turned, window.rows_are);
      number = ap (λ w. (k / f.columns) * w + k % f.columns) (sym window.columns_are) ∙ div-add-mod' k f.columns;
    }

-- the plane has the node of a number where it has its mark
pub numbered_mark : (f : Field) (g : Grid) (d k : ℕ) (p : Plane) → IsWindowOf f g d → k < f.columns * f.rows → p.grid ≡ g
    → Has p (node_at g (k % f.columns) (k / f.columns)) ↔ (get_or p.marks k false ≡ true)
numbered_mark f g d k p window below same =
    let here = numbered f g d k window below in
    let mark = has_mark p g (k % f.columns) (k / f.columns) same here.column here.row in
    let P : ℕ → Type 0 = λ m. get_or p.marks m false ≡ true in
    ((λ has. subst P here.number (mark.0 has)), (λ on. mark.1 (subst P (sym here.number) on)))

-- a node of the plane in the disc about the node of a number
abbrev pub HasNear : Field → Grid → Plane → ℕ → Type 0
HasNear f g p k =
    (c : ℕ) × (r : ℕ) × (c < columns g) × (r < rows g) × Has p (node_at g c r) × (holds f (spot_of f k) (record { column = c; row = r }) ≡ true)

-- near has the nodes in discs of diameter d about nodes of the plane
pub record IsDilated (g : Grid) (d : ℕ) (p near : Plane) : Type 0 where
  pub grid : near.grid ≡ g
  pub nodes : (n : Node) → Has near n ↔ (IsInWindow g n × ((m : Node) × Has p m × InDisc g.pitch d (place g.pitch m) n))

pub dilated_on : (g : Grid) (d : ℕ) (p near : Plane) → p.grid ≡ g → near.grid ≡ p.grid
    → ((n : Node) → Has near n ↔ (IsInWindow p.grid n × ((m : Node) × Has p m × InDisc p.grid.pitch d (place p.grid.pitch m) n)))
    → IsDilated g d p near
dilated_on g d p near same kept nodes =
    let P : Grid → Type 0 = λ h. (n : Node) → Has near n ↔ (IsInWindow h n × ((m : Node) × Has p m × InDisc h.pitch d (place h.pitch m) n)) in
    record { grid = kept ∙ same; nodes = subst P same nodes }

pub near_mark : (f : Field) (g : Grid) (d k : ℕ) (p near : Plane) → IsWindowOf f g d → 0 < g.pitch → p.grid ≡ g → IsDilated g d p near
    → k < f.columns * f.rows → (get_or near.marks k false ≡ true) ↔ HasNear f g p k
near_mark f g d k p near window some same dilated below =
    let here = numbered f g d k window below in
    let mark = numbered_mark f g d k near window below dilated.grid in
    let c = k % f.columns in
    let r = k / f.columns in (
      (λ on.
          let (inside, (m, has, disc)) = (dilated.nodes (node_at g c r)).0 (mark.1 on) in
          let P : Grid → Type 0 = λ h. IsInWindow h m in
          let at = at_window g m (subst P same has.in_window) in
          let Q : Node → Type 0 = λ n. InDisc g.pitch d (place g.pitch n) (node_at g c r) in
          let close = (disc_reach g d (column_of g m) (row_of g m) c r some).0 (subst Q at.is disc) in
          let turned = distance_comm (spot_of f k) (record { column = column_of g m; row = row_of g m }) in
          let there : Has p (node_at g (column_of g m) (row_of g m)) = subst (λ n. Has p n) at.is has in (
            column_of g m,
            row_of g m,
            at.column_in,
            at.row_in,
            there,
            (holds_is f (spot_of f k) (record { column = column_of g m; row = row_of g m })).1 (omega (arith, close, turned, window.reach_is)),
          )),
      (λ (c', r', below_c, below_r, has, near_by).
          let close = (holds_is f (spot_of f k) (record { column = c'; row = r' })).0 near_by in
          let turned = distance_comm (spot_of f k) (record { column = c'; row = r' }) in
          let disc = (disc_reach g d c' r' c r some).1 (omega (arith, close, turned, window.reach_is)) in
          mark.0 ((dilated.nodes (node_at g c r)).1 (in_window_at g c r here.column here.row, (node_at g c' r', has, disc)))),
    )

pub same_bool : (a b : Bool) → (a ≡ true → b ≡ true) → (b ≡ true → a ≡ true) → a ≡ b
same_bool true b to back = sym (to refl)
same_bool false true to back = back refl
same_bool false false to back = refl

-- Useful centres.

pub target_near : (g : Grid) (d k : ℕ) (targets : Plane) → targets.grid ≡ g → k < columns g * rows g
    → HasNear (window_of g d) g targets k ↔ (holds_target (window_of g d) targets k ≡ true)
target_near g d k targets same below =
    let f = window_of g d in
    let p : ℕ → Bool = λ m. get_or targets.marks m false && holds f (spot_of f k) (spot_of f m) in
    let window : IsWindowOf f g d = record { columns_are = refl; rows_are = refl; reach_is = refl } in (
      (λ (c, r, below_c, below_r, has, near_by).
          let number = number_below c r (columns g) (rows g) below_c below_r in
          let mark = (has_mark targets g c r same below_c below_r).0 has in
          let Q : Spot → Type 0 = λ s. holds f (spot_of f k) s ≡ true in
          let near_number = subst Q (sym (spot_of_number f c r below_c)) near_by in
          one_passes p (columns g * rows g) (r * columns g + c) number (and_from _ _ mark near_number)),
      (λ on.
          let (m, within, both) = which_passes p (columns g * rows g) on in
          let parts = and_parts _ _ both in
          let there = numbered f g d m window within in
          (m % columns g, m / columns g, there.column, there.row, (numbered_mark f g d m targets window within same).1 parts.0, parts.1)),
    )

pub useful_are : (g : Grid) (d : ℕ) (centres targets near : Plane) (centre_marks near_marks useful : List Bool) → 0 < g.pitch
    → targets.grid ≡ g → IsDilated g d targets near
    → AreMarks centres (columns g * rows g) centre_marks → AreMarks near (columns g * rows g) near_marks
    → length useful ≡ length centre_marks
    → ((k : ℕ) → k < length centre_marks → get_or useful k false ≡ (get_or centre_marks k false && get_or near_marks k false))
    → useful ≡ useful_centres (window_of g d) centres targets
useful_are g d centres targets near centre_marks near_marks useful some same dilated of_centres of_near full each =
    let f = window_of g d in
    let window : IsWindowOf f g d = record { columns_are = refl; rows_are = refl; reach_is = refl } in
    fill_by_all (λ k. get_or centres.marks k false && holds_target f targets k) useful (columns g * rows g) false (full ∙ of_centres.full) (λ k below.
    let within : k < length centre_marks = omega (arith, below, of_centres.full) in
    let mark = near_mark f g d k targets near window some same dilated below in
    let target = target_near g d k targets same below in
    let tests : get_or near.marks k false ≡ holds_target f targets k =
    same_bool _ _ (λ on. target.0 (mark.0 on)) (λ on. mark.1 (target.1 on)) in
    each k within
    ∙ ap (λ b. b && get_or near_marks k false) (of_centres.same k below)
    ∙ ap (λ b. get_or centres.marks k false && b) (of_near.same k below ∙ tests))

-- What the rows leave.

pub covered_near : (f : Field) (g : Grid) (d k : ℕ) (runs : List Run) (lines : Plane) → IsWindowOf f g d → All (IsInside g) runs
    → ((c r : ℕ) → c < columns g → r < rows g → Has lines (node_at g c r) ↔ IsOnRuns runs (record { column = c; row = r }))
    → HasNear f g lines k ↔ (is_covered f runs (spot_of f k) ≡ true)
covered_near f g d k runs lines window inside swept = (
  (λ (c, r, below_c, below_r, has, near_by).
      let (run, there, centre) = (swept c r below_c below_r).0 has in
      (covered_is f runs (spot_of f k)).1 (run, there, (covers_is f run (spot_of f k)).1 (record { column = c; row = r }, centre, turned (spot_of f k) (record { column = c; row = r }) near_by))),
  (λ on.
      let (run, there, covering) = (covered_is f runs (spot_of f k)).0 on in
      let (c, centre, near_by) = (covers_is f run (spot_of f k)).0 covering in
      let ends = All-contains (IsInside g) runs run inside there in
      let below_c : c.column < columns g = omega (arith, centre.column_to, ends.from_column, ends.to_column) in
      let below_r : c.row < rows g = omega (arith, centre.row_to, ends.from_row, ends.to_row) in
      (c.column, c.row, below_c, below_r, (swept c.column c.row below_c below_r).1 (run, there, centre), turned c (spot_of f k) near_by)),
)
  where
    turned : (a b : Spot) → holds f a b ≡ true → holds f b a ≡ true
    turned a b on = let near = (holds_is f a b).0 on in (holds_is f b a).1 (omega (arith, near, distance_comm a b))

pub left_are : (f : Field) (g : Grid) (d : ℕ) (runs : List Run) (targets lines covered : Plane) (target_marks covered_marks left : List Bool) → 0 < g.pitch
    → IsWindowOf f g d → All (IsInside g) runs → lines.grid ≡ g → IsDilated g d lines covered
    → ((c r : ℕ) → c < columns g → r < rows g → Has lines (node_at g c r) ↔ IsOnRuns runs (record { column = c; row = r }))
    → AreMarks targets (columns g * rows g) target_marks → AreMarks covered (columns g * rows g) covered_marks
    → ((k : ℕ) → k < length target_marks → get_or left k false ≡ (get_or target_marks k false && not (get_or covered_marks k false)))
    → IsLeft f targets.marks left runs
left_are f g d runs targets lines covered target_marks covered_marks left some window inside same dilated swept of_targets of_covered each = record {
  open_targets = λ k below.
      let count : f.columns * f.rows ≡ columns g * rows g =
      ap (λ n. n * f.rows) window.columns_are ∙ ap (λ n. columns g * n) window.rows_are in
      let within : k < columns g * rows g = omega (arith, below, count) in
      let inner : k < length target_marks = omega (arith, within, of_targets.full) in
      let mark = near_mark f g d k lines covered window some same dilated below in
      let covering = covered_near f g d k runs lines window inside swept in
      let tests : get_or covered.marks k false ≡ is_covered f runs (spot_of f k) =
      same_bool _ _ (λ on. covering.0 (mark.0 on)) (λ on. mark.1 (covering.1 on)) in
      each k inner
      ∙ ap (λ b. b && not (get_or covered_marks k false)) (of_targets.same k within)
      ∙ ap (λ b. get_or targets.marks k false && not b) (of_covered.same k within ∙ tests);
}

-- the marks of a plane over a grid
pub marks_over : (g : Grid) (p : Plane) (marks : List Bool) → p.grid ≡ g → AreMarks p (columns p.grid * rows p.grid) marks
    → AreMarks p (columns g * rows g) marks
marks_over g p marks same are = let P : Grid → Type 0 = λ h. AreMarks p (columns h * rows h) marks in subst P same are

pub marks_passed : (p : Plane) (count : ℕ) (marks passed : List Bool) → passed ≡ marks → AreMarks p count marks → AreMarks p count passed
marks_passed p count marks passed is are = let P : List Bool → Type 0 = λ ms. AreMarks p count ms in subst P (sym is) are

pub some_pitch : (pitch : ℕ) → IsPitch pitch → 0 < pitch
some_pitch pitch rule = omega (arith, rule.at_least)

pub field_is : (g : Grid) (d columns_count rows_count reach : ℕ) (useful : List Bool) (centres targets : Plane) → columns_count ≡ columns g → rows_count ≡ rows g
    → reach ≡ reach_of d g.pitch → useful ≡ useful_centres (window_of g d) centres targets
    → let f : Field = record { columns = columns_count; rows = rows_count; reach = reach; useful = useful } in f ≡ field_of g d centres targets
field_is g d c r reach useful centres targets is_c is_r is_reach is_useful =
    λ k. record { columns = is_c k; rows = is_r k; reach = is_reach k; useful = is_useful k }
