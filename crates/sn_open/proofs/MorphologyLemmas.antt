-- Erosion and dilation by what marks cover.
use Rattle.std.proofs.Common.{ℕ, ◌≤ℤ◌, ◌≡◌, ◌+◌, ◌*◌, ◌<◌, ◌≤◌, ◌↔◌, ◌⊎◌, inl, inr, Bool, true, false, List, get_or, ℤ, pos, ◌-ℤ◌, ◌*ℤ◌, unsigned_abs, refl, sym, ap, ◌∙◌, subst, ⊎_elim, arith}
use Rattle.std.proofs.lemmas.Bool.{cases_lt, false≢true}
use Rattle.std.proofs.lemmas.Int.{ints, clamps, unsigned_abs-mul}
use Rattle.std.proofs.lemmas.Nat.{mul-le}
use Rattle.sn_geom.proofs.Ring.{sums, expand}
use Rattle.sn_raster.specs.Grid.{Grid, Node, Nodes, place, places, InDisc, IsInWindow}
use Rattle.sn_raster.specs.Plane.{Plane, Has, mark_of}
use Rattle.sn_open.specs.Window.{rows, IsMarked}
use Rattle.sn_open.specs.Spread.{IsCovered}
use Rattle.sn_open.proofs.WindowLemmas.{in_own_window}
use Rattle.sn_open.proofs.WidthLemmas.{square_le}
use Rattle.sn_open.specs.Morphology.{HasDisc, IsNearOne}
use Rattle.sn_open.specs.Widths.{IsWithin, AreDiscWidths}

-- Distances of nodes.

scaled : (a b : ℤ) (pitch : ℕ) → unsigned_abs (a *ℤ pos pitch -ℤ b *ℤ pos pitch) ≡ unsigned_abs (a -ℤ b) * pitch
scaled a b pitch = ap unsigned_abs (taken_out a b (pos pitch)) ∙ unsigned_abs-mul (a -ℤ b) (pos pitch)
  where
    taken_out : (a b c : ℤ) → a *ℤ c -ℤ b *ℤ c ≡ (a -ℤ b) *ℤ c
    taken_out a b c = simp expand (omega (arith, sums))

swap : (a b : ℤ) → unsigned_abs (a -ℤ b) ≡ unsigned_abs (b -ℤ a)
swap a b = omega (arith, ints)

-- a node is in a disc about another by how many columns and rows lie between
pub in_disc : (pitch d : ℕ) (c n : Node) → InDisc pitch d (place pitch c) n ↔ IsWithin d pitch (unsigned_abs (n.i -ℤ c.i)) (unsigned_abs (n.j -ℤ c.j))
in_disc pitch d c n =
    let across = scaled n.i c.i pitch in
    let along = scaled n.j c.j pitch in (
      λ disc. rw (← across, ← along) disc.close,
      λ within. record { close = rw (across, along) within },
    )

-- from either side
pub in_disc_back : (pitch d : ℕ) (c n : Node) → InDisc pitch d (place pitch c) n → InDisc pitch d (place pitch n) c
in_disc_back pitch d c n disc =
    let within = (in_disc pitch d c n).0 disc in
    (in_disc pitch d n c).1 (rw (swap c.i n.i, swap c.j n.j) within)

rows_between : (first last a b : ℤ) → first ≤ℤ a → a ≤ℤ last → first ≤ℤ b → b ≤ℤ last → unsigned_abs (a -ℤ b) < places first last
rows_between first last a b p q r s = omega (arith, ints, clamps)

pub few_rows : (g : Grid) (n m : Node) → IsInWindow g n → IsInWindow g m → unsigned_abs (n.j -ℤ m.j) < rows g
few_rows g n m w v = rows_between g.j0 g.j1 n.j m.j w.front w.back v.front v.back

-- what a disc covers
pub covered_disc : (plane : Plane) (on : Bool) (d : ℕ) (widths : List ℕ) (n : Node) → AreDiscWidths d plane.grid.pitch (rows plane.grid) widths → IsInWindow plane.grid n
    → IsCovered plane on widths n ↔ ((q : Node) × IsMarked plane on q × InDisc plane.grid.pitch d (place plane.grid.pitch q) n)
covered_disc plane on d widths n are window =
    let g = plane.grid in (
      λ (q, covers).
          (q, covers.marked, (in_disc g.pitch d q n).1 ((are.each (unsigned_abs (n.j -ℤ q.j)) (few_rows g n q window covers.marked.window) (unsigned_abs (n.i -ℤ q.i))).0 covers.near)),
      λ (q, marked, near).
          (q, record { marked = marked; near = (are.each (unsigned_abs (n.j -ℤ q.j)) (few_rows g n q window marked.window) (unsigned_abs (n.i -ℤ q.i))).1 ((in_disc g.pitch d q n).0 near) }),
    )

-- A node of the window is in a plane or not.

either : (b : Bool) → (b ≡ true) ⊎ (b ≡ false)
either true = inl refl
either false = inr refl

pub has_or_lacks : (plane : Plane) (n : Node) → IsInWindow plane.grid n → Has plane n ⊎ (¬ Has plane n)
has_or_lacks plane n window =
    ⊎_elim (λ (on : get_or plane.marks (mark_of plane.grid n) false ≡ true). inl (record { in_window = window; marked = on }))
    (λ (off : get_or plane.marks (mark_of plane.grid n) false ≡ false). inr (λ has. false≢true (sym off ∙ has.marked))) (either (get_or plane.marks (mark_of plane.grid n) false))

lacked : (plane : Plane) (n : Node) → IsInWindow plane.grid n → ¬ Has plane n → IsMarked plane false n
lacked plane n window none = record { window = window; value = ((λ has. absurd (none has)), (λ e. absurd (false≢true e))) }

had : (plane : Plane) (n : Node) → Has plane n → IsMarked plane true n
had plane n has = record { window = has.in_window; value = ((λ _. refl), (λ _. has)) }

-- where the plane lacks no node that holds P, it has all of them
all_or_one : (plane : Plane) (P : Nodes) → ¬ ((q : Node) × IsMarked plane false q × P q) ↔ ((q : Node) → IsInWindow plane.grid q → P q → Has plane q)
all_or_one plane P = (
  λ none q window p. ⊎_elim (λ (has : Has plane q). has) (λ (lacks : ¬ Has plane q). absurd (none (q, lacked plane q window lacks, p))) (has_or_lacks plane q window),
  λ all (q, marked, p). false≢true (marked.value.0 (all q marked.window p)),
)

-- Erosion and dilation.

abbrev IsSpread : Plane → Bool → List ℕ → Plane → Type 0
IsSpread from on widths to = (n : Node) → Has to n ↔ (IsInWindow from.grid n × IsCovered from on widths n)

abbrev IsInverse : Plane → Plane → Type 0
IsInverse old new = (n : Node) → Has new n ↔ (IsInWindow old.grid n × (¬ Has old n))

pub eroded : (from mid to : Plane) (d : ℕ) (widths : List ℕ) → AreDiscWidths d from.grid.pitch (rows from.grid) widths → mid.grid ≡ from.grid
    → IsSpread from false widths mid → IsInverse mid to → (n : Node) → Has to n ↔ (IsInWindow from.grid n × HasDisc from d n)
eroded from mid to d widths are same spread inverse n =
    let g = from.grid in (
      λ has.
          let (window', none) = (inverse n).0 has in
          let window = in_own_window g mid.grid n (sym same) window' in (
            window,
            (λ q q_in near.
                (all_or_one from (λ m. InDisc g.pitch d (place g.pitch m) n)).0 (λ some. none ((spread n).1 (window, (covered_disc from false d widths n are window).1 some))) q q_in
                (in_disc_back g.pitch d n q near)),
          ),
      λ (window, clear).
          (inverse n).1 (
            in_own_window mid.grid g n same window,
            λ covered.
                (all_or_one from (λ m. InDisc g.pitch d (place g.pitch m) n)).1 (λ q q_in near. clear q q_in (in_disc_back g.pitch d q n near))
                ((covered_disc from false d widths n are window).0 ((spread n).0 covered).1),
          ),
    )

pub dilated : (from to : Plane) (d : ℕ) (widths : List ℕ) → AreDiscWidths d from.grid.pitch (rows from.grid) widths → IsSpread from true widths to
    → (n : Node) → Has to n ↔ (IsInWindow from.grid n × IsNearOne from d n)
dilated from to d widths are spread n = (
  λ has.
      let (window, covered) = (spread n).0 has in
      let (q, marked, near) = (covered_disc from true d widths n are window).0 covered in (window, (q, marked.value.1 refl, near)),
  λ (window, (q, has, near)). (spread n).1 (window, (covered_disc from true d widths n are window).1 (q, had from q has, near)),
)

-- Discs of one node.

alone : (d pitch m k : ℕ) → d < 2 * pitch → IsWithin d pitch m k → (m ≡ 0) × (k ≡ 0)
alone d pitch m k small within =
    let more : (d + 1) * (d + 1) ≤ 2 * pitch * (2 * pitch) = square_le (d + 1) (2 * pitch) (omega arith) in (
      ⊎_elim (λ (some : 0 < m). let h = square_le pitch (m * pitch) (at_least m pitch some) in absurd (omega arith)) (λ (none : m ≤ 0). omega arith) (cases_lt 0 m),
      ⊎_elim (λ (some : 0 < k). let h = square_le pitch (k * pitch) (at_least k pitch some) in absurd (omega arith)) (λ (none : k ≤ 0). omega arith) (cases_lt 0 k),
    )
  where
    at_least : (m pitch : ℕ) → 0 < m → pitch ≤ m * pitch
    at_least m pitch some = let h : 1 * pitch ≤ m * pitch = mul-le 1 pitch m pitch (omega arith) (omega arith) in omega arith

same_number : (a b : ℤ) → unsigned_abs (a -ℤ b) ≡ 0 → a ≡ b
same_number a b none = omega (arith, ints)

no_distance : (a : ℤ) → unsigned_abs (a -ℤ a) ≡ 0
no_distance a = omega (arith, ints)

no_other : (pitch d : ℕ) (c n : Node) → d < 2 * pitch → InDisc pitch d (place pitch c) n → n ≡ c
no_other pitch d c n small disc =
    let (across, along) = alone d pitch _ _ small ((in_disc pitch d c n).0 disc) in
    let column = same_number n.i c.i across in
    let row = same_number n.j c.j along in λ k. record { i = column k; j = row k }

has_centre : (pitch d : ℕ) (n : Node) → InDisc pitch d (place pitch n) n
has_centre pitch d n = (in_disc pitch d n n).1 (rw (no_distance n.i, no_distance n.j) (omega arith))

pub eroded_alone : (from to : Plane) (d : ℕ) → d < 2 * from.grid.pitch → to ≡ from → (n : Node) → Has to n ↔ (IsInWindow from.grid n × HasDisc from d n)
eroded_alone from to d small same n =
    let pitch = from.grid.pitch in
    subst (λ (p : Plane). Has p n ↔ (IsInWindow from.grid n × HasDisc from d n)) (sym same) (
      λ has. (has.in_window, λ q q_in near. subst (λ m. Has from m) (sym (no_other pitch d n q small near)) has),
      λ (window, clear). clear n window (has_centre pitch d n),
    )

pub dilated_alone : (from to : Plane) (d : ℕ) → d < 2 * from.grid.pitch → to ≡ from → (n : Node) → Has to n ↔ (IsInWindow from.grid n × IsNearOne from d n)
dilated_alone from to d small same n =
    let pitch = from.grid.pitch in
    subst (λ (p : Plane). Has p n ↔ (IsInWindow from.grid n × IsNearOne from d n)) (sym same) (
      λ has. (has.in_window, (n, has, has_centre pitch d n)),
      λ (window, (q, has, near)). subst (λ m. Has from m) (sym (no_other pitch d q n small near)) has,
    )
