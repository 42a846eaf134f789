-- The five by five block of nodes, by the nodes beside nodes.
use Rattle.std.proofs.Common.{◌≡◌, ◌≤◌, ◌↔◌, ℤ, pos, ◌+ℤ◌, ◌-ℤ◌, ◌≤ℤ◌, unsigned_abs, refl, sym, ◌∙◌, subst, arith}
use Rattle.std.proofs.lemmas.Int.{ints, by_lt_z}
use Rattle.sn_raster.specs.Grid.{Grid, Node, IsInWindow}
use Rattle.sn_raster.specs.Plane.{Plane, Has}
use Rattle.sn_raster.specs.Neighbours.{IsBesideInRow, IsBesideInColumn}
use Rattle.sn_open.specs.Morphology.{HasBlock}

-- a place that is at most one from each of two others, and between them
record IsMiddle (first last a b m : ℤ) : Type 0 where
  near : unsigned_abs (m -ℤ a) ≤ 1
  near_other : unsigned_abs (b -ℤ m) ≤ 1
  low : first ≤ℤ m
  high : m ≤ℤ last

middle : (first last a b : ℤ) → unsigned_abs (b -ℤ a) ≤ 2 → first ≤ℤ a → a ≤ℤ last → first ≤ℤ b → b ≤ℤ last → (m : ℤ) × IsMiddle first last a b m
middle first last a b near low high low' high' =
    by_lt_z a b
    (λ before. (b -ℤ pos 1, record { near = omega (arith, ints); near_other = omega (arith, ints); low = omega (arith, ints); high = omega (arith, ints) }))
    (λ from.
    by_lt_z b a
    (λ after. (b +ℤ pos 1, record { near = omega (arith, ints); near_other = omega (arith, ints); low = omega (arith, ints); high = omega (arith, ints) }))
    (λ upto. (b, record { near = omega (arith, ints); near_other = omega (arith, ints); low = low'; high = high' })))

two_near : (a m b : ℤ) → unsigned_abs (m -ℤ a) ≤ 1 → unsigned_abs (b -ℤ m) ≤ 1 → unsigned_abs (b -ℤ a) ≤ 2
two_near a m b near near' = omega (arith, ints)

-- the nodes of a plane that has also those that lie so by them
abbrev pub IsKept : (Node → Node → Type 0) → Grid → Plane → Plane → Type 0
IsKept B g from to = (n : Node) → Has to n ↔ (IsInWindow g n × ((q : Node) → IsInWindow g q → B n q → Has from q))

pub kept_at : (B : Node → Node → Type 0) (g : Grid) (old from new : Plane) → old.grid ≡ g → from.grid ≡ g
    → ((n : Node) → Has new n ↔ (IsInWindow old.grid n × ((q : Node) → IsInWindow from.grid q → B n q → Has from q))) → IsKept B g from new
kept_at B g old from new same same' kept =
    let P : Grid → Grid → Type 0 = λ h k. (n : Node) → Has new n ↔ (IsInWindow h n × ((q : Node) → IsInWindow k q → B n q → Has from q)) in
    subst (λ h. P h g) same (subst (λ k. P old.grid k) same' kept)

pub kept_blocks : (from rows_once rows_twice columns_once to : Plane) → IsKept IsBesideInRow from.grid from rows_once
    → IsKept IsBesideInRow from.grid rows_once rows_twice → IsKept IsBesideInColumn from.grid rows_twice columns_once
    → IsKept IsBesideInColumn from.grid columns_once to → (n : Node) → Has to n ↔ (IsInWindow from.grid n × HasBlock from n)
kept_blocks from rows_once rows_twice columns_once to first second third fourth n =
    let g = from.grid in (
      λ has.
          let (window, all) = (fourth n).0 has in (
            window,
            λ q q_in near.
                let (j, is_row) = middle g.j0 g.j1 n.j q.j near.rows window.front window.back q_in.front q_in.back in
                let (i, is_column) = middle g.i0 g.i1 n.i q.i near.columns window.left window.right q_in.left q_in.right in
                let has_third = all (record { i = n.i; j = j })
                (record { left = window.left; right = window.right; front = is_row.low; back = is_row.high }) (record { column = refl; row = is_row.near }) in
                let has_second = ((third (record { i = n.i; j = j })).0 has_third).1 (record { i = n.i; j = q.j })
                (record { left = window.left; right = window.right; front = q_in.front; back = q_in.back }) (record { column = refl; row = is_row.near_other }) in
                let has_first = ((second (record { i = n.i; j = q.j })).0 has_second).1 (record { i = i; j = q.j })
                (record { left = is_column.low; right = is_column.high; front = q_in.front; back = q_in.back }) (record { row = refl; column = is_column.near }) in
                ((first (record { i = i; j = q.j })).0 has_first).1 q q_in (record { row = refl; column = is_column.near_other }),
          ),
      λ (window, block).
          (fourth n).1 (
            window,
            λ a a_in by_a.
                (third a).1 (
                  a_in,
                  λ b b_in by_b.
                      (second b).1 (
                        b_in,
                        λ d d_in by_d.
                            (first d).1 (
                              d_in,
                              λ q q_in by_q.
                                  block q q_in (record {
                                    columns = subst (λ k. unsigned_abs (q.i -ℤ k) ≤ 2) (by_b.column ∙ by_a.column) (two_near b.i d.i q.i by_d.column by_q.column);
                                    rows = subst (λ k. unsigned_abs (k -ℤ n.j) ≤ 2) (sym (by_q.row ∙ by_d.row)) (two_near n.j a.j b.j by_a.row by_b.row);
                                  }),
                            ),
                      ),
                ),
          ),
    )
