-- Planes without nodes.
use Rattle.std.proofs.Common.{ℕ, ◌≡◌, ◌<◌, ℤ, pos, ◌+ℤ◌, ◌-ℤ◌, ◌≤ℤ◌, unsigned_abs, sym, subst, arith}
use Rattle.std.proofs.lemmas.Int.{ints, clamps}
use Rattle.sn_raster.specs.Grid.{Grid, IsInWindow, places}
use Rattle.sn_raster.specs.Plane.{Plane, Has, IsEmpty}
use Rattle.sn_open.specs.Window.{columns, rows, node_at}

which : (first last z : ℤ) → first ≤ℤ z → z ≤ℤ last → unsigned_abs (z -ℤ first) < places first last
which first last z low high = omega (arith, ints, clamps)

back : (first z : ℤ) → first ≤ℤ z → z ≡ first +ℤ pos (unsigned_abs (z -ℤ first))
back first z low = omega (arith, ints)

-- the nodes of a row are not in the plane
abbrev pub LacksRow : Plane → Grid → ℕ → Type 0
LacksRow plane g row = (column : ℕ) → column < columns g → ¬ Has plane (node_at g column row)

pub no_rows_left : (plane : Plane) (g : Grid) → g ≡ plane.grid → ((row : ℕ) → row < rows g → LacksRow plane g row) → IsEmpty plane
no_rows_left plane g same none n has =
    let window = subst (λ h. IsInWindow h n) (sym same) has.in_window in
    let column = unsigned_abs (n.i -ℤ g.i0) in
    let row = unsigned_abs (n.j -ℤ g.j0) in
    let is : n ≡ node_at g column row = λ k. record { i = back g.i0 n.i window.left k; j = back g.j0 n.j window.front k } in
    none row (which g.j0 g.j1 n.j window.front window.back) column (which g.i0 g.i1 n.i window.left window.right) (subst (Has plane) is has)
