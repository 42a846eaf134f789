use Rattle.std.proofs.Common.{◌≡◌, ◌↔◌, ℤ, pos, ◌+ℤ◌, ◌≤ℤ◌, drop}
use Rattle.sn_outline.specs.Polygon.{path}
use Rattle.sn_raster.specs.Grid.{Node}
use Rattle.sn_raster.specs.Plane.{Has}
use Rattle.sn_raster.specs.RowTurns.{at, bit, differs, is_odd, is_crossed}
use Rattle.sn_raster.proofs.turns.turn_path.Given as goal

abbrev pub invariant-loop-to : goal.invariant-loop-to
invariant-loop-to l = record {
  grid : l.row.grid ≡ l.g;
  row : (i : ℤ) → l.g.i0 ≤ℤ i → i ≤ℤ l.g.i1
      → differs (bit l.row (at i l.j)) (differs (is_odd (λ e. is_crossed l.g l.j e i) (path l.start (drop l.to-index l.points))) (is_odd (λ e. is_crossed l.g l.j e (i +ℤ pos 1)) (path l.start (drop l.to-index l.points))))
      ≡ differs (bit l.fn.row (at i l.j)) (differs (is_odd (λ e. is_crossed l.g l.j e i) (path l.from l.points)) (is_odd (λ e. is_crossed l.g l.j e (i +ℤ pos 1)) (path l.from l.points)));
  others : (n : Node) → ¬ (n.j ≡ l.j) → Has l.row n ↔ Has l.fn.row n;
}
