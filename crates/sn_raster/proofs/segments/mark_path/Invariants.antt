use Rattle.std.proofs.Common.{◌≡◌, ◌↔◌, ◌⊎◌, drop}
use Rattle.std.specs.List.{Any}
use Rattle.sn_geom.specs.Sweep.{Near}
use Rattle.sn_outline.specs.Polygon.{path}
use Rattle.sn_raster.specs.Grid.{Node, IsInWindow, place}
use Rattle.sn_raster.specs.Plane.{Has}
use Rattle.sn_raster.proofs.segments.mark_path.Given as goal

abbrev pub invariant-loop-to : goal.invariant-loop-to
invariant-loop-to l = record {
  grid : l.row.grid ≡ l.g;
  row : (n : Node) → n.j ≡ l.j → IsInWindow l.g n
      → (Has l.row n ⊎ Any (λ e. Near l.d e.a e.b (place l.g.pitch n)) (path l.start (drop l.to-index l.points)))
      ↔ (Has l.fn.row n ⊎ Any (λ e. Near l.d e.a e.b (place l.g.pitch n)) (path l.from l.points));
  others : (n : Node) → ¬ (n.j ≡ l.j) → Has l.row n ↔ Has l.fn.row n;
}
