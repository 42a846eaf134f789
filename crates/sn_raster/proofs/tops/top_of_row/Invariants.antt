use Rattle.std.proofs.Common.{◌≡◌, ◌≤ℤ◌, ◌<ℤ◌}
use Rattle.sn_geom.specs.Length.{IsLength}
use Rattle.sn_raster.specs.Grid.{IsInRaw}
use Rattle.sn_raster.specs.Plane.{Has}
use Rattle.sn_raster.specs.Heights.{IsTop}
use Rattle.sn_raster.proofs.tops.top_of_row.Given as goal

abbrev pub invariant-loop-i : goal.invariant-loop-i
invariant-loop-i l = record {
  low : l.g.ri0 ≤ℤ l.i;
  top : IsTop l.map (λ n. (n.j ≡ l.j) × (n.i <ℤ l.i) × IsInRaw l.g n × Has l.area n) l.top;
  range : IsLength l.top;
}
