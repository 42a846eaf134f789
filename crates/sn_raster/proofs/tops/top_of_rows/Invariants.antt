use Rattle.std.proofs.Common.{◌≤ℤ◌, ◌<ℤ◌}
use Rattle.sn_geom.specs.Length.{IsLength}
use Rattle.sn_raster.specs.Grid.{IsInRaw}
use Rattle.sn_raster.specs.Plane.{Has}
use Rattle.sn_raster.specs.Heights.{IsTop}
use Rattle.sn_raster.proofs.tops.top_of_rows.Given as goal

abbrev pub invariant-loop-j : goal.invariant-loop-j
invariant-loop-j l = record {
  low : l.g.rj0 ≤ℤ l.j;
  top : IsTop l.map (λ n. (n.j <ℤ l.j) × IsInRaw l.g n × Has l.area n) l.top;
  range : IsLength l.top;
}
