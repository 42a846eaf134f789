use Rattle.std.proofs.Common.{◌≤◌, drop}
use Rattle.sn_outline.specs.Polygon.{path, edges}
use Rattle.sn_outline.proofs.Paths.{IsPassed, IsNear}
use Rattle.sn_outline.proofs.Counting.{IsCounted}
use Rattle.sn_outline.proofs.polygon.in_polygon.Given as goal

abbrev pub invariant-loop-to : goal.invariant-loop-to
invariant-loop-to l = record {
  few : l.crossings ≤ l.to-index;
  off : IsPassed (IsNear 0 l.p) (edges l.points) (path l.from (drop l.to-index l.points));
  counted : IsCounted l.p l.crossings (edges l.points) (path l.from (drop l.to-index l.points));
}
