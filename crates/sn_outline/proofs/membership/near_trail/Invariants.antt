use Rattle.std.proofs.Common.{drop}
use Rattle.sn_outline.specs.Polygon.{path}
use Rattle.sn_outline.proofs.Paths.{IsPassed, IsNear, segments}
use Rattle.sn_outline.proofs.membership.near_trail.Given as goal

abbrev pub invariant-loop-to : goal.invariant-loop-to
invariant-loop-to l = IsPassed (IsNear l.width l.p) (segments l.points) (path l.from (drop l.to-index l.rest))
