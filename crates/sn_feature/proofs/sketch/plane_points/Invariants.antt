use Rattle.std.proofs.Common.{◌≡◌, map, take}
use Rattle.sn_feature.specs.Outline.{plane_point}
use Rattle.sn_feature.proofs.sketch.plane_points.Given as goal

abbrev pub invariant-loop-number : goal.invariant-loop-number
invariant-loop-number l = l.points ≡ map (plane_point l.c) (take l.number-index l.numbers)
