use Rattle.std.proofs.Common.{◌≡◌, take, map}
use Rattle.sn_flow.specs.Steps.{corner_among}
use Rattle.sn_flow.proofs.steps.corners_of.Given as goal

abbrev pub invariant-loop-part : goal.invariant-loop-part
invariant-loop-part l = l.corners.items ≡ map (corner_among l.parts) (take l.part-index l.parts)
