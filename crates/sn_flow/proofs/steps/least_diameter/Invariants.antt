use Rattle.std.proofs.Common.{◌≡◌, take}
use Rattle.sn_flow.specs.Gathered.{least_of}
use Rattle.sn_flow.proofs.steps.least_diameter.Given as goal

abbrev pub invariant-loop-part : goal.invariant-loop-part
invariant-loop-part l = l.least ≡ least_of l.feature (take l.part-index l.parts)
