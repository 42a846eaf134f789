use Rattle.std.proofs.Common.{◌≡◌, take}
use Rattle.sn_flow.specs.Steps.{tools_of as tools_used}
use Rattle.sn_flow.proofs.steps.tools_of.Given as goal

abbrev pub invariant-loop-part : goal.invariant-loop-part
invariant-loop-part l = l.tools ≡ tools_used (take l.part-index l.parts)
