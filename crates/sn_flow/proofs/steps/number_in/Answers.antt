use Rattle.std.proofs.Common.{arith, ◌≡◌, get_or, ◌<◌, length}
use Rattle.std.proofs.lemmas.Grind.{common_steps}
use Rattle.sn_flow.proofs.ToolLemmas.{first_at}
use Rattle.sn_flow.proofs.steps.number_in.Goals as goal

pub returns-then-other-tool : goal.returns-then-other-tool
returns-then-other-tool c =
    let is : get_or c.args.tools.now c.loop-other.other-index 0 ≡ c.args.tool = grind (arith, common_steps) in
    let within : c.loop-other.other-index < length c.args.tools.now = omega arith in
    let place = first_at c.args.tools.now c.loop-other.other-index c.args.tool c.loop-other.invariant.1 is within in
    omega (arith, place, c.loop-other.invariant.0)
