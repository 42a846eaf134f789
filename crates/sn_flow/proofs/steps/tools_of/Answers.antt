use Rattle.std.proofs.Common.{◌≡◌, arith}
use Rattle.std.proofs.lemmas.Grind.{common_steps}
use Rattle.sn_flow.specs.Steps.{tools_of as tools_used}
use Rattle.sn_flow.proofs.StepsLemmas.{few_tools, tools_of_more}
use Rattle.sn_flow.proofs.steps.tools_of.Goals as goal

pub loop-part-preserved : goal.loop-part-preserved
loop-part-preserved c =
    let more = tools_of_more c.args.parts.now c.loop-part.part-index c.part-item.result (omega arith) in
    cc c.in_ok-add_use.ensures

pub returns-clause-few : goal.returns-clause-few
returns-clause-few c =
    let uses : c.loop-part.tools ≡ tools_used c.args.parts.now = grind (arith, common_steps) in
    rw uses (few_tools c.args.parts.now)
