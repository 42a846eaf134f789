use Rattle.std.proofs.Common.{◌≡◌, ◌∷◌, [], ◌++◌, List, Ok, sym, subst, ap, ◌∙◌, arith}
use Rattle.std.specs.List.{Contains}
use Rattle.sn_feature.specs.declared.parts.StepParts.{StepParts}
use Rattle.sn_feature.specs.StepRule.{AreProper, HasCorner}
use Rattle.sn_flow.proofs.PartsLemmas.{refused_part, part_more, each_more}
use Rattle.sn_flow.proofs.parts.all_parts.Goals as goal

pub returns-in-Err-clause-refused : goal.returns-in-Err-clause-refused
returns-in-Err-clause-refused c =
    refused_part c.args.c.now c.args.workpiece.now c.args.raw_top c.args.steps.now c.loop-ws.ws-index c.loop-ws.parts.items c.in-Err.fault c.from.result (omega arith) c.loop-ws.invariant.all c.from.ensures c.in-Err.ensures.answer

pub loop-ws-preserved : goal.loop-ws-preserved
loop-ws-preserved c =
    let part = c.in-Ok.part in
    let before = c.loop-ws.parts.items in
    let items : c.add.new.parts.items ≡ before ++ part ∷ [] = c.in_ok-add-in-Ok.ensures in
    let more = part_more c.args.c.now c.args.workpiece.now c.args.raw_top c.args.steps.now c.loop-ws.ws-index before part (omega arith) c.loop-ws.invariant.all c.in-Ok.ensures.answer in
    record {
      all = more ∙ ap (λ (ps : List StepParts). Ok ps) (sym items);
      proper = subst (λ (ps : List StepParts). (p : StepParts) → Contains ps p → AreProper p) (sym items) (each_more AreProper before part c.loop-ws.invariant.proper c.in-Ok.ensures.proper);
      corner = subst (λ (ps : List StepParts). (p : StepParts) → Contains ps p → HasCorner p) (sym items) (each_more HasCorner before part c.loop-ws.invariant.corner c.in-Ok.ensures.corner);
    }
