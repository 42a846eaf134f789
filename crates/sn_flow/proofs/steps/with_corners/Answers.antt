use Rattle.std.proofs.Common.{◌≡◌, ◌∷◌, [], ◌++◌, List, length, map, get_or, sym, ap, subst, ◌∙◌, append_assoc, append-nil, arith}
use Rattle.std.specs.Vec.Iter.{into_iter_items}
use Rattle.sn_feature.specs.declared.parts.StepParts.{StepParts}
use Rattle.sn_flow.specs.Steps.{step_among}
use Rattle.sn_flow.proofs.StepsLemmas.{corner_at, made_more, count_more, step_made, nothing_left}
use Rattle.sn_flow.proofs.steps.with_corners.Goals as goal

pub loop-part-preserved : goal.loop-part-preserved
loop-part-preserved c =
    let at = c.loop-part in
    let part = c.in-Some.part in
    let left = into_iter_items c.next.new.self in
    let parts = c.args.parts.items in
    let next : into_iter_items at.part-iterator ≡ part ∷ left = c.in-Some.ensures.steps.0 in
    let split : at.yielded ++ part ∷ left ≡ parts = rw (← next) at.invariant.split ∙ c.into_iter-part-iterator.ensures.into_iter_gives.0 in
    let corner = corner_at parts at.yielded part left c.args.corners.now split c.requires.corners in
    let made : c.into_step.result ≡ step_among parts part = step_made parts part c.args.tools.now _ _ c.into_step.result c.requires.tools c.number_in-number.ensures (ap (λ i. get_or c.args.corners.now i 0) at.invariant.count ∙ corner.1 0) c.into_step.ensures in
    record {
      split = append_assoc at.yielded (part ∷ []) left ∙ rw (← next) at.invariant.split;
      left = let was = at.invariant.left in let gone = c.in-Some.ensures.steps.1 in let short = ap length next in omega arith;
      count = count_more at.yielded part at.k at.invariant.count;
      made = c.in_ok-push.ensures.ok ∙ made_more parts at.yielded part at.steps c.into_step.result at.invariant.made made;
    }

pub returns : goal.returns
returns c =
    let at = c.loop-part in
    let none = c.in-None.ensures.steps in
    let empty : into_iter_items at.part-iterator ≡ [] = nothing_left _ (sym at.invariant.left ∙ none.0) in
    let all = sym (append-nil at.yielded) ∙ rw empty at at.invariant.split ∙ c.into_iter-part-iterator.ensures.into_iter_gives.0 in
    subst (λ (ps : List StepParts). at.steps ≡ map (step_among c.args.parts.items) ps) all at.invariant.made
