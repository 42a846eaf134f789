use Rattle.std.proofs.Common.{◌≡◌, ◌∷◌, [], ◌++◌, not, List, length, sym, ap, subst, ◌∙◌, append_assoc, arith}
use Rattle.std.specs.Vec.Iter.{into_iter_items}
use Rattle.sn_p21.specs.declared.file.Instance.{Instance}
use Rattle.sn_p21.specs.Numbers.{has_number, NumbersDiffer}
use Rattle.sn_report.proofs.Climbing.{is_new}
use Rattle.sn_report.proofs.generated.by_number.Goals as goal

pub loop-row-preserved : goal.loop-row-preserved
loop-row-preserved c =
    let at = c.loop-row in
    let row = c.in-Some.row in
    let left = into_iter_items c.next.new.self in
    let rows = c.args.rows.items in
    let next : into_iter_items at.row-iterator ≡ row ∷ left = c.in-Some.ensures.steps.0 in
    let split : at.yielded ++ row ∷ left ≡ rows = rw (← next) at.invariant.split ∙ c.into_iter-row-iterator.ensures.into_iter_gives.0 in
    let new = is_new at.yielded left row (subst NumbersDiffer (sym split) c.requires) in
    let absent = ap (has_number row.number) at.invariant.made ∙ new in
    let added = c.in_ok-push.ensures.added (c.in_ok-push.ensures.fresh ∙ ap not absent) in
    record {
      split = append_assoc at.yielded (row ∷ []) left ∙ rw (← next) at.invariant.split;
      left = let was = at.invariant.left in let gone = c.in-Some.ensures.steps.1 in let short = ap length next in omega arith;
      made = added ∙ ap (λ (is : List Instance). is ++ row ∷ []) at.invariant.made;
    }
