use Rattle.std.proofs.Common.{ap, sym, ◌∙◌}
use Rattle.std.proofs.lemmas.Bool.{false≢true}
use Rattle.sn_refs.proofs.InstanceLemmas.{targets_with, targets_without}
use Rattle.sn_refs.proofs.instance.add_targets.Goals as goal
use Rattle.sn_refs.proofs.instance.add_targets.Goals.{then-is_of_kind+in_ok-push, else-is_of_kind}

pub loop-reference-preserved : goal.loop-reference-preserved
loop-reference-preserved c =
    elim c.if-is_of_kind.branch [
      | then-is_of_kind+in_ok-push w ↦
          targets_with c.args.model.now c.args.references.now c.loop-reference.reference-index _ c.args.found.now.items c.loop-reference.found.items _ c.loop-reference-test.true
          (c.is_of_kind.ensures.0 w.if-is_of_kind.true) (ap (λ v. v.items) w.found-is ∙ w.in_ok-push.ensures.items) c.loop-reference.invariant
      | else-is_of_kind w ↦
          targets_without c.args.model.now c.args.references.now c.loop-reference.reference-index _ c.args.found.now.items c.loop-reference.found.items _ c.loop-reference-test.true
          (λ kind. absurd (false≢true (sym w.if-is_of_kind.false ∙ c.is_of_kind.ensures.1 kind))) (ap (λ v. v.items) w.found-is) c.loop-reference.invariant
    ]
