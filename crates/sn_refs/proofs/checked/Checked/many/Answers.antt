use Rattle.std.proofs.Common.{ℕ, List, subst}
use Rattle.std.specs.List.{Contains}
use Rattle.sn_refs.proofs.TargetLemmas.{many_targets}
use Rattle.sn_refs.proofs.checked.Checked.many.Goals as goal

pub returns-clause-targets : goal.returns-clause-targets
returns-clause-targets c = λ t h.
    many_targets c.args.self.now c.args.n c.fields.result.now c.args.k c.fields.ensures.entry c.fields.ensures.row c.requires.reached c.rule.ensures.sound c.named_are_targets.ensures c.requires.wanted t
    (subst (λ (ts : List ℕ). Contains ts t) c.many.ensures h)
