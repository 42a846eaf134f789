use Rattle.std.proofs.Common.{◌≡◌, ℕ, Option, Some, None, IfSome, ◌∙◌, sym, refl}
use Rattle.sn_model.specs.ModelContent.{row_of_number}
use Rattle.sn_refs.specs.Target.{read_at, group_at, IsTarget}
use Rattle.sn_refs.proofs.TargetLemmas.{one_target}
use Rattle.sn_refs.proofs.checked.Checked.maybe_one.Goals as goal

of_some : (P : ℕ → Type 0) (o : Option ℕ) → ((t : ℕ) → o ≡ Some t → P t) → IfSome o P
of_some P (Some t) h = h t refl
of_some P None h = tt

pub returns-clause-target : goal.returns-clause-target
returns-clause-target c =
    of_some (IsTarget c.args.self.now (group_at (read_at (row_of_number c.args.n c.args.self.now) c.args.k))) c.one.result
    (λ t h. one_target c.args.self.now c.args.n c.fields.result.now c.args.k c.fields.ensures.entry c.fields.ensures.row c.requires.reached c.rule.ensures.sound c.named_are_targets.ensures c.requires.wanted t (sym c.one.ensures ∙ h))
