use Rattle.std.proofs.Common.{IsTrue, sym, inl, ⊎_elim, ◌∙◌, subst}
use denote.Enum.Bare.{same_true, true_same}
use Rattle.sn_entity.specs.contracts.row.RowId.{the_type}
use Rattle.sn_entity.specs.declared.row.Group.{Group}
use Rattle.sn_entity.specs.Table.{IsInGroup}
use Rattle.sn_entity.proofs.row.Group.has.Goals as goal

pub returns-in-One : goal.returns-in-One
returns-in-One c = subst (λ (g : Group). (IsTrue c.eq.result → IsInGroup g c.args.row) × (IsInGroup g c.args.row → IsTrue c.eq.result)) (sym c.in-One.is) (
  λ h. inl (same_true the_type tt _ _ (sym c.eq.ensures ∙ h)),
  λ h. ⊎_elim (λ e. c.eq.ensures ∙ true_same the_type _ _ e) (λ none. absurd none) h,
)
