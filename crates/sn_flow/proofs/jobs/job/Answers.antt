use Rattle.std.proofs.Common.{ℕ, List, sym, subst}
use Rattle.std.specs.List.{Contains}
use Rattle.sn_entity.specs.declared.row.Group.TheVariants.{One as OneRow}
use Rattle.sn_entity.specs.declared.row.RowId.TheVariants.{MachiningWorkingstep}
use Rattle.sn_refs.specs.Target.{IsTarget}
use Rattle.sn_flow.proofs.jobs.job.Goals as goal

pub security_height-requires : goal.security_height-requires
security_height-requires c = subst (λ (ns : List ℕ). (ws : ℕ) → Contains ns ws → IsTarget c.args.c.now (OneRow MachiningWorkingstep) ws) (sym c.as_slice-steps.ensures) c.in_ok-executed.ensures.steps

pub all_parts-requires-clause-steps : goal.all_parts-requires-clause-steps
all_parts-requires-clause-steps c = subst (λ (ns : List ℕ). (ws : ℕ) → Contains ns ws → IsTarget c.args.c.now (OneRow MachiningWorkingstep) ws) (sym c.as_slice-steps.ensures) c.in_ok-executed.ensures.steps
