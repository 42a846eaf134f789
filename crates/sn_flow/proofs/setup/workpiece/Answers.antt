use Rattle.std.proofs.Common.{ℕ, ◌∙◌}
use Rattle.sn_entity.specs.declared.row.Group.TheVariants.{One as OneRow}
use Rattle.sn_entity.specs.declared.row.RowId.TheVariants.{Project, Workpiece}
use Rattle.sn_refs.specs.Target.{IsTarget}
use Rattle.sn_flow.proofs.SetupLemmas.{first_is, listed_targets, project_target}
use Rattle.sn_flow.proofs.setup.workpiece.Goals as goal

pub returns-clause-target : goal.returns-clause-target
returns-clause-target c =
    let m = c.args.c.now in
    let project = project_target m c.rule.ensures.checked.model c.project_has_row.ensures c.project.result c.project.ensures in
    first_is (λ (n : ℕ). IsTarget m (OneRow Workpiece) n) c.many.result.now c.copied.result (c.copied.ensures ∙ c.first.ensures.value) (listed_targets m Project c.project.result 1 project c.many.result.now c.many.ensures.targets)
