use Rattle.std.proofs.Common.{ap, subst, sym}
use Rattle.sn_p21.specs.Content.{Content}
use Rattle.sn_model.specs.ModelContent.{ModelContent}
use Rattle.sn_model.specs.Built.{HaveOneProject, AreKept, IsModelOf}
use Rattle.sn_model.proofs.NumbersAndLimits.{file_numbers}
use Rattle.sn_model.proofs.model.build.Goals as goal

pub returns-clause-only : goal.returns-clause-only
returns-clause-only c =
    λ m h.
    let built : ModelContent = record { kept = c.in_ok-kept.kept.entries; project = c.in_ok-project.project } in
    let project = subst (λ is. HaveOneProject is built.project) (ap (λ (f : Content). f.instances) c.f.view_is) c.in_ok-project.ensures in
    let is_model : IsModelOf c.args.f.now.instances built = record { kept = c.in_ok-kept.ensures; project = project } in
    c.one_model.ensures.0 c.args.f.now.instances built m is_model h

pub returns-clause-fault : goal.returns-clause-fault
returns-clause-fault c =
    λ why h.
    let built : ModelContent = record { kept = c.in_ok-kept.kept.entries; project = c.in_ok-project.project } in
    let project = subst (λ is. HaveOneProject is built.project) (ap (λ (f : Content). f.instances) c.f.view_is) c.in_ok-project.ensures in
    let is_model : IsModelOf c.args.f.now.instances built = record { kept = c.in_ok-kept.ensures; project = project } in
    c.one_model.ensures.2 c.args.f.now.instances built why is_model h

pub invariant_of-result : goal.invariant_of-result
invariant_of-result c =
    let built : ModelContent = record { kept = c.in_ok-kept.kept.entries; project = c.in_ok-project.project } in
    let same = ap (λ (f : Content). f.instances) c.f.view_is in
    let kept = subst (λ is. AreKept is built.kept) (sym same) c.in_ok-kept.ensures in
    ∣ (c.f.inside.instances, c.f.invariant.differ, file_numbers c.instances_are_spelled.ensures _ c.f.invariant, record { kept = kept; project = c.in_ok-project.ensures }) ∣₁
