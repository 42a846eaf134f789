use Rattle.std.proofs.Common.{◌≡◌, slice_get, Some, true, false, sym, ap, ◌∙◌}
use Rattle.std.specs.Option.{option_copied}
use Rattle.sn_model.specs.Built.{IsProject}
use Rattle.sn_model.proofs.ProjectLemmas.{no_project_at, first_project_at, second_project_at}
use Rattle.sn_model.proofs.model.project_of.Goals as goal

pub loop-place-preserved-then-not-is_project : goal.loop-place-preserved-then-not-is_project
loop-place-preserved-then-not-is_project c =
    let is = c.args.instances.now in
    let i = c.in-Some.instance.now in
    let at : slice_get is c.loop-place.place ≡ Some i = sym c.at.ensures.value ∙ ap option_copied c.in-Some.is in
    let other : ¬ IsProject i = λ h. let z : true ≡ false = sym (c.is_project.ensures.1 h) ∙ c.if-not-is_project.true in cc in
    no_project_at is c.loop-place.place i c.loop-place.project at other c.loop-place.invariant

pub returns-then-is_some : goal.returns-then-is_some
returns-then-is_some c =
    let is = c.args.instances.now in
    let i = c.in-Some.instance.now in
    let at : slice_get is c.loop-place.place ≡ Some i = sym c.at.ensures.value ∙ ap option_copied c.in-Some.is in
    second_project_at is c.loop-place.place i c.loop-place.project at (c.is_project.ensures.0 c.if-not-is_project.false) (sym c.is_some.ensures ∙ c.if-is_some.true) c.loop-place.invariant

pub loop-place-preserved : goal.loop-place-preserved
loop-place-preserved c =
    let is = c.args.instances.now in
    let i = c.in-Some.instance.now in
    let at : slice_get is c.loop-place.place ≡ Some i = sym c.at.ensures.value ∙ ap option_copied c.in-Some.is in
    first_project_at is c.loop-place.place i c.loop-place.project at (c.is_project.ensures.0 c.if-not-is_project.false) (sym c.is_some.ensures ∙ c.if-is_some.false) c.loop-place.invariant
