use Rattle.std.proofs.Common.{◌≡◌, ◌⊎◌, ◌∙◌, subst, ℤ, w32, to_z, of_z, Err}
use Rattle.std.proofs.lemmas.Int.{to_z-of_z}
use Rattle.sn_feature.specs.declared.fault.StepFault.TheVariants as fault
use Rattle.sn_feature.specs.Step.{step_of}
use Rattle.sn_flow.proofs.parts.part_of.Goals as goal

pub returns-clause-answer : goal.returns-clause-answer
returns-clause-answer c =
    let top : to_z w32 (of_z w32 c.get.result) ≡ c.args.raw_top = to_z-of_z w32 c.get.result (record { sfits = c.get.type_inv }) ∙ c.get.ensures.value in
    subst (λ (z : ℤ). (c.step.result ≡ Err fault.Memory) ⊎ (c.step.result ≡ step_of c.args.c.now c.args.workpiece.now z c.args.ws)) top c.step.ensures.answer
