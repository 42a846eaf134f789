use Rattle.std.proofs.Common.{◌≡◌, ◌∙◌, ap, sym, subst, List, ℤ, w32, to_z, of_z}
use Rattle.std.proofs.lemmas.Int.{to_z-of_z}
use Rattle.sn_outline.specs.JobRule.{IsSecurityHeight}
use Rattle.sn_feature.specs.declared.parts.StepParts.{StepParts}
use Rattle.sn_flow.specs.Steps.{tools_of}
use Rattle.sn_flow.proofs.RuleLemmas.{is_job}
use Rattle.sn_flow.proofs.jobs.job_of_parts.Goals as goal

pub unreachable-requires : goal.unreachable-requires
unreachable-requires c =
    let tools = c.in_ok-tools.ensures.uses ∙ ap (λ (ps : List StepParts). tools_of ps) c.as_slice.ensures.value in
    let sec : to_z w32 (of_z w32 c.get.result) ≡ c.args.sec = to_z-of_z w32 c.get.result (record { sfits = c.get.type_inv }) ∙ c.get.ensures.value in
    let height : IsSecurityHeight (to_z w32 (of_z w32 c.get.result)) c.args.raw.now.high.z = subst (λ (z : ℤ). IsSecurityHeight z c.args.raw.now.high.z) (sym sec) c.requires.height in
    c.in-None.ensures (is_job c.o.inside.pitch c.args.raw.now.low c.args.raw.now.high (to_z w32 (of_z w32 c.get.result)) c.args.parts.items c.in_ok-steps.steps c.in_ok-tools.tools
    c.o.invariant.pitch c.requires.corners height (c.steps_keep_rule.ensures c.args.parts.items c.requires.rule) c.in_ok-steps.ensures tools)
