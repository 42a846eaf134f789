use Rattle.std.proofs.Common.{◌≢◌, ◌∙◌}
use Rattle.std.specs.Prelude.{IfErr}
use Rattle.std.proofs.lemmas.Result.{IfOk-weaker, IfErr-weaker}
use Rattle.sn_entity.specs.declared.fault.EntFault.TheVariants as fault
use Rattle.sn_entity.specs.Shows.{IsEntityFault}
use Rattle.sn_entity.proofs.OneShowingLemmas.{has_row, shows_row, only_shown, fault_told, is_memory}
use Rattle.sn_entity.proofs.shown.fields.Goals as goal

pub returns-clause-only : goal.returns-clause-only
returns-clause-only c =
    let row = has_row c.args.inst.now c.as_slice-parts.result.now c.index-parts-0.result c.in-Some.id c.requires c.as_slice-parts.ensures c.index-parts-0.is (c.in-Some.ensures.found ∙ c.as_slice.ensures) in
    let found = IfOk-weaker c.shown.result _ _ (shows_row c.args.inst.now c.index-parts-0.result c.in-Some.id row) c.shown.ensures.found in
    let refused : IfErr c.shown.result (λ e. e ≢ fault.Memory → IsEntityFault c.args.inst.now e) = IfErr-weaker c.shown.result _ _ (λ e h other. (c.index-parts-0.result, c.in-Some.id, row, h other)) c.shown.ensures.refused in
    only_shown c.one_showing.ensures c.args.inst.now c.shown.result found refused is_memory

pub returns-clause-fault : goal.returns-clause-fault
returns-clause-fault c =
    let row = has_row c.args.inst.now c.as_slice-parts.result.now c.index-parts-0.result c.in-Some.id c.requires c.as_slice-parts.ensures c.index-parts-0.is (c.in-Some.ensures.found ∙ c.as_slice.ensures) in
    let found = IfOk-weaker c.shown.result _ _ (shows_row c.args.inst.now c.index-parts-0.result c.in-Some.id row) c.shown.ensures.found in
    let refused : IfErr c.shown.result (λ e. e ≢ fault.Memory → IsEntityFault c.args.inst.now e) = IfErr-weaker c.shown.result _ _ (λ e h other. (c.index-parts-0.result, c.in-Some.id, row, h other)) c.shown.ensures.refused in
    fault_told c.one_showing.ensures c.args.inst.now c.shown.result found refused is_memory
