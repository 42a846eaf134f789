use Rattle.std.proofs.Common.{◌<◌, ◌∙◌, Some, ap, inl, refl, length, sym, arith}
use Rattle.std.proofs.lemmas.Bool.Decides.{nat_tests}
use Rattle.std.proofs.lemmas.List.Elements.{Contains-get_or}
use Rattle.sn_entity.specs.declared.row.RowId.TheVariants.{MachiningWorkingstep}
use Rattle.sn_job_tests.proofs.feature.first_workingstep.Goals as goal

pub fields-requires : goal.fields-requires
fields-requires c =
    let tested = sym c.is_empty.ensures ∙ c.if-is_empty.false in
    let some : 0 < length c.many-elements.result.now = grind (arith, nat_tests, tested) in
    (c.many-elements.ensures.targets _ (Contains-get_or c.many-elements.result.now 0 0 some)).reached

pub returns-in-MachiningWorkingstep : goal.returns-in-MachiningWorkingstep
returns-in-MachiningWorkingstep c =
    let tested = sym c.is_empty.ensures ∙ c.if-is_empty.false in
    let some : 0 < length c.many-elements.result.now = grind (arith, nat_tests, tested) in
    record {
      reached = (c.many-elements.ensures.targets _ (Contains-get_or c.many-elements.result.now 0 0 some)).reached;
      row = MachiningWorkingstep;
      has_row = c.fields.ensures.row ∙ ap Some c.in-MachiningWorkingstep.is;
      kind = inl refl;
    }
