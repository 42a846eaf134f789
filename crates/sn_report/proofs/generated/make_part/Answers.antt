use Rattle.std.proofs.Common.{ap, ◌∙◌}
use Rattle.sn_report.specs.Generated.{rows_of}
use Rattle.sn_report.proofs.GeneratedPart.{few_drawn, rows_differ, part_made, part_is_file}
use Rattle.sn_report.proofs.generated.make_part.Goals as goal

pub rows_of-requires : goal.rows_of-requires
rows_of-requires c = few_drawn c.args.seed c.deref.result.now (c.deref.ensures.value ∙ c.in_ok-features.ensures)

pub by_number-requires : goal.by_number-requires
by_number-requires c = rows_differ c.args.seed _ (c.in_ok-rows.ensures ∙ ap rows_of (c.deref.ensures.value ∙ c.in_ok-features.ensures))

pub in_one_section-requires : goal.in_one_section-requires
in_one_section-requires c =
    let rows = c.in_ok-rows.ensures ∙ ap rows_of (c.deref.ensures.value ∙ c.in_ok-features.ensures) in
    part_is_file c.args.seed _ (part_made c.args.seed _ _ c.in_ok-header.ensures (c.in_ok-instances.ensures ∙ rows))

pub returns : goal.returns
returns c =
    let rows = c.in_ok-rows.ensures ∙ ap rows_of (c.deref.ensures.value ∙ c.in_ok-features.ensures) in
    c.in_ok-in_one_section.ensures ∙ part_made c.args.seed _ _ c.in_ok-header.ensures (c.in_ok-instances.ensures ∙ rows)
