use Rattle.std.proofs.Common.{◌*◌, ap, ◌∙◌}
use Rattle.sn_clear.specs.Window.{columns, rows}
use Rattle.sn_clear.specs.Strokes.{reach_of}
use Rattle.sn_clear.proofs.ReachLemmas.{useful_are, field_is, dilated_on, marks_over, marks_passed, some_pitch}
use Rattle.sn_clear.proofs.clearing.field_of.Goals as goal

pub returns : goal.returns
returns c =
    let g = c.args.g.now in
    let targets = c.args.targets.now in
    let centres = c.args.centres.now in
    let near = c.in_ok-near.near in
    let dilated = dilated_on g c.args.d targets near c.requires.targets c.in_ok-near.ensures.grid c.in_ok-near.ensures.nodes in
    let useful = useful_are g c.args.d centres targets near c.in_ok-useful.useful.items c.as_slice.result.now c.keep_common.new.marks.items
    (some_pitch g.pitch c.rule.ensures.pitch) c.requires.targets dilated
    (marks_over g centres c.in_ok-useful.useful.items c.requires.centres c.in_ok-useful.ensures)
    (marks_passed near (columns g * rows g) c.in_ok-near_marks.near_marks.items c.as_slice.result.now c.as_slice.ensures.value
    (marks_over g near c.in_ok-near_marks.near_marks.items dilated.grid c.in_ok-near_marks.ensures))
    c.keep_common.ensures.full c.keep_common.ensures.marks in
    c.new.ensures
    ∙ field_is g c.args.d c.columns_of.result c.rows_of.result c.reach_of-reach.result c.keep_common.new.marks.items centres targets
    c.columns_of.ensures.value c.rows_of.ensures.value
    (c.reach_of-reach.ensures.value ∙ ap (λ h. reach_of c.args.d h.pitch) c.g.view_is) useful
