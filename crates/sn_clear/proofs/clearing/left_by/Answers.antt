use Rattle.std.proofs.Common.{◌*◌}
use Rattle.sn_clear.specs.Window.{columns, rows}
use Rattle.sn_clear.proofs.ReachLemmas.{left_are, dilated_on, marks_over, marks_passed, some_pitch}
use Rattle.sn_clear.proofs.clearing.left_by.Goals as goal

pub returns-clause-left : goal.returns-clause-left
returns-clause-left c =
    let g = c.args.g.now in
    let targets = c.args.targets.now in
    let lines = c.in_ok-lines.lines in
    let covered = c.in_ok-covered.covered in
    let dilated = dilated_on g c.args.d lines covered c.in_ok-lines.ensures.grid c.in_ok-covered.ensures.grid c.in_ok-covered.ensures.nodes in
    left_are c.args.f.now g c.args.d c.args.runs.now targets lines covered c.in_ok-left.left.items c.as_slice.result.now c.keep_rest.new.marks.items
    (some_pitch g.pitch c.rule.ensures.pitch) c.requires.sizes c.requires.inside c.in_ok-lines.ensures.grid dilated c.in_ok-lines.ensures.nodes
    (marks_over g targets c.in_ok-left.left.items c.requires.targets c.in_ok-left.ensures)
    (marks_passed covered (columns g * rows g) c.in_ok-covered_marks.covered_marks.items c.as_slice.result.now c.as_slice.ensures.value
    (marks_over g covered c.in_ok-covered_marks.covered_marks.items dilated.grid c.in_ok-covered_marks.ensures))
    c.keep_rest.ensures.marks
