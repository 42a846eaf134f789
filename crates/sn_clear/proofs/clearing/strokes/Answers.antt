use Rattle.std.proofs.Common.{◌≡◌, ap, ◌∙◌}
use Rattle.sn_clear.specs.Rows.{sweep}
use Rattle.sn_clear.specs.Columns.{with_columns}
use Rattle.sn_clear.specs.Strokes.{row_step, field_of}
use Rattle.sn_clear.proofs.StrokeLemmas.{sweep_inside, sweep_level, left_passed, all_runs, strokes_inside, strokes_are}
use Rattle.sn_clear.proofs.clearing.strokes.Goals as goal

pub left_by-requires-clause-inside : goal.left_by-requires-clause-inside
left_by-requires-clause-inside c =
    sweep_inside c.args.g.now c.args.s.now.body.d c.row_step.result c.args.c.now c.args.targets.now c.in_ok-field.field c.as_slice.result.now
    (c.in_ok-field.ensures ∙ ap (λ p. field_of c.args.g.now c.args.s.now.body.d p c.args.targets.now) c.nodes.ensures) (c.as_slice.ensures.value ∙ c.in_ok-runs.ensures)

pub left_by-requires-clause-rows : goal.left_by-requires-clause-rows
left_by-requires-clause-rows c =
    sweep_level c.in_ok-field.field c.row_step.result c.as_slice.result.now (c.as_slice.ensures.value ∙ c.in_ok-runs.ensures)

pub strokes_of-requires : goal.strokes_of-requires
strokes_of-requires c =
    let f = c.in_ok-field.field in
    let targets = c.args.targets.now in
    let left = left_passed f targets.marks c.in_ok-left.left.items c.as_mut_slice.result.now c.in_ok-runs.runs.items c.as_slice.result.now
    c.as_mut_slice.ensures.value c.as_slice.ensures.value c.in_ok-left.ensures.left in
    let made : c.push_columns.new.strokes.items ≡ with_columns f targets.marks (sweep f c.row_step.result) =
    all_runs f c.row_step.result targets.marks c.in_ok-runs.runs.items c.push_columns.new.strokes.items c.in_ok-runs.ensures
    (c.in_ok-push_columns.ensures targets.marks left) in
    strokes_inside c.args.g.now c.args.s.now.body.d c.row_step.result c.args.c.now targets f c.as_slice-2.result.now
    (c.in_ok-field.ensures ∙ ap (λ p. field_of c.args.g.now c.args.s.now.body.d p targets) c.nodes.ensures)
    (c.as_slice-2.ensures.value ∙ made)

pub returns : goal.returns
returns c =
    let f = c.in_ok-field.field in
    let targets = c.args.targets.now in
    let left = left_passed f targets.marks c.in_ok-left.left.items c.as_mut_slice.result.now c.in_ok-runs.runs.items c.as_slice.result.now
    c.as_mut_slice.ensures.value c.as_slice.ensures.value c.in_ok-left.ensures.left in
    let made : c.push_columns.new.strokes.items ≡ with_columns f targets.marks (sweep f c.row_step.result) =
    all_runs f c.row_step.result targets.marks c.in_ok-runs.runs.items c.push_columns.new.strokes.items c.in_ok-runs.ensures
    (c.in_ok-push_columns.ensures targets.marks left) in
    let step : c.row_step.result ≡ row_step c.args.s.now c.args.g.now.pitch =
    c.row_step.ensures.value ∙ ap (λ g. row_step c.args.s.now g.pitch) c.g.view_is in
    strokes_are c.args.g.now c.args.s.now.body.d c.row_step.result (row_step c.args.s.now c.args.g.now.pitch) c.args.c.now targets f
    c.push_columns.new.strokes.items c.as_slice-2.result.now c.in_ok-strokes.strokes
    (c.in_ok-field.ensures ∙ ap (λ p. field_of c.args.g.now c.args.s.now.body.d p targets) c.nodes.ensures) step made c.as_slice-2.ensures.value c.in_ok-strokes.ensures
