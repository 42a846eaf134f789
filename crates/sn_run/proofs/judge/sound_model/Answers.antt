use Rattle.std.proofs.lemmas.Result.{err_from_is_err_and}
use Rattle.sn_run.proofs.JudgeLemmas.{of_text, of_model, of_references}
use Rattle.sn_run.proofs.judge.sound_model.Goals as goal

pub returns-in_err-file-clause-refused : goal.returns-in_err-file-clause-refused
returns-in_err-file-clause-refused c =
    let p = err_from_is_err_and c.from_residual.result c.from_residual.ensures.1 in
    rw (p.1, p.2) (of_text c.args.bytes.now c.in_err-file.field-0.0 c.requires c.in_err-file.ensures.refused)

pub returns-in_err-model-clause-refused : goal.returns-in_err-model-clause-refused
returns-in_err-model-clause-refused c =
    let p = err_from_is_err_and c.from_residual-in_err-model.result c.from_residual-in_err-model.ensures.1 in
    rw (p.1, p.2)
    (of_model c.args.bytes.now c.in_ok-file.file c.in_err-model.field-0.0 (record { short = c.requires; text = c.in_ok-file.ensures.found }) c.in_err-model.ensures.refused)

pub returns-in_err-check-clause-refused : goal.returns-in_err-check-clause-refused
returns-in_err-check-clause-refused c =
    let p = err_from_is_err_and c.from_residual-in_err-check.result c.from_residual-in_err-check.ensures.1 in
    rw (p.1, p.2)
    (of_references c.args.bytes.now c.in_ok-model.model c.in_err-check.field-0.0
    (record { file = c.in_ok-file.file; file_is = record { short = c.requires; text = c.in_ok-file.ensures.found }; built = c.in_ok-model.ensures.found })
    c.in_err-check.ensures.refused)
