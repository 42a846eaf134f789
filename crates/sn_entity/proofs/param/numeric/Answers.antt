use Rattle.std.proofs.lemmas.Result.{err_from_is_err_and}
use Rattle.sn_entity.specs.Form.{IsNumeric, HasValue}
use Rattle.sn_entity.proofs.RefusalLemmas.{refused_as}
use Rattle.sn_entity.proofs.param.numeric.Goals as goal

pub returns-in_err-number-clause-refused : goal.returns-in_err-number-clause-refused
returns-in_err-number-clause-refused c =
    let p = err_from_is_err_and c.from_residual.result c.from_residual.ensures.1 in
    rw (p.1, p.2)
    (refused_as (IsNumeric c.args.param.now) _ (HasValue c.args.measure.now c.args.param.now) _
    (λ n. n) (λ n. n) (λ v g. (g.0, g.1)) c.in_err-number.field-0.0 c.in_err-number.ensures.refused)
