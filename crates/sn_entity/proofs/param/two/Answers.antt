use Rattle.std.proofs.lemmas.Result.{err_from_is_err_and}
use Rattle.sn_entity.proofs.ParamLemmas.{IsNumeric-from_value, two_first, two_second}
use Rattle.sn_entity.proofs.param.two.Goals as goal

pub returns-in_err-x-clause-refused : goal.returns-in_err-x-clause-refused
returns-in_err-x-clause-refused c =
    let p = err_from_is_err_and c.from_residual.result c.from_residual.ensures.1 in
    rw (p.1, p.2) (two_first c.args.measure.now c.args.a.now c.args.b.now (c.is_numeric.ensures.0 c.if-not-is_numeric.false) c.in_err-x.field-0.0 c.in_err-x.ensures.refused)

pub returns-in_err-y-clause-refused : goal.returns-in_err-y-clause-refused
returns-in_err-y-clause-refused c =
    let p = err_from_is_err_and c.from_residual-in_err-y.result c.from_residual-in_err-y.ensures.1 in
    rw (p.1, p.2) (two_second c.args.measure.now c.args.a.now c.args.b.now (IsNumeric-from_value c.args.measure.now c.args.a.now c.in_ok-x.x c.in_ok-x.ensures.found) c.in_err-y.field-0.0 c.in_err-y.ensures.refused)
