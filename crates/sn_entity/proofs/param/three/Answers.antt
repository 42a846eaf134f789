use Rattle.std.proofs.lemmas.Result.{err_from_is_err_and}
use Rattle.sn_entity.proofs.ParamLemmas.{IsNumeric-from_value, three_first, three_second, three_third}
use Rattle.sn_entity.proofs.param.three.Goals as goal

pub returns-in_err-x-clause-refused : goal.returns-in_err-x-clause-refused
returns-in_err-x-clause-refused c =
    let p = err_from_is_err_and c.from_residual.result c.from_residual.ensures.1 in
    rw (p.1, p.2) (three_first c.args.measure.now c.args.a.now c.args.b.now c.args.c.now (c.is_numeric.ensures.0 c.if-not-is_numeric.false) (c.is_numeric-2.ensures.0 c.if-not-is_numeric-2.false) c.in_err-x.field-0.0 c.in_err-x.ensures.refused)

pub returns-in_err-y-clause-refused : goal.returns-in_err-y-clause-refused
returns-in_err-y-clause-refused c =
    let p = err_from_is_err_and c.from_residual-in_err-y.result c.from_residual-in_err-y.ensures.1 in
    rw (p.1, p.2) (three_second c.args.measure.now c.args.a.now c.args.b.now c.args.c.now (IsNumeric-from_value c.args.measure.now c.args.a.now c.in_ok-x.x c.in_ok-x.ensures.found) (c.is_numeric-2.ensures.0 c.if-not-is_numeric-2.false) c.in_err-y.field-0.0 c.in_err-y.ensures.refused)

pub returns-in_err-z-clause-refused : goal.returns-in_err-z-clause-refused
returns-in_err-z-clause-refused c =
    let p = err_from_is_err_and c.from_residual-in_err-z.result c.from_residual-in_err-z.ensures.1 in
    rw (p.1, p.2) (three_third c.args.measure.now c.args.a.now c.args.b.now c.args.c.now (IsNumeric-from_value c.args.measure.now c.args.a.now c.in_ok-x.x c.in_ok-x.ensures.found) (IsNumeric-from_value c.args.measure.now c.args.b.now c.in_ok-y.y c.in_ok-y.ensures.found) c.in_err-z.field-0.0 c.in_err-z.ensures.refused)
