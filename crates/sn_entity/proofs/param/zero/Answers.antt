use Rattle.std.proofs.Common.{◌≡◌, true, ⊎_elim}
use Rattle.std.proofs.lemmas.Result.{err_from_is_err_and}
use Rattle.sn_entity.proofs.ParamLemmas.{refused_zero}
use Rattle.sn_entity.proofs.param.zero.Goals as goal

pub returns-in_default-clause-refused : goal.returns-in_default-clause-refused
returns-in_default-clause-refused c = λ form. ⊎_elim
    (λ lack. let l : c.is_lack.result ≡ true = c.is_lack.ensures.1 lack in cc (l, c.if-is_lack.false))
    (λ numeric. c.in_default.ensures.none numeric.0 numeric.1) form

pub returns-in_err-read_zero-clause-refused : goal.returns-in_err-read_zero-clause-refused
returns-in_err-read_zero-clause-refused c =
    let p = err_from_is_err_and c.from_residual.result c.from_residual.ensures.1 in
    rw (p.1, p.2)
    (refused_zero c.args.param.now c.in-Some.text.now
    (λ lack. let l : c.is_lack.result ≡ true = c.is_lack.ensures.1 lack in cc (l, c.if-is_lack.false))
    c.in-Some.ensures.found c.in_err-read_zero.field-0.0 c.in_err-read_zero.ensures.refused)
